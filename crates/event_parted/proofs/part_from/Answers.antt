use Rattle.event_parted.proofs.Routes.{all-gone}
use Rattle.event_parted.proofs.part_from.Goals as goal

pub returns : goal.returns
returns c =
    let the-end-branches = c.end_branches in
    let the-free-labels = c.free_labels in
    let the-end-routes = c.end_routes in
    all-gone _ _ _ _ _ the-end-branches.ensures (the-free-labels.ensures _) the-end-routes.ensures
