use Rattle.event_parted.proofs.Routes.{less-gone, less-stays}
use Rattle.event_parted.proofs.end_route.Goals as goal

pub returns-then-route_via-n : goal.returns-then-route_via-n
returns-then-route_via-n c =
    let the-route-via = c.route_via in
    let the-if1 = c.if-route_via-n in
    let the-remove-route = c.remove_route in
    less-gone _ _ _ c.requires.2 _ _ (the-route-via.ensures _) the-if1.true _ the-remove-route.ensures

pub returns : goal.returns
returns c =
    less-stays _ _ _ c.requires.2 _ _ (c.route_via.ensures _) c.if-route_via-n.false
