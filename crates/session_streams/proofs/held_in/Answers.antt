-- `session_streams::held_in` meets its contract. Assumes nothing.
use Rattle.session.specs.Lent.{left_in}
use Rattle.session_streams.proofs.Places.{place_is, count-is}
use Rattle.session_streams.proofs.held_in.Goals as goal

pub returns : goal.returns
unfolding left_in
returns c =
    let left = c.up_to-left.ensures in
    let most = c.limit-most.ensures in
    let place = place_is _ _ _ _ left.0 most.0 most.2 c.up_to.ensures.0 in
    let count = count-is _ _ _ _ left.0 most.0 most.2 c.up_to-2.ensures.0 in
    record { left = left.0; place = place.0; count = count.0; most = left.1; within = place.1; few = count.1 }
