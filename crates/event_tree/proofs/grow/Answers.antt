use Rattle.event_tree.proofs.Ends.{ended_is}
use Rattle.event_tree.proofs.grow.Goals as goal

pub returns : goal.returns
returns c =
    let the-take-up = c.take_up-w in
    ended_is _ _ _ _ _ _ _ _ _ the-take-up.ensures.0 (c.set_next_id.ensures _)
