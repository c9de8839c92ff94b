-- `save_labels::settle` meets its contract: the last label given is set by its turn. Assumes nothing.
use Rattle.save_labels.proofs.Labels.{settled_is}
use Rattle.save_labels.proofs.settle.Goals as goal

pub returns : goal.returns
returns c =
    let the-turn-after = c.turn_after-v in
    λ os. settled_is c.args.numbers.now os _ c.args.octets.now _ _ (c.set_turn.ensures os) (the-turn-after.ensures os)
