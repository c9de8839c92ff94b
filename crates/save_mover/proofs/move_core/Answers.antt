-- `save_mover::move_core` meets its contract: the caller is told what `moved` did. Assumes nothing.
use Rattle.save_mover.proofs.move_core.Goals as goal

pub returns : goal.returns
returns c = rw (c.tell.ensures.answer, c.tell.ensures.count) c.moved.ensures
