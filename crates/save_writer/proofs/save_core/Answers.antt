-- `save_writer::save_core` meets its contract: the caller is told what `save_into` did. Assumes nothing.
use Rattle.save_writer.proofs.save_core.Goals as goal

pub returns : goal.returns
returns c = rw (c.tell.ensures.answer, c.tell.ensures.count) c.save_into.ensures
