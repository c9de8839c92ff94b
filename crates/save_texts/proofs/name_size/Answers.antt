-- `save_texts::name_size` meets its contract, in either form. Assumes nothing.
use Rattle.save_texts.proofs.Texts.{size-new, size-old}
use Rattle.save_texts.proofs.name_size.Goals as goal

pub returns-then-second : goal.returns-then-second
returns-then-second c = size-new _ _ _ c.if-second.true c.fitting.ensures.0 c.fitting.ensures.1

pub returns : goal.returns
returns c = size-old _ _ c.if-second.false
