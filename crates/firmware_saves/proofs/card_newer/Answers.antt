-- `firmware_saves::card_newer` meets its contract: that of the core, from its form. Assumes nothing.
use Rattle.save_mover.proofs.Moving.{as-newer}
use borrow.Author.Rules.{rules}
use Rattle.firmware_saves.proofs.card_newer.Goals as goal

pub returns : goal.returns
returns c = as-newer _ _ _ _ _ _ c.move_core.ensures
