-- `firmware_saves::card_older` meets its contract: that of the core, from its form. Assumes nothing.
use Rattle.save_mover.proofs.Moving.{as-older}
use borrow.Author.Rules.{rules}
use Rattle.firmware_saves.proofs.card_older.Goals as goal

pub returns : goal.returns
returns c = as-older _ _ _ _ _ _ c.move_core.ensures
