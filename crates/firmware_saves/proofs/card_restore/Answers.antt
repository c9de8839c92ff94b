-- `firmware_saves::card_restore` meets its contract: that of the call, with its form. Assumes nothing.
use Rattle.meaning_save.specs.Save.{form_of}
use borrow.Author.Rules.{rules}
use Rattle.firmware_saves.proofs.card_restore.Goals as goal

pub returns : goal.returns
unfolding form_of
returns c = c.restore.ensures
