-- `firmware_lookups::card_free_labels` meets its contract: it is that of `card_lookups::free_labels`. Assumes nothing.
use borrow.Author.Rules.{rules}
use Rattle.firmware_lookups.proofs.card_free_labels.Goals as goal

pub returns : goal.returns
returns c = c.free_labels.ensures
