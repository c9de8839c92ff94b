-- `firmware_lookups::card_lookup_label` meets its contract: it is that of `card_lookups::lookup_label_core`. Assumes nothing.
use borrow.Author.Rules.{rules}
use Rattle.firmware_lookups.proofs.card_lookup_label.Goals as goal

pub returns : goal.returns
returns c = c.lookup_label_core.ensures
