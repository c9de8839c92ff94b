-- `firmware_lookups::card_lookup_name` meets its contract: it is that of `card_lookups::lookup_name_core`. Assumes nothing.
use borrow.Author.Rules.{rules}
use Rattle.firmware_lookups.proofs.card_lookup_name.Goals as goal

pub returns : goal.returns
returns c = c.lookup_name_core.ensures
