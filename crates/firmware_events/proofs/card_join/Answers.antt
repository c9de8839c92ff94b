-- `firmware_events::card_join` meets its contract: it is that of `card::join_core`. Assumes nothing.
use borrow.Author.Rules.{rules}
use Rattle.firmware_events.proofs.card_join.Goals as goal

pub returns : goal.returns
returns c = c.join_core.ensures
