-- `firmware_events::card_lost` meets its contract: it is that of `card::lost_core`. Assumes nothing.
use borrow.Author.Rules.{rules}
use Rattle.firmware_events.proofs.card_lost.Goals as goal

pub returns : goal.returns
returns c = c.lost_core.ensures
