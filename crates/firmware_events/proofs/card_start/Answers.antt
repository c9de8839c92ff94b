-- `firmware_events::card_start` meets its contract: it is that of `card::start`. Assumes nothing.
use borrow.Author.Rules.{rules}
use Rattle.firmware_events.proofs.card_start.Goals as goal

pub returns : goal.returns
returns c = c.start.ensures
