-- `firmware_events::card_leave` meets its contract: it is that of `card::leave_core`. Assumes nothing.
use borrow.Author.Rules.{rules}
use Rattle.firmware_events.proofs.card_leave.Goals as goal

pub returns : goal.returns
returns c = c.leave_core.ensures
