-- `firmware_events::card_receive` meets its contract: it is that of `card::receive_core`. Assumes nothing.
use borrow.Author.Rules.{rules}
use Rattle.firmware_events.proofs.card_receive.Goals as goal

pub returns : goal.returns
returns c = c.receive_core.ensures
