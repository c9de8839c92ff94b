-- `firmware_events::card_route` meets its contract: it is that of `card::route_core`. Assumes nothing.
use borrow.Author.Rules.{rules}
use Rattle.firmware_events.proofs.card_route.Goals as goal

pub returns : goal.returns
returns c = c.route_core.ensures
