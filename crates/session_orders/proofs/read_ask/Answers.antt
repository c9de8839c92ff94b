use Rattle.session_orders.proofs.Asked.{asked}
use Rattle.session_orders.proofs.read_ask.Goals as goal

pub returns : goal.returns
returns c = rw c.unwrap_or.ensures (asked _ _ _ c.own_ask.ensures)
