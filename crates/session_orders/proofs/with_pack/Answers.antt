use Rattle.session_orders.proofs.Asked.{pack-none, pack-taken}
use Rattle.session_orders.proofs.with_pack.Goals as goal

pub returns-in_err-neighbour : goal.returns-in_err-neighbour
returns-in_err-neighbour c = rw c.from_residual.ensures (pack-none _ _ _ c.number_hex.ensures c.in_err-neighbour.was)

pub returns : goal.returns
returns c = pack-taken _ _ _ c.number_hex.ensures _ c.in_ok-neighbour.was
