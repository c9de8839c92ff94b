use Rattle.session_orders.proofs.Asked.{lost-none, lost-taken, lost-passed}
use Rattle.session_orders.proofs.with_lost.Goals as goal

pub returns-in_err-neighbour : goal.returns-in_err-neighbour
returns-in_err-neighbour c = rw c.from_residual.ensures (lost-none _ _ _ c.lone_number.ensures c.in_err-neighbour.was)

pub returns-then-neighbour-lt-STREAM_COUNT : goal.returns-then-neighbour-lt-STREAM_COUNT
returns-then-neighbour-lt-STREAM_COUNT c = lost-taken _ _ _ _ c.lone_number.ensures c.in_ok-neighbour.was c.if-neighbour-lt-STREAM_COUNT.true

pub returns-else-neighbour-lt-STREAM_COUNT : goal.returns-else-neighbour-lt-STREAM_COUNT
returns-else-neighbour-lt-STREAM_COUNT c = lost-passed _ _ _ _ c.lone_number.ensures c.in_ok-neighbour.was c.if-neighbour-lt-STREAM_COUNT.false
