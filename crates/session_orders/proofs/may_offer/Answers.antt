use borrow.Author.Tests.{lt-ltb, le-ltb}
use Rattle.session_orders.specs.Told.{stream_count, may_offer}
use Rattle.session_orders.proofs.may_offer.Goals as goal

pub returns-then-neighbour-lt-STREAM_COUNT : goal.returns-then-neighbour-lt-STREAM_COUNT
unfolding may_offer
returns-then-neighbour-lt-STREAM_COUNT c = rw (lt-ltb c.args.neighbour stream_count c.if-neighbour-lt-STREAM_COUNT.true)

pub returns-else-neighbour-lt-STREAM_COUNT : goal.returns-else-neighbour-lt-STREAM_COUNT
unfolding may_offer
returns-else-neighbour-lt-STREAM_COUNT c = rw (le-ltb c.args.neighbour stream_count c.if-neighbour-lt-STREAM_COUNT.false)
