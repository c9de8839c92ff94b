use native.Mathlib.Omega.{arith}
use Rattle.session_orders.proofs.Asked.{near-stream, far-stream, lost-stream, no_stream}
use Rattle.session_orders.proofs.stream_of.Goals as goal

pub returns-then-neighbour-lt-STREAM_COUNT : goal.returns-then-neighbour-lt-STREAM_COUNT
returns-then-neighbour-lt-STREAM_COUNT c = record { by_index = λ l. near-stream l _ _ _ c.in-Octets.is c.if-neighbour-lt-STREAM_COUNT.true; by_index_2 = λ l h. c.if-neighbour-lt-STREAM_COUNT.true }

pub returns-else-neighbour-lt-STREAM_COUNT : goal.returns-else-neighbour-lt-STREAM_COUNT
returns-else-neighbour-lt-STREAM_COUNT c = record { by_index = λ l. far-stream l _ _ _ c.in-Octets.is c.if-neighbour-lt-STREAM_COUNT.false; by_index_2 = λ l h. omega arith }

pub returns-in-Lost : goal.returns-in-Lost
returns-in-Lost c = record { by_index = λ l. (lost-stream l _ _ c.in-Lost.is).0; by_index_2 = λ l h. (lost-stream l _ _ c.in-Lost.is).1 h }

pub returns-in_default : goal.returns-in_default
returns-in_default c = record { by_index = λ l. no_stream l _ c.in_default.in_default-own.keys3; by_index_2 = λ l h. omega arith }
