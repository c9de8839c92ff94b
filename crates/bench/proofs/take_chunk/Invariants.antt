-- `bench::take_chunk` meets its contract. Assumes nothing.
use Rattle.std.proofs.Common.{take}
use Rattle.memory.specs.Memory.{card_of}
use Rattle.bench_input.specs.Input.{Stand, after_all}
use Rattle.bench.specs.Input.{Seat, seat_after, Stands}
use Rattle.bench.proofs.take_chunk.Given as goal

abbrev pub invariant-loop-c : goal.invariant-loop-c
invariant-loop-c g l =
    (s : Stand Seat) → Stands s l.initial.state.number l.initial.state.room (card_of l.initial.numbers l.initial.names) l.initial.line l.initial.state.kept
    → Stands (after_all seat_after s (take l.c-index l.chunk)) l.state.number l.state.room (card_of l.numbers l.names) l.line l.state.kept
