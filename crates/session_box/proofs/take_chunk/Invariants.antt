-- `session_box::take_chunk` meets its contract. Assumes nothing.
use Rattle.std.proofs.Common.{take}
use Rattle.card.specs.Table.{card_of}
use Rattle.bench_input.specs.Input.{Stand, after_all}
use Rattle.session_replies.specs.Done.{Box}
use Rattle.session_replies.specs.Four.{streams_of, box_of}
use Rattle.session_box.specs.Input.{box_left, Stands}
use Rattle.session_box.proofs.take_chunk.Given as goal

abbrev pub invariant-loop-c : goal.invariant-loop-c
invariant-loop-c g l =
    (s : Stand Box) → Stands s l.initial.state.number (box_of l.initial.state.room (card_of l.initial.numbers l.initial.names) (streams_of l.initial.streams l.initial.buffers)) l.initial.line l.initial.state.kept
    → Stands (after_all box_left s (take l.c-index l.chunk)) l.state.number (box_of l.state.room (card_of l.numbers l.names) (streams_of l.streams l.buffers)) l.line l.state.kept
