-- `session_calls::serve_core` meets its contract: 1, the two of 20, and the call. Assumes nothing.
use Rattle.session_calls.proofs.Serving.{serves-far, serves-little, serves-short, serves-accepted}
use borrow.Author.Rules.{rules}
use Rattle.session_calls.proofs.serve_core.Goals as goal

pub returns-then-neighbour-gt15 : goal.returns-then-neighbour-gt15
returns-then-neighbour-gt15 c = serves-far _ _ _ _ _ _ _ _ c.if-neighbour-gt15.true

pub returns-then-out-lt-MESSAGE_ROOM : goal.returns-then-out-lt-MESSAGE_ROOM
returns-then-out-lt-MESSAGE_ROOM c = serves-little _ _ _ _ _ _ _ _ c.if-neighbour-gt15.false c.if-out-lt-MESSAGE_ROOM.true

pub returns-then-buffer-lt-STREAM_ROOM : goal.returns-then-buffer-lt-STREAM_ROOM
returns-then-buffer-lt-STREAM_ROOM c = serves-short _ _ _ _ _ _ _ _ c.if-neighbour-gt15.false c.if-out-lt-MESSAGE_ROOM.false c.if-buffer-lt-STREAM_ROOM.true

pub returns : goal.returns
returns c =
    let the-if1 = c.if-neighbour-gt15 in
    let the-if2 = c.if-out-lt-MESSAGE_ROOM in
    let the-if3 = c.if-buffer-lt-STREAM_ROOM in
    let the-serve-open = c.serve_open in
    serves-accepted _ _ _ _ _ _ _ _ the-if1.false the-if2.false the-if3.false _ _ _ _ _ _ the-serve-open.ensures.1
