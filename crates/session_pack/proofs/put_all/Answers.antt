-- `session_pack::put_all` meets its contract: message after message. Assumes nothing.
use native.Mathlib.Omega.{arith}
use Rattle.session_pack.proofs.Counting.{next-inside, message-small, message-part, part-long, writes_start, writes-room, writes-step, writes_end}
use Rattle.session_pack.proofs.put_all.Goals as goal

pub loop-i-init : goal.loop-i-init
loop-i-init c =
    writes_start _ c.requires.0 _ _ _ _ c.find-i.ensures

pub overflow_add-end : goal.overflow_add-end
overflow_add-end c = omega (arith, next-inside _ _ _ _ c.loop-i.invariant.stand c.loop-i-test.true c.message_size-k.ensures.0)

pub overflow_add-end-in-loop-i : goal.overflow_add-end-in-loop-i
overflow_add-end-in-loop-i c = omega (arith, next-inside _ _ _ _ c.loop-i.invariant.stand c.loop-i-test.true c.message_size-k.ensures.0)

pub overflow_add-i : goal.overflow_add-i
overflow_add-i c = omega (arith, next-inside _ _ _ _ c.loop-i.invariant.stand c.loop-i-test.true c.message_size-k.ensures.0)

pub slice_bounds-put_message-end : goal.slice_bounds-put_message-end
slice_bounds-put_message-end c = next-inside _ _ _ _ c.loop-i.invariant.stand c.loop-i-test.true c.message_size-k.ensures.0

pub put_message-at-requires : goal.put_message-at-requires
put_message-at-requires c =
    let the-loop = c.loop-i in
    let stand = the-loop.invariant.stand in
    let here = c.loop-i-test.true in
    let size = c.message_size-k.ensures.0 in
    let small = message-small _ _ _ _ stand here size in
    let long = part-long _ _ _ _ stand here size in
    (c.requires.0, omega (arith, long, small.0), omega (arith, long, small.1), the-loop.invariant.low, the-loop.invariant.opened, rw long (writes-room _ c.requires.0 _ _ _ _ _ _ _ the-loop.invariant here _ size c.requires.1))

pub body_after-body-requires : goal.body_after-body-requires
body_after-body-requires c =
    let the-loop = c.loop-i in
    let the-loop-test = c.loop-i-test in
    let the-message-size = c.message_size-k in
    (the-loop.invariant.low, (message-small _ _ _ _ the-loop.invariant.stand the-loop-test.true the-message-size.ensures.0).1)

pub find-i-requires-in-loop-i : goal.find-i-requires-in-loop-i
find-i-requires-in-loop-i c =
    let the-loop = c.loop-i in
    let the-loop-test = c.loop-i-test in
    let the-message-size = c.message_size-k in
    next-inside _ _ _ _ the-loop.invariant.stand the-loop-test.true the-message-size.ensures.0

pub loop-i-smaller : goal.loop-i-smaller
loop-i-smaller c =
    let the-loop-test = c.loop-i-test in
    omega (arith, c.find-i-in-loop-i.ensures.later, c.find-i-in-loop-i.ensures.ends, the-loop-test.true)

pub loop-i-preserved : goal.loop-i-preserved
loop-i-preserved c =
    let the-loop = c.loop-i in
    let the-loop-test = c.loop-i-test in
    let the-message-size = c.message_size-k in
    let the-put-message = c.put_message-at in
    let stand = the-loop.invariant.stand in
    let here = the-loop-test.true in
    let size = the-message-size.ensures.0 in
    writes-step _ c.requires.0 _ _ _ _ _ _ _ the-loop.invariant here _ _ _ _ _ _ size (message-part _ _ _ _ stand here size) the-put-message.ensures c.body_after-body.ensures.0 c.body_after-body.ensures.1 c.find-i-in-loop-i.ensures

pub shape_of-out : goal.shape_of-out
shape_of-out c = c.loop-i.invariant.long

pub returns : goal.returns
returns c =
    writes_end _ c.requires.0 _ _ _ _ _ _ _ c.loop-i.invariant c.loop-i-test.false
