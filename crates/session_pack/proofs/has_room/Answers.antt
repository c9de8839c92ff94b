-- `session_pack::has_room` meets its contract: message after message, what is left of the room. Assumes nothing.
use native.Mathlib.Omega.{arith}
use Rattle.session_pack.proofs.Counting.{sized, next-inside, message-small, counts_start, counts-short, counts_step, counts_end}
use Rattle.session_pack.proofs.has_room.Goals as goal

pub loop-i-init : goal.loop-i-init
loop-i-init c = counts_start _ _ _ _ c.find-i.ensures

pub added_by-more-requires : goal.added_by-more-requires
added_by-more-requires c = (c.loop-i.invariant.low, (message-small _ _ _ _ c.loop-i.invariant.at c.loop-i-test.true c.message_size-k.ensures.0).1)

pub returns-then-left-more : goal.returns-then-left-more
returns-then-left-more c =
    let the-loop = c.loop-i in
    sized _ c.requires _ _ _ _ (counts-short _ _ _ _ _ _ the-loop.invariant c.loop-i-test.true _ _ c.message_size-k.ensures.0 c.added_by-more.ensures.0 c.if-left-more.true)

pub body_after-body-requires : goal.body_after-body-requires
body_after-body-requires c =
    let the-loop = c.loop-i in
    (the-loop.invariant.low, (message-small _ _ _ _ the-loop.invariant.at c.loop-i-test.true c.message_size-k.ensures.0).1)

pub overflow_add-i : goal.overflow_add-i
overflow_add-i c =
    let the-loop = c.loop-i in
    let the-loop-test = c.loop-i-test in
    omega (arith, next-inside _ _ _ _ the-loop.invariant.at the-loop-test.true c.message_size-k.ensures.0)

pub overflow_add-i-in-loop-i : goal.overflow_add-i-in-loop-i
overflow_add-i-in-loop-i c =
    let the-loop = c.loop-i in
    let the-loop-test = c.loop-i-test in
    omega (arith, next-inside _ _ _ _ the-loop.invariant.at the-loop-test.true c.message_size-k.ensures.0)

pub find-i-requires-in-loop-i : goal.find-i-requires-in-loop-i
find-i-requires-in-loop-i c =
    let the-loop = c.loop-i in
    let the-loop-test = c.loop-i-test in
    next-inside _ _ _ _ the-loop.invariant.at the-loop-test.true c.message_size-k.ensures.0

pub loop-i-smaller : goal.loop-i-smaller
loop-i-smaller c =
    let the-loop-test = c.loop-i-test in
    omega (arith, c.find-i-in-loop-i.ensures.later, c.find-i-in-loop-i.ensures.ends, the-loop-test.true)

pub loop-i-preserved : goal.loop-i-preserved
loop-i-preserved c =
    let the-loop = c.loop-i in
    let the-loop-test = c.loop-i-test in
    let the-message-size = c.message_size-k in
    counts_step _ _ _ _ _ _ the-loop.invariant the-loop-test.true _ _ _ _ the-message-size.ensures.0 c.added_by-more.ensures.0 c.body_after-body.ensures.0 c.body_after-body.ensures.1 c.if-left-more.false c.find-i-in-loop-i.ensures

pub returns : goal.returns
returns c =
    sized _ c.requires _ _ _ _ (counts_end _ _ _ _ _ _ c.loop-i.invariant c.loop-i-test.false)
