-- `bench::take_octet` meets its contract: the line goes on, or is answered. Assumes nothing.
use Rattle.std.proofs.Common.{arith}
use Rattle.bench_input.specs.Input.{next_number}
use Rattle.bench_input.proofs.Input.{after-end, after_more}
use Rattle.bench.specs.Input.{seat_after}
use Rattle.bench.proofs.Input.{ended-stands, longer-stands}
use Rattle.bench.proofs.take_octet.Goals as goal

pub returns-then-c-ne10 : goal.returns-then-c-ne10
returns-then-c-ne10 g c = λ s h. rw (after_more seat_after s _ c.if-c-ne10.true) (longer-stands s _ h (omega arith) (c.keep.ensures s.octets h.keeps))

pub returns : goal.returns
unfolding next_number
returns g c =
    let the-if1 = c.if-c-ne10 in
    let the-wrapping-add-u64 = c.wrapping_add_u64-number in
    let the-reply = c.reply-done in
    λ s h. rw (after-end seat_after s _ the-if1.false) (ended-stands s h the-wrapping-add-u64.ensures.value (the-reply.ensures.by_index s.octets h.keeps h.long))
