-- `session_box::take_octet` meets its contract: the line goes on, or is answered. Assumes nothing.
use Rattle.std.proofs.Common.{arith}
use Rattle.bench_input.specs.Input.{next_number}
use Rattle.bench_input.proofs.Input.{after-end, after_more}
use Rattle.session_box.specs.Input.{box_left}
use Rattle.session_box.proofs.Boxed.{ended-stands, longer-stands}
use Rattle.session_box.proofs.take_octet.Goals as goal

pub returns-then-c-ne10 : goal.returns-then-c-ne10
returns-then-c-ne10 g c = λ s h. rw (after_more box_left s _ c.if-c-ne10.true) (longer-stands s _ h (omega arith) (c.keep.ensures s.octets h.keeps))

pub returns : goal.returns
unfolding next_number
returns g c =
    let the-if1 = c.if-c-ne10 in
    let the-wrapping-add-u64 = c.wrapping_add_u64-number in
    let the-reply = c.reply-done in
    λ s h. rw (after-end box_left s _ the-if1.false) (ended-stands s h the-wrapping-add-u64.ensures.value (the-reply.ensures.by_index s.octets h.keeps h.long))
