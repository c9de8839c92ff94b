-- `bench_answers::tell_call` meets its contract: the octets that the call wrote are those that the line tells. Assumes nothing.
use native.Mathlib.Omega.{arith}
use Rattle.meaning_laws.specs.Handed.{handed-count}
use Rattle.bench_answers.proofs.Held.{says-called, called-fits}
use Rattle.bench_answers.proofs.tell_call.Goals as goal

pub slice_bounds-put_event-end : goal.slice_bounds-put_event-end
slice_bounds-put_event-end c = omega (arith, called-fits _ _ _ _ _ c.call-n.ensures)

pub slice_bounds-put_event-end-2 : goal.slice_bounds-put_event-end-2
slice_bounds-put_event-end-2 c = handed-count _ _ _ _ _ _ c.call-n.ensures

pub put_event-requires : goal.put_event-requires
put_event-requires c =
    let does = c.call-n.ensures in
    (c.word_of.ensures.1, omega (arith, handed-count _ _ _ _ _ _ does, called-fits _ _ _ _ _ does), c.requires.2)

pub returns : goal.returns
returns c =
    let told = c.put_event.ensures in
    λ number room l el eo. says-called number room _ l c.args.order c.requires.0 el eo c.call-n.ensures told.upper_bound (rw c.word_of.ensures.0 at told.text_after)
