-- `bench_plans::on_planned` meets its contract, by the order's variant. Assumes nothing.
use Rattle.bench_orders.specs.Tells.{meant}
use Rattle.bench_replies.specs.Kinds.{Kind}
use Rattle.bench_replies.proofs.Arms.{of_others}
use Rattle.bench_replies.proofs.Reply.{lies}
use Rattle.bench_words.proofs.Words.{part-short}
use borrow.Enum.Refused.{opened}
use Rattle.bench_plans.proofs.on_planned.Goals as goal

pub of-requires : goal.of-requires
of-requires c =
    let word = lies _ _ _ c.requires.0 c.in-Plan.is in
    (word.0, word.1)

pub on_plan-requires : goal.on_plan-requires
on_plan-requires c = (rw c.of.ensures (part-short _ _ _ _ (lies _ _ _ c.requires.0 c.in-Plan.is)), c.requires.2)

pub of-requires-in-Vet : goal.of-requires-in-Vet
of-requires-in-Vet c =
    let words = lies _ _ _ c.requires.0 c.in-Vet.is in
    (words.0.0, words.0.1)

pub of-requires-in-Vet-2 : goal.of-requires-in-Vet-2
of-requires-in-Vet-2 c =
    let words = lies _ _ _ c.requires.0 c.in-Vet.is in
    (words.1.0, words.1.1)

pub on_vet-requires : goal.on_vet-requires
on_vet-requires c =
    let words = lies _ _ _ c.requires.0 c.in-Vet.is in
    (rw c.of-in-Vet.ensures (part-short _ _ _ _ words.0), rw c.of-in-Vet-2.ensures (part-short _ _ _ _ words.1), c.requires.2)

pub returns-in-Plan : goal.returns-in-Plan
unfolding meant
returns-in-Plan c = λ number room. rw c.in-Plan.is (rw c.of.ensures at (c.on_plan.ensures number room))

pub returns-in-Vet : goal.returns-in-Vet
unfolding meant
returns-in-Vet c = λ number room. rw c.in-Vet.is (rw (c.of-in-Vet.ensures, c.of-in-Vet-2.ensures) at (c.on_vet.ensures number room))

pub returns-in_default : goal.returns-in_default
returns-in_default c = λ number room. absurd (of_others Kind.plans c.args.order (opened c.in_default.in_default-own.keys3) c.requires.1)
