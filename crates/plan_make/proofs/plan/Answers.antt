use native.Mathlib.Omega.{arith}
use Rattle.plan_make.specs.Plan.{entries_of}
use Rattle.plan_make.proofs.Proposing.{plan-far, plan-listed, plan-none}
use Rattle.plan_make.proofs.plan.Goals as goal

pub returns-then-n-gt15 : goal.returns-then-n-gt15
unfolding entries_of
returns-then-n-gt15 c =
    let l = plan-far _ _ _ c.if-n-gt15.true _ in
    record { fact = (l.0, l.1); result_bound = (omega arith, l.2) }

pub returns-then-is_plan : goal.returns-then-is_plan
unfolding entries_of
returns-then-is_plan c =
    let the-if1 = c.if-n-gt15 in
    let the-propose = c.propose-k in
    let the-is-plan = c.is_plan in
    let the-if2 = c.if-is_plan in
    let l = plan-listed _ _ _ the-if1.false _ _ the-propose.ensures.2 _ the-is-plan.ensures the-if2.true _ _ c.put_front.ensures in
    record { fact = (l.0, l.1); result_bound = (the-propose.ensures.1, l.2) }

pub returns : goal.returns
unfolding entries_of
returns c =
    let the-if1 = c.if-n-gt15 in
    let the-propose = c.propose-k in
    let l = plan-none _ _ _ the-if1.false _ _ the-propose.ensures.2 _ c.is_plan.ensures c.if-is_plan.false _ in
    record { fact = (l.0, l.1); result_bound = (omega arith, l.2) }
