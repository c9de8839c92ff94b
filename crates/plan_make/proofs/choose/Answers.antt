use native.Mathlib.Omega.{arith}
use Rattle.plan_make.proofs.Choosing.{best_none, least-none, best-new, best-stays, chosen_last, as-offered}
use Rattle.plan_make.proofs.choose.Goals as goal

pub loop-v-init : goal.loop-v-init
loop-v-init c = (omega arith, omega arith, best_none _ _, least-none _ _)

pub loop-v-preserved-then-need-least : goal.loop-v-preserved-then-need-least
loop-v-preserved-then-need-least c =
    let v = c.loop-v.invariant in
    let n = best-new _ _ c.loop-v.v _ _ _ (omega arith) (omega arith) v.2 v.3 (as-offered _ _ _ _ _ _ c.offer-need.ensures.0) v.1 c.if-need-least.true in
    (omega arith, omega arith, n.0, n.1)

pub loop-v-preserved : goal.loop-v-preserved
loop-v-preserved c =
    let v = c.loop-v.invariant in
    (v.0, v.1, best-stays _ _ c.loop-v.v _ _ _ (omega arith) (omega arith) v.2 v.3 (as-offered _ _ _ _ _ _ c.offer-need.ensures.0) c.offer-need.ensures.1 c.if-need-least.false, v.3)

pub returns : goal.returns
returns c = (chosen_last _ _ _ _ _ c.loop-v.v (omega arith) c.loop-v.invariant.2, c.loop-v.invariant.0)
