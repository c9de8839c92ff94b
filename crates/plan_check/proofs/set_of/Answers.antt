use Prim.Native.Nat.{◌*◌}
use native.Mathlib.Omega.{arith}
use mathlib.Core.Path.{sym, ◌∙◌}
use Rattle.meaning_plan.specs.PlanOctets.{set_size}
use Rattle.plan_check.proofs.Checking.{set-equal, set-two, set_there, sets_end, set-hit, set-miss, set-none}
use Rattle.plan_check.proofs.set_of.Goals as goal

pub returns-then-equal : goal.returns-then-equal
returns-then-equal c =
    let o = c.args.sets.now in
    let i = c.loop-i.i in
    sym (c.loop-i.invariant ∙ set-hit _ i _ _ (set_there o i (omega arith)) (sym (set-equal o (i * set_size) _ _ _ c.root_at.ensures.0 c.equal.ensures) ∙ c.if-equal.true) ∙ sym (set-two o (i * set_size) _ c.two_at.ensures.0))

pub loop-i-preserved : goal.loop-i-preserved
loop-i-preserved c =
    let o = c.args.sets.now in
    let i = c.loop-i.i in
    c.loop-i.invariant ∙ set-miss _ i _ _ (set_there o i (omega arith)) (sym (set-equal o (i * set_size) _ _ _ c.root_at.ensures.0 c.equal.ensures) ∙ c.if-equal.false)

pub returns : goal.returns
returns c = sym (c.loop-i.invariant ∙ set-none _ _ _ (sets_end c.args.sets.now c.loop-i.i (omega arith)))
