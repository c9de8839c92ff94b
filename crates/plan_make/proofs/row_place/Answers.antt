use Prim.Native.Nat.{◌*◌}
use native.Mathlib.Omega.{arith}
use mathlib.Core.Path.{sym, ◌∙◌}
use Rattle.meaning_plan.specs.PlanOctets.{entry_size}
use Rattle.meaning_plan.specs.Loops.{entries-length}
use Rattle.plan_check.proofs.Checking.{entry-root}
use Rattle.plan_make.proofs.Rows.{place-hit, place-miss, place_none, row-there, row-after}
use Rattle.plan_make.proofs.row_place.Goals as goal

pub returns-then-is_before : goal.returns-then-is_before
returns-then-is_before c =
    let o = c.args.rows.now in
    let i = c.loop-i.i in
    (omega arith, sym (c.loop-i.invariant ∙ place-hit _ _ i _ (row-there o _ i (omega arith)) (sym (row-after o (i * entry_size) _ _ _ (entry-root o (i * entry_size) _ c.root_at.ensures.0) c.is_before.ensures) ∙ c.if-is_before.true)))

pub loop-i-preserved : goal.loop-i-preserved
loop-i-preserved c =
    let o = c.args.rows.now in
    let i = c.loop-i.i in
    c.loop-i.invariant ∙ place-miss _ _ i _ (row-there o c.args.k i (omega arith)) (sym (row-after o (i * entry_size) _ _ _ (entry-root o (i * entry_size) _ c.root_at.ensures.0) c.is_before.ensures) ∙ c.if-is_before.false)

pub returns : goal.returns
returns c = (omega arith, sym (c.loop-i.invariant ∙ place_none _ _ c.loop-i.i c.args.k (entries-length _ _) (omega arith) (omega arith)))
