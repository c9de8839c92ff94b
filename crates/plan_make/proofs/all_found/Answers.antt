use Prim.Native.Nat.{◌*◌}
use native.Mathlib.Omega.{arith}
use mathlib.Core.Path.{refl, sym, ◌∙◌}
use Rattle.meaning_plan.specs.Plan.{is_found}
use Rattle.meaning_plan.specs.PlanOctets.{entry_size}
use Rattle.save_rules_rows.proofs.RowRules.{all-hit, all-miss, all_none}
use Rattle.plan_check.proofs.Checking.{entry-via, entry-there, entries-end}
use Rattle.plan_make.proofs.Proposing.{not_found, found}
use Rattle.plan_make.proofs.all_found.Goals as goal

pub returns-then-at-ge-NO_CHOICE : goal.returns-then-at-ge-NO_CHOICE
returns-then-at-ge-NO_CHOICE c =
    let o = c.args.list.now in
    let i = c.loop-i.i in
    sym (c.loop-i.invariant ∙ all-miss _ i _ (entry-there o i (omega arith)) is_found _ refl (not_found _ _ (entry-via o (i * entry_size) _ c.at.ensures.0) c.if-at-ge-NO_CHOICE.true))

pub loop-i-preserved : goal.loop-i-preserved
loop-i-preserved c =
    let o = c.args.list.now in
    let i = c.loop-i.i in
    c.loop-i.invariant ∙ all-hit _ i _ (entry-there o i (omega arith)) is_found _ refl (found _ _ (entry-via o (i * entry_size) _ c.at.ensures.0) c.if-at-ge-NO_CHOICE.false)

pub returns : goal.returns
returns c = sym (c.loop-i.invariant ∙ all_none _ _ (entries-end c.args.list.now c.loop-i.i (omega arith)) _)
