use mathlib.Core.Path.{refl, sym, ◌∙◌}
use Rattle.save_rules_rows.proofs.RowRules.{all-hit, all-miss, all_none, label-there, labels-end}
use mathlib.Core.Path.{ap}
use mathlib.Core.Bool.{not}
use Rattle.save_spaces.proofs.uses_short.Goals as goal

pub loop-p-init : goal.loop-p-init
loop-p-init c = refl

pub returns-then-not-is_short_use : goal.returns-then-not-is_short_use
returns-then-not-is_short_use c =
    sym (c.loop-p.invariant ∙ all-miss _ _ _ (label-there _ _ _ c.loop-p-test.true) _ _ c.is_short_use.ensures (ap not c.if-not-is_short_use.true))

pub loop-p-preserved : goal.loop-p-preserved
loop-p-preserved c =
    c.loop-p.invariant ∙ all-hit _ _ _ (label-there _ _ _ c.loop-p-test.true) _ _ c.is_short_use.ensures (ap not c.if-not-is_short_use.false)

pub returns : goal.returns
returns c = sym (c.loop-p.invariant ∙ all_none _ _ (labels-end _ _ _ c.loop-p-test.false) _)
