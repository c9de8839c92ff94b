use mathlib.Core.Path.{refl, sym, ◌∙◌}
use Rattle.save_rules_rows.proofs.RowRules.{all-hit, all-miss, all_none, tree-there, trees-end}
use mathlib.Core.Path.{ap}
use mathlib.Core.Bool.{not}
use Rattle.save_rules.proofs.own_labels.Goals as goal

pub loop-i-init : goal.loop-i-init
loop-i-init c = refl

pub returns-then-not-carries_own : goal.returns-then-not-carries_own
returns-then-not-carries_own c =
    sym (c.loop-i.invariant ∙ all-miss _ _ _ (tree-there _ _ _ _ c.tree_count-n.ensures.0 c.loop-i-test.true) _ _ c.carries_own.ensures (ap not c.if-not-carries_own.true))

pub loop-i-preserved : goal.loop-i-preserved
loop-i-preserved c =
    c.loop-i.invariant ∙ all-hit _ _ _ (tree-there _ _ _ _ c.tree_count-n.ensures.0 c.loop-i-test.true) _ _ c.carries_own.ensures (ap not c.if-not-carries_own.false)

pub returns : goal.returns
returns c = sym (c.loop-i.invariant ∙ all_none _ _ (trees-end _ _ _ _ c.tree_count-n.ensures.0 c.loop-i-test.false) _)
