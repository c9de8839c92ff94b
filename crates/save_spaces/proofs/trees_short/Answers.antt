use mathlib.Core.Path.{refl, sym, ◌∙◌}
use Rattle.save_rules_rows.proofs.RowRules.{all-hit, all-miss, all_none, tree-there, trees-end}
use mathlib.Core.Path.{ap}
use mathlib.Core.Bool.{not}
use Rattle.save_spaces.proofs.trees_short.Goals as goal

pub loop-i-init : goal.loop-i-init
loop-i-init c = refl

pub returns-then-not-is_short_tree : goal.returns-then-not-is_short_tree
returns-then-not-is_short_tree c =
    sym (c.loop-i.invariant ∙ all-miss _ _ _ (tree-there _ _ _ _ c.tree_count-n.ensures.0 c.loop-i-test.true) _ _ c.is_short_tree.ensures (ap not c.if-not-is_short_tree.true))

pub loop-i-preserved : goal.loop-i-preserved
loop-i-preserved c =
    c.loop-i.invariant ∙ all-hit _ _ _ (tree-there _ _ _ _ c.tree_count-n.ensures.0 c.loop-i-test.true) _ _ c.is_short_tree.ensures (ap not c.if-not-is_short_tree.false)

pub returns : goal.returns
returns c = sym (c.loop-i.invariant ∙ all_none _ _ (trees-end _ _ _ _ c.tree_count-n.ensures.0 c.loop-i-test.false) _)
