use mathlib.Core.Path.{refl, sym, ap, ◌∙◌}
use Rattle.meaning_save.specs.Save.{is_branch_label}
use Rattle.save_rules_rows.proofs.RowRules.{all-hit, all-miss, all_none, branch-there, branches-end}
use mathlib.Core.Bool.{not}
use Rattle.save_rules_rows.proofs.branches_good.Goals as goal

pub loop-k-init : goal.loop-k-init
loop-k-init c = λ os. refl

pub returns-then-not-is_branch_label : goal.returns-then-not-is_branch_label
returns-then-not-is_branch_label c = λ os.
    sym (c.loop-k.invariant os ∙ all-miss _ _ _ (branch-there _ os _ _ c.requires.1.0 c.loop-k-test.true) _ _ (c.is_branch_label.ensures ∙ ap is_branch_label (c.branch-numbers.ensures os)) (ap not c.if-not-is_branch_label.true))

pub loop-k-preserved : goal.loop-k-preserved
loop-k-preserved c =
    (λ os. c.loop-k.invariant os ∙ all-hit _ _ _ (branch-there _ os _ _ c.requires.1.0 c.loop-k-test.true) _ _ (c.is_branch_label.ensures ∙ ap is_branch_label (c.branch-numbers.ensures os)) (ap not c.if-not-is_branch_label.false))

pub returns : goal.returns
returns c = λ os. sym (c.loop-k.invariant os ∙ all_none _ _ (branches-end _ os _ _ c.requires.1.0 c.loop-k-test.false) _)
