use mathlib.Core.Path.{sym, ◌∙◌}
use Rattle.memory.proofs.Trees.{branches-length}
use Rattle.save_rules_rows.proofs.RowRules.{leaf-leads, branch_leads}
use Rattle.save_rules_rows.proofs.leads_somewhere.Goals as goal

pub returns-then-is_leaf : goal.returns-then-is_leaf
returns-then-is_leaf c = λ os. c.if-is_leaf.true ∙ sym (leaf-leads _ _ (c.is_leaf.ensures os) c.if-is_leaf.true)

pub returns-else-is_leaf : goal.returns-else-is_leaf
returns-else-is_leaf c = λ os.
    branch_leads _ _ _ (branches-length _ os _ c.requires.1.0) (c.is_leaf.ensures os) c.if-is_leaf.false (c.any_branch.ensures os)
