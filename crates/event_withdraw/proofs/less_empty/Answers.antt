use Rattle.memory.proofs.Trees.{branches-length}
use Rattle.event_withdraw.proofs.Withdrawn.{leaf-left, none_left}
use mathlib.Core.Path.{sym, ◌∙◌}
use Rattle.event_withdraw.proofs.less_empty.Goals as goal

pub returns-else-not-is_leaf : goal.returns-else-not-is_leaf
returns-else-not-is_leaf c = λ os. rw c.if-not-is_leaf.false (leaf-left _ _ _ (sym (c.is_leaf.ensures os) ∙ c.if-not-is_leaf.false))

pub returns-then-not-is_leaf : goal.returns-then-not-is_leaf
returns-then-not-is_leaf c =
    λ os. none_left _ _ _ _ (branches-length _ os _ c.requires.2.0) (c.any_branch.ensures os) (sym (c.is_leaf.ensures os) ∙ c.if-not-is_leaf.true)
