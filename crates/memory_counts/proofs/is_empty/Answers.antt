use Rattle.memory_counts.proofs.Counting.{empty_leaf, empty-row}
use mathlib.Core.Path.{sym, ap, ◌∙◌}
use mathlib.Core.Bool.{not}
use Rattle.memory_counts.proofs.is_empty.Goals as goal

pub returns-then-not-is_leaf : goal.returns-then-not-is_leaf
returns-then-not-is_leaf c =
    λ os. empty-row _ os _ c.requires.1.0 _ (c.any_branch.ensures os) (sym c.if-not-is_leaf.true ∙ c.is_leaf.ensures os)

pub returns-else-not-is_leaf : goal.returns-else-not-is_leaf
returns-else-not-is_leaf c =
    λ os. ap not c.if-not-is_leaf.false ∙ empty_leaf _ (sym c.if-not-is_leaf.false ∙ c.is_leaf.ensures os)
