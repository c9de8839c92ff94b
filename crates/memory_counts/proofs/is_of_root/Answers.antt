use Rattle.memory_counts.proofs.Counting.{of-root, of-root-not}
use mathlib.Core.Path.{◌∙◌}
use Rattle.memory_counts.proofs.is_of_root.Goals as goal

pub returns-then-may_be_of : goal.returns-then-may_be_of
returns-then-may_be_of c = λ ns h. of-root _ _ _ _ _ c.equal.ensures c.root_of.ensures (c.tree_name.ensures.0 ns h)

pub returns-else-may_be_of : goal.returns-else-may_be_of
returns-else-may_be_of c = λ ns h. c.if-may_be_of.false ∙ of-root-not _ _ ns _ h (c.may_be_of.ensures c.if-may_be_of.false)
