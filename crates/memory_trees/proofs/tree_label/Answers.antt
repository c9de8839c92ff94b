use native.Mathlib.Omega.{arith}
use mathlib.Core.Path.{sym, ◌∙◌}
use Rattle.memory.specs.Memory.{own_place}
use Rattle.memory.proofs.Marks.{carried-out}
use Rattle.memory.proofs.Trees.{label-some, label-none}
use Rattle.memory_trees.proofs.tree_label.Goals as goal

pub overflow_add-result-then-own_counts : goal.overflow_add-result-then-own_counts
overflow_add-result-then-own_counts c =
    omega (arith, (carried-out c.args.numbers.now c.args.i (own_place c.args.numbers.now c.args.i) (sym c.own_counts.ensures ∙ c.if-own_counts.true)).0)

pub returns-then-own_counts : goal.returns-then-own_counts
returns-then-own_counts c =
    λ os. label-some c.args.numbers.now os c.args.i c.requires.1.0 _ c.base.ensures.0 (sym c.own_counts.ensures ∙ c.if-own_counts.true)

pub returns-else-own_counts : goal.returns-else-own_counts
returns-else-own_counts c =
    λ os. label-none c.args.numbers.now os c.args.i c.requires.1.0 (sym c.own_counts.ensures ∙ c.if-own_counts.false)
