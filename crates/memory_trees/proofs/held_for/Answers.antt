use native.Mathlib.Omega.{arith}
use mathlib.Core.Path.{sym, ◌∙◌}
use Rattle.memory.specs.Memory.{own_place}
use Rattle.memory.proofs.Marks.{carried-out}
use Rattle.memory.proofs.Trees.{held-some, held_none}
use Rattle.memory_trees.proofs.held_for.Goals as goal

pub mapped_at-requires : goal.mapped_at-requires
mapped_at-requires c =
    (c.requires.0, (carried-out c.args.numbers.now c.args.i (own_place c.args.numbers.now c.args.i) (sym c.own_counts.ensures ∙ c.if-own_counts.true)).0)

pub returns-then-own_counts : goal.returns-then-own_counts
returns-then-own_counts c =
    ((λ os. held-some c.args.numbers.now os c.args.i c.requires.1.0 _ (sym c.own_counts.ensures ∙ c.if-own_counts.true) (c.mapped_at.ensures.0 os)), c.mapped_at.ensures.1)

pub returns-else-own_counts : goal.returns-else-own_counts
returns-else-own_counts c =
    ((λ os. held_none c.args.numbers.now os c.args.i c.requires.1.0 (sym c.own_counts.ensures ∙ c.if-own_counts.false)), omega arith)
