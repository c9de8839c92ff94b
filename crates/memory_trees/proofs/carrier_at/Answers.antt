use mathlib.Core.Path.{refl}
use native.Mathlib.Omega.{arith}
use Rattle.memory.proofs.Trees.{carrier-named, carrier-beyond, carrier-other}
use Rattle.memory_trees.proofs.carrier_at.Goals as goal
use Rattle.memory_trees.proofs.carrier_at.Goals.{then-n-i-via-then-n-i, then-n-i-via-else-n-i+then-numbers-i}

pub returns-then-n-i : goal.returns-then-n-i
returns-then-n-i c = (
  (λ os label e. elim c.then-n-i.branch [
    | then-n-i-via-then-n-i w ↦ carrier-beyond c.args.numbers.now os label c.args.p c.requires.1 e _ c.tree_count-n.ensures.0 w.if-n-i.true
    | then-n-i-via-else-n-i+then-numbers-i w ↦ carrier-other c.args.numbers.now os label c.args.p c.requires.1 e _ c.tree_count-n.ensures.0 w.if-numbers-i.true
  ]),
  omega arith,
  omega arith,
)

pub returns : goal.returns
returns c =
    ((λ os label e. carrier-named c.args.numbers.now os label c.args.p c.requires.1 e _ _ c.tree_count-n.ensures.0 c.if-n-i.false c.requires.2 refl c.if-numbers-i.false), omega arith, omega arith)
