use native.Mathlib.Omega.{arith}
use Rattle.meaning.specs.Lists.{get_d-out}
use Rattle.meaning.specs.Card.{tree_at}
use Rattle.memory.specs.Memory.{card_of}
use Rattle.memory.proofs.Trees.{branches-length}
use Rattle.memory_trees.proofs.Others.{one_none}
use Rattle.memory_trees.proofs.count_of.Goals as goal

pub returns-then-n-lt-NEIGHBOUR_COUNT : goal.returns-then-n-lt-NEIGHBOUR_COUNT
returns-then-n-lt-NEIGHBOUR_COUNT c = ((λ os. rw (← (c.branch-numbers.ensures os)) c.one.ensures.0), c.one.ensures.1)

pub returns : goal.returns
returns c = (
  λ os.
      let bs = (tree_at c.args.i (card_of c.args.numbers.now os)).branches in
      let long = branches-length c.args.numbers.now os c.args.i c.requires.1.0 in
      one_none _ (get_d-out bs c.args.n 0 (omega arith)),
  omega arith,
)
