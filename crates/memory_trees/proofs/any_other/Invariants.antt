use Prim.Native.Nat.{ℕ}
use mathlib.Core.Path.{◌≡◌}
use mathlib.Core.List.{List}
use lib.ListN.{drop, set}
use Rattle.meaning.specs.Octets.{any}
use Rattle.meaning.specs.Card.{is_branch, tree_at}
use Rattle.memory.specs.Memory.{card_of}
use Rattle.memory_trees.proofs.any_other.Given as goal

abbrev pub invariant-loop-k : goal.invariant-loop-k
invariant-loop-k l = (os : List ℕ) → any is_branch (set (set (tree_at l.i (card_of l.numbers os)).branches l.n 0) l.but 0) ≡ any is_branch (drop l.k (set (set (tree_at l.i (card_of l.numbers os)).branches l.n 0) l.but 0))
