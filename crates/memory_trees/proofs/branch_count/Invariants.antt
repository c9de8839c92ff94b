use Prim.Native.Nat.{ℕ, ◌+◌, ◌≤◌}
use mathlib.Core.Path.{◌≡◌}
use mathlib.Core.List.{List}
use lib.ListN.{drop}
use Rattle.meaning.specs.Octets.{count}
use Rattle.meaning.specs.Card.{is_branch, tree_at}
use Rattle.memory.specs.Memory.{card_of}
use Rattle.memory_trees.proofs.branch_count.Given as goal

abbrev pub invariant-loop-n : goal.invariant-loop-n
invariant-loop-n l = (l.none ≤ l.n) × ((os : List ℕ) → (let bs = (tree_at l.i (card_of l.numbers os)).branches in count is_branch bs + l.none ≡ l.n + count is_branch (drop l.n bs)))
