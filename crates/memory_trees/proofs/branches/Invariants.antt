use Prim.Native.Nat.{ℕ, ◌+◌, ◌*◌, ◌<◌}
use mathlib.Core.Path.{◌≡◌}
use lib.ListN.{length, get_or}
use Rattle.memory.specs.Sizes.{branch_column, row_width}
use Rattle.memory_trees.proofs.branches.Given as goal

abbrev pub invariant-loop-n : goal.invariant-loop-n
invariant-loop-n l = (length l.all ≡ 16) × ((k : ℕ) → k < l.n → get_or l.all k 0 ≡ get_or l.numbers (branch_column + l.i * row_width + k) 0)
