-- `save_tags::names_once` meets its contract: the invariant is that the first i trees are told from the others. Assumes nothing.
use Prim.Native.Nat.{ℕ, ◌<◌}
use mathlib.Core.Path.{◌≡◌}
use mathlib.Core.Bool.{false}
use Rattle.memory.specs.Memory.{tree_count}
use Rattle.save_tags.specs.Tags.{hinted, Alone}
use Rattle.save_tags.proofs.names_once.Given as goal

abbrev pub invariant-loop-i : goal.invariant-loop-i
invariant-loop-i l = (k : ℕ) → k < l.i → hinted l.tags l.hints k ≡ false → Alone l.names (tree_count l.numbers) k
