use Prim.Native.Nat.{ℕ, ◌+◌, ◌*◌, ◌≤◌, ◌<◌}
use mathlib.Core.Path.{◌≡◌}
use mathlib.Core.Bool.{false}
use Rattle.meaning.specs.Octets.{same}
use Rattle.memory.specs.Memory.{in_column}
use Rattle.memory.proofs.next_like.Given as goal

abbrev pub invariant-loop-j : goal.invariant-loop-j
invariant-loop-j l = (l.a ≡ l.from + l.j * (l.k + 1)) × ((p : ℕ) → l.i ≤ p → p < l.j → same (in_column l.k l.from l.names p) l.s ≡ false)
