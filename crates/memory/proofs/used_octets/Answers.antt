use Prim.Native.Nat.{ℕ, ◌+◌}
use native.Mathlib.Omega.{arith}
use mathlib.Core.Path.{ap}
use mathlib.Core.List.{List}
use lib.ListN.{length}
use Rattle.memory.specs.Memory.{tree_name}
use Rattle.memory.proofs.used_octets.Goals as goal

pub returns : goal.returns
unfolding tree_name
returns c = (ap (λ (l : List ℕ). 1 + length l) c.text.ensures.0, omega (arith, c.text.ensures.1))
