use Prim.Native.Nat.{◌≤◌}
use mathlib.Core.Path.{◌≡◌}
use lib.ListN.{length, drop}
use Rattle.octets.proofs.equal.Given as goal

abbrev pub invariant-loop-n : goal.invariant-loop-n
invariant-loop-n l = (l.n ≤ length l.a) × (length l.a ≡ length l.b) × (drop l.n l.a ≡ drop l.n l.b)

abbrev pub decreases-loop-n : goal.decreases-loop-n
decreases-loop-n l = l.n
