-- `octets::is_zero` meets its contract: as `equal`, against zeros. Assumes nothing.
use Prim.Native.Nat.{◌≤◌}
use mathlib.Core.Path.{◌≡◌}
use lib.ListN.{length, drop}
use Rattle.octets.proofs.Zeros.{zeros_for}
use Rattle.octets.proofs.is_zero.Given as goal

abbrev pub invariant-loop-n : goal.invariant-loop-n
invariant-loop-n l = (l.n ≤ length l.s) × (drop l.n l.s ≡ drop l.n (zeros_for l.s))

abbrev pub decreases-loop-n : goal.decreases-loop-n
decreases-loop-n l = l.n
