-- `wire_name::is_filled` meets its contract. The loop's invariant: what is left is filled exactly where the whole is. The measure is what is left.
-- Assumes nothing.
use Prim.Native.Nat.{◌-◌, ◌≤◌}
use mathlib.Core.Path.{◌≡◌}
use lib.ListN.{length, drop}
use Rattle.meaning.specs.Wire.{is_filled}
use Rattle.wire_name.proofs.is_filled.Given as goal

abbrev pub invariant-loop-at : goal.invariant-loop-at
invariant-loop-at l = (l.at ≤ length l.s) × (is_filled (drop l.at l.s) ≡ is_filled (drop l.from l.s))

abbrev pub decreases-loop-at : goal.decreases-loop-at
decreases-loop-at l = length l.s - l.at
