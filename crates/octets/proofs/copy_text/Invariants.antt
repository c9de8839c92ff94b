use Prim.Native.Nat.{◌+◌, ◌-◌, ◌≤◌}
use mathlib.Core.Path.{◌≡◌}
use lib.ListN.{length}
use Rattle.octets.proofs.Parts.{Laid}
use Rattle.octets.proofs.copy_text.Given as goal

abbrev pub invariant-loop-i : goal.invariant-loop-i
invariant-loop-i l = (length l.dst ≡ length l.initial.dst) × (l.i ≤ l.last + 8) × Laid l.i l.src l.dst

abbrev pub decreases-loop-i : goal.decreases-loop-i
decreases-loop-i l = l.last + 8 - l.i
