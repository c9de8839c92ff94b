use mathlib.Core.Path.{◌≡◌}
use lib.ListN.{drop}
use Rattle.octets.proofs.Parts.{front}
use Rattle.octets.proofs.shift.Given as goal

abbrev pub invariant-loop-i : goal.invariant-loop-i
invariant-loop-i g l = l.d ≡ front l.i (drop l.w l.initial.d) l.initial.d
