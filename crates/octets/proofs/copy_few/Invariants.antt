use mathlib.Core.Path.{◌≡◌}
use lib.ListN.{take, drop}
use Rattle.octets.specs.Part.{mid}
use Rattle.octets.proofs.copy_few.Given as goal

abbrev pub invariant-loop-i : goal.invariant-loop-i
invariant-loop-i l = l.s ≡ mid l.to l.i l.initial.s (take l.i (drop l.from l.initial.s))
