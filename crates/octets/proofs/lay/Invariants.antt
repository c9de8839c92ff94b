use mathlib.Core.Path.{◌≡◌}
use Rattle.octets.proofs.Parts.{front}
use Rattle.octets.proofs.lay.Given as goal

abbrev pub invariant-loop-i : goal.invariant-loop-i
invariant-loop-i g l = l.dst ≡ front l.i l.src l.initial.dst
