use mathlib.Core.Path.{◌≡◌}
use lib.ListN.{length}
use Rattle.event_lost.proofs.Empty.{Sweeping}
use Rattle.event_lost.proofs.sweep.Given as goal

abbrev pub invariant-loop-i : goal.invariant-loop-i
invariant-loop-i l = (length l.numbers ≡ length l.initial.numbers) × (length l.names ≡ length l.initial.names) × Sweeping l.i l.initial.numbers l.initial.names l.numbers l.names
