use mathlib.Core.Path.{◌≡◌}
use lib.ListN.{length}
use Rattle.event_lost.proofs.Shed.{Shedding}
use Rattle.event_lost.proofs.shed_all.Given as goal

abbrev pub invariant-loop-i : goal.invariant-loop-i
invariant-loop-i l = (length l.numbers ≡ length l.initial.numbers) × (length l.out ≡ length l.initial.out) × Shedding l.id l.names l.initial.numbers l.initial.out l.i l.numbers l.out l.last.at l.last.id
