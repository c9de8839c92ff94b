use mathlib.Core.Path.{◌≡◌}
use lib.ListN.{length}
use Rattle.event_roots.proofs.Roots.{Moving}
use Rattle.event_roots.proofs.move_all.Given as goal

abbrev pub invariant-loop-i : goal.invariant-loop-i
invariant-loop-i l = (length l.numbers ≡ length l.initial.numbers) × (length l.names ≡ length l.initial.names) × (length l.out ≡ length l.initial.out) × Moving l.root l.u l.id l.initial.numbers l.initial.names l.initial.out l.i l.numbers l.names l.out l.last.at l.last.id
