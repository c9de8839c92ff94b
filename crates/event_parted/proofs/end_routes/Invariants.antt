use mathlib.Core.Path.{◌≡◌}
use lib.ListN.{length}
use Rattle.event_parted.proofs.Routes.{Going}
use Rattle.event_parted.proofs.end_routes.Given as goal

abbrev pub invariant-loop-k : goal.invariant-loop-k
invariant-loop-k l = (length l.numbers ≡ length l.initial.numbers) × (length l.names ≡ length l.initial.names) × Going l.n l.k l.initial.numbers l.initial.names l.numbers l.names
