use Rattle.event_parted.proofs.Branches.{Ending}
use Rattle.memory.specs.Memory.{card_of}
use lib.ListN.{length}
use mathlib.Core.Path.{◌≡◌}
use Rattle.event_parted.proofs.end_branches.Given as goal

abbrev pub invariant-loop-i : goal.invariant-loop-i
invariant-loop-i l = (length l.numbers ≡ length l.initial.numbers) × Ending l.n l.i (card_of l.initial.numbers l.names) (card_of l.numbers l.names)
