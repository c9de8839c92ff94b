use Prim.Native.Nat.{◌*◌, ◌≤◌}
use mathlib.Core.Path.{◌≡◌}
use Rattle.meaning.specs.Wire.{record_limit}
use Rattle.meaning.specs.Events.{sum_from}
use Rattle.meaning_laws.specs.Losses.{loss_size}
use Rattle.memory.specs.Memory.{card_of}
use Rattle.event_lost.proofs.loss_size.Given as goal

abbrev pub invariant-loop-i : goal.invariant-loop-i
invariant-loop-i l = (l.sum ≤ l.i * record_limit) × (l.sum ≡ sum_from (loss_size l.n (card_of l.numbers l.names)) l.i 0 (card_of l.numbers l.names))
