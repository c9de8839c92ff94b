use Rattle.event_holder.specs.Move.{size_one}
use Rattle.memory.specs.Memory.{card_of}
use Rattle.meaning.specs.Events.{need_one, sum_from}
use Rattle.meaning.specs.Wire.{record_limit}
use mathlib.Core.Path.{◌≡◌}
use Prim.Native.Nat.{◌*◌, ◌≤◌}
use Rattle.event_roots.proofs.take_all.Given as goal

abbrev pub invariant-loop-i : goal.invariant-loop-i
invariant-loop-i l = (l.labels ≤ l.i) × (l.octets ≤ l.i * (2 * record_limit))
    × (l.labels ≡ sum_from (need_one l.root l.u) l.i 0 (card_of l.numbers l.names)) × (l.octets ≡ sum_from (size_one l.root l.u) l.i 0 (card_of l.numbers l.names))
