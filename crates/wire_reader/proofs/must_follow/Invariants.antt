-- `wire_reader::must_follow` meets its contract: the loop's invariant is that whole TLVs fill what is left, and that a TLV with its U bit clear is there just where one is from the first place on; its measure, what is left of the message.
-- Assumes nothing.
use Prim.Native.Nat.{◌-◌}
use mathlib.Core.Path.{◌≡◌}
use mathlib.Core.Bool.{false}
use lib.ListN.{length, drop}
use Rattle.meaning.specs.Octets.{any}
use Rattle.meaning.specs.Wire.{tlvs, is_overrun, found, must}
use Rattle.wire_reader.proofs.must_follow.Given as goal

abbrev pub invariant-loop-kind : goal.invariant-loop-kind
invariant-loop-kind l =
    (is_overrun (tlvs (drop l.at l.message)) ≡ false)
    × (any must (found (tlvs (drop l.from l.message))) ≡ any must (found (tlvs (drop l.at l.message))))

abbrev pub decreases-loop-kind : goal.decreases-loop-kind
decreases-loop-kind l = length l.message - l.at
