-- `wire_reader::whole_tlvs` meets its contract: the loop's invariant is that the TLVs from the place on run past the message just where those from 8 on do; its measure, what is left of the message.
-- Assumes nothing.
use Prim.Native.Nat.{◌-◌}
use mathlib.Core.Path.{◌≡◌}
use lib.ListN.{length, drop}
use Rattle.meaning.specs.Wire.{tlvs, is_overrun}
use Rattle.wire_reader.proofs.whole_tlvs.Given as goal

abbrev pub invariant-loop-next : goal.invariant-loop-next
invariant-loop-next l = is_overrun (tlvs (drop 8 l.message)) ≡ is_overrun (tlvs (drop l.at l.message))

abbrev pub decreases-loop-next : goal.decreases-loop-next
decreases-loop-next l = length l.message - l.at
