-- `session_pack::has_room` meets its contract: message after message, what is left of the room. Assumes nothing.
use Prim.Native.Nat.{◌-◌}
use lib.ListN.{length}
use Rattle.session_pack.proofs.Counting.{Counts}
use Rattle.session_pack.proofs.has_room.Given as goal

abbrev pub invariant-loop-i : goal.invariant-loop-i
invariant-loop-i l = Counts l.to l.records l.room l.left l.body l.i

abbrev pub decreases-loop-i : goal.decreases-loop-i
decreases-loop-i l = length l.records - l.i
