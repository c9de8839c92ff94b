-- `session_pack::put_all` meets its contract: message after message. Assumes nothing.
use Prim.Native.Nat.{◌-◌}
use lib.ListN.{length}
use Rattle.session_pack.proofs.Counting.{Writes}
use Rattle.session_pack.proofs.put_all.Given as goal

abbrev pub invariant-loop-i : goal.invariant-loop-i
invariant-loop-i l = Writes l.id l.to l.records l.initial.out l.out l.at l.body l.i

abbrev pub decreases-loop-i : goal.decreases-loop-i
decreases-loop-i l = length l.records - l.i
