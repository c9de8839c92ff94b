-- `event_parted::free_word` meets its contract: label by label, or none where all are free. Assumes nothing.
use Prim.Native.Nat.{◌*◌}
use Rattle.event_parted.specs.Parted.{Freed}
use Rattle.event_parted.proofs.free_word.Given as goal

abbrev pub invariant-loop-p : goal.invariant-loop-p
invariant-loop-p l = Freed l.n (l.w * 64) l.p l.initial.numbers l.numbers
