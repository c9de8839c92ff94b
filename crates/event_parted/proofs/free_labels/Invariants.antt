use Prim.Native.Nat.{◌*◌}
use Rattle.event_parted.specs.Parted.{Freed}
use Rattle.event_parted.proofs.free_labels.Given as goal

abbrev pub invariant-loop-w : goal.invariant-loop-w
invariant-loop-w l = Freed l.n 0 (l.w * 64) l.initial.numbers l.numbers
