use Prim.Native.Nat.{◌*◌}
use Rattle.memory.proofs.NextFree.{From}
use Rattle.memory_free.proofs.free_from_word.Given as goal

abbrev pub invariant-loop-w : goal.invariant-loop-w
invariant-loop-w l = From l.numbers (l.from * 64) l.w
