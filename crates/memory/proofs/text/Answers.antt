use Prim.Native.Nat.{◌+◌, ◌-◌}
use native.Mathlib.Omega.{arith}
use lib.ListN.{get_or}
use Rattle.memory.proofs.Memory.{up_to-in, up_to-above}
use Rattle.memory.proofs.Head.{text-lent}
use Rattle.memory.proofs.text.Goals as goal

pub overflow_cast-n : goal.overflow_cast-n
overflow_cast-n c = omega (arith, c.shared_slice_known-1.given c.args.a)

pub returns-then-n-k : goal.returns-then-n-k
returns-then-n-k c =
    let a = c.args in
    let n = get_or a.names.now a.a 0 in
    text-lent a.k a.a (a.a + 1 + n - (a.a + 1)) a.names.now (omega (arith, up_to-in a.k n (omega arith))) (omega arith)

pub returns : goal.returns
returns c =
    let a = c.args in
    text-lent a.k a.a (a.a + 1 + a.k - (a.a + 1)) a.names.now (omega (arith, up_to-above a.k (get_or a.names.now a.a 0) c.if-n-k.false)) (omega arith)
