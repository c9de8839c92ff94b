-- `save_written::is_space` meets its contract. Assumes nothing.
use Prim.Native.Nat.{◌+◌, ◌-◌}
use native.Mathlib.Omega.{arith}
use lib.ListN.{get_or}
use mathlib.Core.Path.{refl}
use Rattle.save_written.proofs.Places.{space-full, space-zeros}
use Rattle.save_written.proofs.is_space.Goals as goal

pub overflow_cast-k : goal.overflow_cast-k
overflow_cast-k c = omega (arith, c.shared_slice_known-2-1.given c.args.at)

pub returns-then-n-k : goal.returns-then-n-k
returns-then-n-k c =
    let a = c.args in
    space-full a.octets.now a.at a.n _ (omega arith) refl c.if-n-k.true

pub returns : goal.returns
returns c =
    let a = c.args in
    let k = get_or a.octets.now a.at 0 in
    space-zeros a.octets.now a.at a.n k (omega arith) refl _ (a.at + (1 + a.n) - (a.at + (1 + k))) c.is_zero.ensures (omega arith) (omega arith)
