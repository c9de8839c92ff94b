use Prim.Native.Nat.{◌+◌}
use native.Mathlib.Omega.{arith}
use mathlib.Core.Path.{refl}
use lib.ListN.{get_or-eq_default}
use Rattle.meaning.specs.Octets.{two_at}
use Rattle.octets.proofs.two_at.Goals as goal

pub returns-then-j-s : goal.returns-then-j-s
unfolding two_at
returns-then-j-s c =
    let a = c.args in
    let g = c.shared_slice_known-then-j-s-2-1.given in
    (refl, omega (arith, g a.i, g (a.i + 1)))

pub returns : goal.returns
unfolding two_at
returns c =
    let a = c.args in
    let none = get_or-eq_default a.s.now 0 {n = a.i + 1} c.if-j-s.false in
    (omega (arith, none, c.at.ensures.0), omega (arith, c.at.ensures.1))
