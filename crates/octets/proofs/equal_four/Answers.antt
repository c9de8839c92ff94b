use Prim.Native.Nat.{◌+◌}
use native.Mathlib.Omega.{arith}
use mathlib.Core.Path.{refl, ap₂, ◌∙◌}
use mathlib.Core.Bool.{◌&&◌}
use Rattle.octets.proofs.Same.{same-join}
use Rattle.octets.proofs.equal_four.Goals as goal

pub returns : goal.returns
returns c =
    let a = c.args in
    ap₂ ◌&&◌ c.equal_two.ensures c.equal_two-2.ensures ∙ same-join 2 2 4 a.i a.j (a.i + 2) (a.j + 2) a.a.now a.b.now refl refl refl (omega arith) (omega arith)
