use Prim.Native.Nat.{◌+◌}
use native.Mathlib.Omega.{arith}
use mathlib.Core.Path.{refl, ap₂, ◌∙◌}
use mathlib.Core.Bool.{◌&&◌}
use Rattle.octets.proofs.Same.{same-join}
use Rattle.octets.proofs.equal_eight.Goals as goal

pub returns : goal.returns
returns c =
    let a = c.args in
    ap₂ ◌&&◌ c.equal_four.ensures c.equal_four-2.ensures ∙ same-join 4 4 8 a.i a.i (a.i + 4) (a.i + 4) a.a.now a.b.now refl refl refl (omega arith) (omega arith)
