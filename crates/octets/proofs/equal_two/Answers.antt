use native.Mathlib.Omega.{arith}
use Rattle.octets.proofs.Same.{same-two}
use Rattle.octets.proofs.equal_two.Goals as goal

pub returns : goal.returns
returns c =
    let a = c.args in
    same-two a.a.now a.b.now a.i a.j (omega arith) (omega arith)
