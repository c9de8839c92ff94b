use Prim.Native.Nat.{◌+◌, ◌-◌}
use native.Mathlib.Omega.{arith}
use mathlib.Core.Path.{refl, sym, ap, ◌∙◌}
use lib.ListN.{length}
use Rattle.memory.proofs.Parts.{may-not}
use borrow.Author.Tests.{eqb-false}
use Rattle.octets.proofs.Same.{same_length}
use Rattle.memory.proofs.may_be.Goals as goal

pub returns-then-equal_four : goal.returns-then-equal_four
returns-then-equal_four c = λ z. same_length _ _ (λ e. eqb-false _ _ z (ap length c.text.ensures.0 ∙ e))

pub returns-else-equal_four : goal.returns-else-equal_four
returns-else-equal_four c =
    let a = c.args in
    let n = length a.s.now in
    λ z. may-not a.k a.a n (a.a + n - 3) a.names.now a.s.now refl (omega arith) refl (omega arith) (sym c.equal_four.ensures ∙ c.if-equal_four.false)
