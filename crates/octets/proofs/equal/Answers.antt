use Prim.Native.Nat.{◌-◌}
use native.Mathlib.Omega.{arith}
use mathlib.Core.Path.{sym, ◌∙◌}
use Rattle.octets.proofs.Same.{same_length, same-part, same-before, same_first}
use Rattle.octets.proofs.equal.Goals as goal

pub returns-then-a-b : goal.returns-then-a-b
returns-then-a-b c = sym (same_length _ _ c.if-a-b.true)

pub returns-then-not-equal_eight : goal.returns-then-not-equal_eight
returns-then-not-equal_eight c = sym (same-part 8 (c.loop-n.n - 8) _ _ (sym c.equal_eight.ensures ∙ c.if-not-equal_eight.true))

pub loop-n-preserved : goal.loop-n-preserved
loop-n-preserved c =
    (omega arith, c.loop-n.invariant.1, same-before 8 (c.loop-n.n - 8) c.loop-n.n _ _ (omega arith) (sym c.equal_eight.ensures ∙ c.if-not-equal_eight.false) c.loop-n.invariant.2)

pub returns : goal.returns
returns c = c.equal_eight-2.ensures ∙ same_first 8 c.loop-n.n _ _ (omega arith) c.loop-n.invariant.2
