use Prim.Native.Nat.{◌+◌, ◌-◌}
use native.Mathlib.Omega.{arith}
use mathlib.Core.Path.{◌≡◌, sym, ap, ◌∙◌}
use lib.ListN.{drop_of_length-le}
use Rattle.meaning.specs.Octets.{same}
use Rattle.meaning.specs.Lists.{same_refl}
use Rattle.octets.proofs.Same.{same-differ, same-before-at, same_first}
use Rattle.octets.proofs.equal_few.Goals as goal

pub returns-then-a-eq4 : goal.returns-then-a-eq4
returns-then-a-eq4 c =
    let a = c.args in
    c.equal_four.ensures ∙ same_first 4 4 a.a.now a.b.now (omega arith) (drop_of_length-le a.a.now {i = 4} (omega arith) ∙ sym (drop_of_length-le a.b.now {i = 4} (omega arith)))

pub returns-then-a-i : goal.returns-then-a-i
returns-then-a-i c = sym (same-differ _ _ _ c.if-a-i.true)

pub loop-i-preserved : goal.loop-i-preserved
loop-i-preserved c =
    let a = c.args in
    let e : c.loop-i.i - 1 + 1 ≡ c.loop-i.i = omega arith in
    same-before-at (c.loop-i.i - 1) a.a.now a.b.now (omega arith) (omega arith) c.if-a-i.false (rw e c.loop-i.invariant)

pub returns : goal.returns
returns c =
    let a = c.args in
    let e : c.loop-i.i ≡ 0 = omega arith in
    let i = c.loop-i.invariant in
    let p : a.a.now ≡ a.b.now = rw e at i in
    sym (ap (same a.a.now) (sym p) ∙ same_refl a.a.now)
