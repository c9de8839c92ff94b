use Prim.Native.Nat.{ℕ, ◌-◌, ◌+◌}
use native.Mathlib.Omega.{arith}
use mathlib.Core.Path.{◌≡◌, ap, ◌∙◌}
use lib.ListN.{take, drop}
use Rattle.octets.specs.Part.{mid}
use Rattle.octets.proofs.Parts.{copied_more}
use Rattle.octets.proofs.copy_within.Goals as goal

pub loop-i-preserved : goal.loop-i-preserved
loop-i-preserved c =
    let a = c.args in (
      omega arith,
      c.s-in-loop-i-1.given ∙ c.loop-i.invariant.1,
      c.copy_eight.ensures ∙ copied_more a.s.now c.loop-i.s a.from a.to c.loop-i.i c.loop-i.i 8 (omega arith) (omega arith) (omega arith) (omega arith) c.loop-i.invariant.2,
    )

pub returns : goal.returns
returns c =
    let a = c.args in
    let last = a.n - 8 in
    let all : last + 8 ≡ a.n = omega arith in
    c.copy_eight-2.ensures
    ∙ copied_more a.s.now c.loop-i.s a.from a.to c.loop-i.i last 8 (omega arith) (omega arith) (omega arith) (omega arith) c.loop-i.invariant.2
    ∙ ap (λ (k : ℕ). mid a.to k a.s.now (take k (drop a.from a.s.now))) all
