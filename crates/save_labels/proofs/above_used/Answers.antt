use Prim.Native.Nat.{◌+◌, ◌-◌}
use native.Mathlib.Omega.{arith}
use mathlib.Core.Path.{◌≡◌, sym, ◌∙◌}
use Rattle.save_labels.proofs.Labels.{used-highest, used-none}
use Rattle.save_labels.proofs.above_used.Goals as goal

pub returns-then-not-is_free : goal.returns-then-not-is_free
returns-then-not-is_free c =
    let e : c.loop-p.p - 1 + 1 ≡ c.loop-p.p = omega (arith, c.loop-p-test.true) in
    λ os. rw e (used-highest _ os c.loop-p.p c.loop-p-test.true (omega arith) (sym c.is_free.ensures.0 ∙ c.if-not-is_free.true) c.loop-p.invariant)

pub returns : goal.returns
returns c = λ os. used-none _ os (λ q lo hi. c.loop-p.invariant q (omega arith) hi)
