use native.Mathlib.Omega.{arith}
use mathlib.Core.Path.{refl, sym, ◌∙◌}
use Rattle.plan_make.proofs.Order.{below-differ, below-same, below_end}
use Rattle.plan_make.proofs.is_below.Goals as goal

pub loop-i-init : goal.loop-i-init
loop-i-init c = refl

pub returns-then-a-i : goal.returns-then-a-i
returns-then-a-i c =
    sym (c.loop-i.invariant ∙ below-differ c.args.a.now c.args.b.now _ (omega arith) (omega arith) c.if-a-i.true)

pub loop-i-preserved : goal.loop-i-preserved
loop-i-preserved c =
    c.loop-i.invariant ∙ below-same c.args.a.now c.args.b.now _ (omega arith) (omega arith) c.if-a-i.false

pub returns : goal.returns
returns c = sym (c.loop-i.invariant ∙ below_end c.args.a.now c.args.b.now _ (omega arith) (omega arith))
