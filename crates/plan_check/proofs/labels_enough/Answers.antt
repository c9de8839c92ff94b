use native.Mathlib.Omega.{arith}
use mathlib.Core.Path.{◌∙◌}
use Rattle.plan_check.proofs.Checking.{entry-there, entries-end, need-next, need-none, need-above, need-within}
use Rattle.plan_check.proofs.labels_enough.Goals as goal

pub loop-i-init : goal.loop-i-init
loop-i-init c = (omega arith, omega arith)

pub returns-then-free-sum : goal.returns-then-free-sum
returns-then-free-sum c =
    need-above _ _ _ _ _ (c.loop-i.invariant.1 ∙ need-next _ _ _ _ _ (entry-there c.args.list.now c.loop-i.i (omega arith)) _ c.entry_need-sum.ensures.0) (c.free_labels-free.ensures.0 _) c.if-free-sum.true

pub loop-i-preserved : goal.loop-i-preserved
loop-i-preserved c =
    (omega arith, c.loop-i.invariant.1 ∙ need-next _ _ _ _ _ (entry-there c.args.list.now c.loop-i.i (omega arith)) _ c.entry_need-sum.ensures.0)

pub returns : goal.returns
returns c = need-within _ _ _ _ (c.loop-i.invariant.1 ∙ need-none _ _ _ _ (entries-end c.args.list.now c.loop-i.i (omega arith))) (c.free_labels-free.ensures.0 _) c.loop-i.invariant.0
