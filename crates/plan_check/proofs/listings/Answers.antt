use native.Mathlib.Omega.{arith}
use mathlib.Core.Path.{sym, ◌∙◌}
use Rattle.plan_check.proofs.Checking.{entry-there, entries-end, count_next, count_none}
use Rattle.plan_check.proofs.listings.Goals as goal

pub loop-i-init : goal.loop-i-init
loop-i-init c = (omega arith, omega arith)

pub loop-i-preserved : goal.loop-i-preserved
loop-i-preserved c =
    (omega arith, c.loop-i.invariant.1 ∙ count_next _ _ _ (entry-there c.args.list.now c.loop-i.i (omega arith)) _ _ _ c.listing-sum.ensures.0)

pub returns : goal.returns
returns c = sym (c.loop-i.invariant.1 ∙ count_none _ _ (entries-end c.args.list.now c.loop-i.i (omega arith)) _ _)
