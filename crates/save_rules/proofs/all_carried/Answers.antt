use mathlib.Core.Path.{sym, ◌∙◌}
use Rattle.save_rules_rows.proofs.RowRules.{carried-start, carried-hit, carried-miss, carried_none, label-there, labels-end}
use mathlib.Core.Path.{ap}
use mathlib.Core.Bool.{not}
use Rattle.save_rules.proofs.all_carried.Goals as goal

pub loop-p-init : goal.loop-p-init
loop-p-init c = λ os _ _. carried-start _ os

pub returns-then-not-is_carried : goal.returns-then-not-is_carried
returns-then-not-is_carried c =
    λ os once own. sym (c.loop-p.invariant os once own ∙ carried-miss _ _ _ _ _ (label-there _ os _ c.loop-p-test.true) _ (c.is_carried.ensures os once own) (ap not c.if-not-is_carried.true))

pub loop-p-preserved : goal.loop-p-preserved
loop-p-preserved c =
    λ os once own. c.loop-p.invariant os once own ∙ carried-hit _ _ _ _ _ (label-there _ os _ c.loop-p-test.true) _ (c.is_carried.ensures os once own) (ap not c.if-not-is_carried.false)

pub returns : goal.returns
returns c = λ os once own. sym (c.loop-p.invariant os once own ∙ carried_none _ _ _ _ (labels-end _ os _ c.loop-p-test.false))
