use native.Mathlib.Omega.{arith}
use mathlib.Core.Path.{sym, ap, ◌∙◌}
use mathlib.Core.Bool.{not}
use Rattle.save_rules_rows.proofs.RowRules.{all-hit, all-miss, all_none, route-there, routes-end}
use Rattle.plan_check.proofs.all_listed.Goals as goal

pub returns-then-not-is_listed : goal.returns-then-not-is_listed
returns-then-not-is_listed c =
    sym (c.loop-i.invariant ∙ all-miss _ _ _ (route-there _ _ _ _ c.route_count-i-end.ensures.0 (omega arith)) _ _ c.is_listed.ensures (ap not c.if-not-is_listed.true))

pub loop-i-preserved : goal.loop-i-preserved
loop-i-preserved c =
    c.loop-i.invariant ∙ all-hit _ _ _ (route-there _ _ _ _ c.route_count-i-end.ensures.0 (omega arith)) _ _ c.is_listed.ensures (ap not c.if-not-is_listed.false)

pub returns : goal.returns
returns c = sym (c.loop-i.invariant ∙ all_none _ _ (routes-end _ _ _ _ c.route_count-i-end.ensures.0 (omega arith)) _)
