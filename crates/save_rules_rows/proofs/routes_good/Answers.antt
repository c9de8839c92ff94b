use mathlib.Core.Path.{refl, sym, ◌∙◌}
use Rattle.save_rules_rows.proofs.RowRules.{all-hit, all-miss, all_none, route-there, routes-end}
use mathlib.Core.Path.{ap}
use mathlib.Core.Bool.{not}
use Rattle.save_rules_rows.proofs.routes_good.Goals as goal

pub loop-i-init : goal.loop-i-init
loop-i-init c = refl

pub returns-then-not-is_route : goal.returns-then-not-is_route
returns-then-not-is_route c =
    sym (c.loop-i.invariant ∙ all-miss _ _ _ (route-there _ _ _ _ c.route_count-n.ensures.0 c.loop-i-test.true) _ _ c.is_route.ensures (ap not c.if-not-is_route.true))

pub loop-i-preserved : goal.loop-i-preserved
loop-i-preserved c =
    c.loop-i.invariant ∙ all-hit _ _ _ (route-there _ _ _ _ c.route_count-n.ensures.0 c.loop-i-test.true) _ _ c.is_route.ensures (ap not c.if-not-is_route.false)

pub returns : goal.returns
returns c = sym (c.loop-i.invariant ∙ all_none _ _ (routes-end _ _ _ _ c.route_count-n.ensures.0 c.loop-i-test.false) _)
