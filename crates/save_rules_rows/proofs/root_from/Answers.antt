use mathlib.Core.Path.{refl, sym, ◌∙◌}
use Rattle.save_rules_rows.proofs.RowRules.{any-hit, any-miss, any_none, route-there, route-for, routes-end}
use Rattle.save_rules_rows.proofs.root_from.Goals as goal

pub loop-i-init : goal.loop-i-init
loop-i-init c = refl

pub returns-then-equal : goal.returns-then-equal
returns-then-equal c =
    sym (c.loop-i.invariant ∙ any-hit _ _ _ (route-there _ _ _ _ c.route_count-n.ensures.0 c.loop-i-test.true) _ _ (c.equal.ensures ∙ route-for _ _ _ _ _ c.root_name.ensures) c.if-equal.true)

pub loop-i-preserved : goal.loop-i-preserved
loop-i-preserved c =
    c.loop-i.invariant ∙ any-miss _ _ _ (route-there _ _ _ _ c.route_count-n.ensures.0 c.loop-i-test.true) _ _ (c.equal.ensures ∙ route-for _ _ _ _ _ c.root_name.ensures) c.if-equal.false

pub returns : goal.returns
returns c = sym (c.loop-i.invariant ∙ any_none _ _ (routes-end _ _ _ _ c.route_count-n.ensures.0 c.loop-i-test.false) _)
