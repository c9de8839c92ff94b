use mathlib.Core.Path.{refl, sym, ◌∙◌}
use Rattle.save_rules_rows.proofs.RowRules.{once-hit, once-miss, once-none, route-there, root-like, routes-end}
use Rattle.save_rules_rows.proofs.roots_once.Goals as goal

pub loop-i-init : goal.loop-i-init
loop-i-init c = refl

pub returns-then-root_from : goal.returns-then-root_from
returns-then-root_from c =
    let e = c.route_count-n.ensures.0 in
    sym (c.loop-i.invariant ∙ once-miss _ _ _ (route-there _ _ _ _ e c.loop-i-test.true) _ _ (c.root_from.ensures ∙ root-like _ _ _ _ _ c.root_name.ensures) c.if-root_from.true)

pub loop-i-preserved : goal.loop-i-preserved
loop-i-preserved c =
    let e = c.route_count-n.ensures.0 in
    c.loop-i.invariant ∙ once-hit _ _ _ (route-there _ _ _ _ e c.loop-i-test.true) _ _ (c.root_from.ensures ∙ root-like _ _ _ _ _ c.root_name.ensures) c.if-root_from.false

pub returns : goal.returns
returns c = sym (c.loop-i.invariant ∙ once-none _ _ (routes-end _ _ _ _ c.route_count-n.ensures.0 c.loop-i-test.false) _)
