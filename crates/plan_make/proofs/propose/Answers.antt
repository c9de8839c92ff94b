use native.Mathlib.Omega.{arith}
use mathlib.Core.Path.{sym, ◌∙◌}
use Rattle.save_rules_rows.proofs.RowRules.{route-there, routes-end}
use Rattle.plan_check.proofs.Checking.{route-root}
use Rattle.plan_make.proofs.Proposing.{root-short, proposed-none, proposed-all, row_more, row-none}
use Rattle.plan_make.proofs.propose.Goals as goal

pub loop-i-init : goal.loop-i-init
loop-i-init c =
    (omega (arith, c.route_count-i.ensures.0), c.requires.2, proposed-none _ _ _ _ _ _ (routes-end _ _ _ _ c.route_count-i.ensures.0 (omega arith)))

pub insert_row-requires : goal.insert_row-requires
insert_row-requires c =
    let v = c.loop-i.invariant in
    let k = c.choose.ensures.1 in
    (v.1, omega arith, root-short _ _ _ c.root_name-root.ensures, omega arith)

pub loop-i-preserved-then-route_via-n : goal.loop-i-preserved-then-route_via-n
loop-i-preserved-then-route_via-n c =
    let v = c.loop-i.invariant in
    let e = c.route_count-i.ensures.0 in
    let w = c.insert_row.ensures in
    (omega arith, w.0, row_more _ _ _ _ _ _ (omega arith) (route-there _ _ _ _ e (omega arith)) _ _ _ _ _ (route-root _ _ _ _ c.root_name-root.ensures) c.choose.ensures.0 (c.route_via.ensures _) c.if-route_via-n.true (w.1 _ v.2))

pub loop-i-preserved : goal.loop-i-preserved
loop-i-preserved c =
    let v = c.loop-i.invariant in
    let e = c.route_count-i.ensures.0 in
    (omega arith, v.1, row-none _ _ _ _ _ _ (omega arith) (route-there _ _ _ _ e (omega arith)) _ _ _ (c.route_via.ensures _) c.if-route_via-n.false v.2)

pub shape_of-rows : goal.shape_of-rows
shape_of-rows c = c.loop-i.invariant.1 ∙ sym c.requires.2

pub returns : goal.returns
returns c =
    let v = c.loop-i.invariant in
    (v.1, omega arith, proposed-all _ _ _ _ _ _ (omega arith) v.2)
