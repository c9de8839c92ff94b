use Rattle.std.proofs.Common.{ne_eqb}
use Rattle.plan_check.proofs.Checking.{entry-root, entry-via, move-other, move-may}
use Rattle.plan_check.proofs.is_move.Goals as goal

pub returns-then-route_of-n : goal.returns-then-route_of-n
returns-then-route_of-n c =
    let s = c.args in
    move-may _ _ _ _ _ (entry-root s.list.now s.at _ c.root_at-root.ensures.0) _ c.route_of.ensures c.if-route_of-n.true _ (entry-via s.list.now s.at _ c.at.ensures.0) _ c.may_have.ensures

pub returns-else-route_of-n : goal.returns-else-route_of-n
returns-else-route_of-n c =
    let s = c.args in
    rw (ne_eqb _ _ c.if-route_of-n.false) (move-other _ _ _ _ _ (entry-root s.list.now s.at _ c.root_at-root.ensures.0) _ c.route_of.ensures c.if-route_of-n.false)
