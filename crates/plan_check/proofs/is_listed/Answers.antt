use Rattle.std.proofs.Common.{ne_eqb}
use Rattle.plan_check.proofs.Checking.{route-root, listed-other, listed_here}
use Rattle.plan_check.proofs.is_listed.Goals as goal

pub returns-then-route_via-n : goal.returns-then-route_via-n
returns-then-route_via-n c = rw (ne_eqb _ _ c.if-route_via-n.true) (listed-other _ _ _ _ (c.route_via.ensures _) c.if-route_via-n.true)

pub returns-else-route_via-n : goal.returns-else-route_via-n
returns-else-route_via-n c = listed_here _ _ _ _ (c.route_via.ensures _) c.if-route_via-n.false _ (route-root _ _ _ _ c.root_name.ensures) _ c.listings.ensures
