use mathlib.Core.Path.{sym, ap, ◌∙◌}
use lib.ListN.{length}
use borrow.Author.Tests.{lt-leb, eq-eqb}
use Rattle.save_rules_rows.proofs.RowRules.{route-far, route-four, route-sixteen}
use Rattle.save_rules_rows.proofs.is_route.Goals as goal

pub returns-then-n-eq4 : goal.returns-then-n-eq4
returns-then-n-eq4 c =
    eq-eqb _ 4 c.if-n-eq4.true ∙ sym (route-four _ _ _ _ _ (c.route_via.ensures _) c.if-route_via-le16.true (ap length c.root_name-n.ensures) c.if-n-eq4.true)

pub returns-else-n-eq4 : goal.returns-else-n-eq4
returns-else-n-eq4 c = sym (route-sixteen _ _ _ _ _ (c.route_via.ensures _) c.if-route_via-le16.true (ap length c.root_name-n.ensures) c.if-n-eq4.false)

pub returns-else-route_via-le16 : goal.returns-else-route_via-le16
returns-else-route_via-le16 c = lt-leb _ 16 c.if-route_via-le16.false ∙ sym (route-far _ _ _ _ (c.route_via.ensures _) c.if-route_via-le16.false)
