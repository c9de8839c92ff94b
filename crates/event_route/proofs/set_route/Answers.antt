use Rattle.event_route.proofs.Route.{gone-is, put_is, stands-below, room-for-it}
use Rattle.memory.proofs.Memory.{route_count-le, routes-length}
use mathlib.Core.Path.{◌∙◌}
use native.Mathlib.Omega.{arith}
use borrow.Author.Rules.{rules}
use Rattle.event_route.proofs.set_route.Goals as goal

pub remove_route-requires : goal.remove_route-requires
remove_route-requires c =
    let most = rw routes-length at c.requires.8 in
    let below = stands-below c.args.numbers.now c.args.names.now c.args.root.now c.args.i c.args.via c.requires.7 most c.requires.3 c.if-via-eq-NO_ROUTE.true in
    (search rules, search rules, below, omega (arith, below, route_count-le c.args.numbers.now))

pub returns-then-via-eq-NO_ROUTE : goal.returns-then-via-eq-NO_ROUTE
returns-then-via-eq-NO_ROUTE c =
    let the-remove-route = c.remove_route in
    let the-if1 = c.if-via-eq-NO_ROUTE in
    the-remove-route.ensures ∙ gone-is _ _ _ c.requires.7 the-if1.true

pub enter_route-requires : goal.enter_route-requires
enter_route-requires c =
    let most = rw routes-length at c.requires.8 in
    (search rules, search rules, search rules, c.requires.7, (λ h. room-for-it c.args.numbers.now c.args.names.now c.args.root.now c.args.i c.args.via c.requires.7 most c.requires.3 h), omega (arith, c.requires.4), c.requires.5, c.requires.6)

pub returns-else-via-eq-NO_ROUTE : goal.returns-else-via-eq-NO_ROUTE
returns-else-via-eq-NO_ROUTE c =
    let the-enter-route = c.enter_route in
    let the-if1 = c.if-via-eq-NO_ROUTE in
    the-enter-route.ensures ∙ put_is _ _ the-if1.false
