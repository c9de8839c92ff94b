use native.Mathlib.Omega.{arith}
use Rattle.memory_routes.proofs.Routes.{set-route, add-route}
use borrow.Author.Rules.{rules}
use Rattle.memory_routes.proofs.enter_route.Goals as goal

pub returns-then-i-n : goal.returns-then-i-n
returns-then-i-n c =
    set-route _ _ _ _ c.requires.0 (omega (arith, c.route_count-n.ensures.0)) _ _ c.requires.3 (c.entry_number.ensures _)

pub append_route-requires : goal.append_route-requires
append_route-requires c =
    let room = c.requires.4 (omega arith) in
    (c.requires.0, c.requires.1, omega arith, c.requires.2, c.requires.5, c.requires.6, c.requires.7)

pub returns : goal.returns
returns c =
    let the-if1 = c.if-i-n in
    let the-append-route = c.append_route in
    add-route _ _ _ _ _ _ _ c.requires.3 c.route_count-n.ensures.0 the-if1.false the-append-route.ensures
