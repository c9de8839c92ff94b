use native.Mathlib.Omega.{arith}
use Rattle.memory_routes.proofs.Routes.{remove-route}
use borrow.Author.Rules.{rules}
use Rattle.memory_routes.proofs.remove_route.Goals as goal

pub returns : goal.returns
returns c =
    let the-close-numbers = c.close_numbers in
    remove-route _ _ _ _ _ _ c.requires.0 c.route_count-n.ensures.0 (omega (arith, c.route_count-n.ensures.0, c.requires)) the-close-numbers.ensures c.close_octets.ensures
