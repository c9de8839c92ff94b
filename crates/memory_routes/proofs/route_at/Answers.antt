use borrow.Author.Rules.{rules}
use Rattle.memory_routes.proofs.Routes.{route-some, route-none}
use Rattle.memory_routes.proofs.route_at.Goals as goal

pub returns-then-i-route_count : goal.returns-then-i-route_count
returns-then-i-route_count c = λ os root e. route-some _ _ _ _ _ e c.route_count.ensures.0 c.if-i-route_count.true

pub returns-else-i-route_count : goal.returns-else-i-route_count
returns-else-i-route_count c = λ os root e. route-none _ _ _ _ _ e c.route_count.ensures.0 c.if-i-route_count.false
