use borrow.Author.Rules.{rules}
use Rattle.memory_routes.proofs.route_of.Goals as goal

pub returns : goal.returns
returns c = c.route_at.ensures _ _ c.route_place.ensures.0
