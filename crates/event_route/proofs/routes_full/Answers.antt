use mathlib.Core.Path.{refl}
use borrow.Author.Tests.{eq-eqb}
use Rattle.memory.proofs.Memory.{routes-length}
use Rattle.event_route.proofs.routes_full.Goals as goal

pub returns-then-old-eq-NO_ROUTE : goal.returns-then-old-eq-NO_ROUTE
returns-then-old-eq-NO_ROUTE c = λ os. rw (eq-eqb _ _ c.if-old-eq-NO_ROUTE.true, routes-length, ← c.route_count.ensures.0) refl
