-- The parts of a route order that 1 and 6 pass. Assumes nothing.
use Rattle.std.specs.Prelude.{ℕ, Bool, ◌||◌, List, [], eqb}
use Rattle.meaning.specs.Octets.{pick, put, cut}
use Rattle.meaning.specs.Card.{Card, Route, no_route, route_of, route_place, with_routes}
use Rattle.meaning.specs.Events.{Outcome, taken, unless, Moved, move_all, routes_with, quick_no, runs_out, upstream, route_refusal, re_route}

-- 12, by the counts or by the walk: `twelve-cases` says that this is what the definition gives
abbrev pub labels_few : Card → List ℕ → ℕ → Bool
labels_few c r via = quick_no c r via || runs_out c r via

-- the routes with the entry x; without that of its root where its route is "no route"
unfoldable pub routes_to : Card → Route → List Route
routes_to c x = pick (eqb x.via no_route) (cut c.routes (route_place x.root c)) (put c.routes (route_place x.root c) x)

-- the trees of the root moved, and its entry anew
unfoldable pub moved_to : Card → List ℕ → ℕ → Moved
moved_to c r via = record { sent = (move_all r (upstream via) c).sent; card = with_routes (routes_with c r via) (move_all r (upstream via) c).card }

unfoldable pub route_order : Card → List ℕ → ℕ → Outcome
route_order c r via = pick (eqb (route_of r c) via) (taken [] c) (unless (route_refusal c r via) (re_route c r via))
