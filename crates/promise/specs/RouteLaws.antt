-- What `proofs/RouteLaws` speaks of.
-- Assumes nothing.
use Prim.Native.Nat.{ℕ}
use Rattle.std.specs.Prelude.{◌≡◌, eqb}
use mathlib.Core.List.{List}
use Rattle.meaning.specs.Octets.{pick, same}
use Rattle.meaning.specs.Card.{no_route, Card, route_of}
use Rattle.meaning.specs.Events.{Outcome, refused, taken, Event, receive, join, leave, route, lost}

-- what an event makes of the route of the root q
unfoldable pub route_now : Event → List ℕ → ℕ → ℕ
route_now (receive n s) q before = before
route_now (join e) q before = before
route_now (leave e) q before = before
route_now (route r via) q before = pick (same r q) via before
route_now (lost n) q before = pick (eqb before n) no_route before

unfoldable pub Routed : Card → Event → Outcome → Type 0
Routed c e (refused n) = Unit {0}
Routed c e (taken ms after) = (q : List ℕ) → route_of q after ≡ route_now e q (route_of q c)
