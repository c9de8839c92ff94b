-- What `proofs/CountsKept` speaks of.
-- Assumes nothing.
use Rattle.std.specs.Prelude.{ℕ, List, [], eqb}
use Rattle.meaning.specs.Octets.{pick, ◌when◌else◌}
use Rattle.meaning.specs.Card.{Card, route_of}
use Rattle.meaning.specs.Events.{Outcome, taken, unless, labels_short, upstream, need_all, not_route, not_root, routes_full, re_route}

-- ---- a route order as it was before there were counts

unfoldable pub walked_refusal : Card → List ℕ → ℕ → ℕ
walked_refusal c r via = 15 when routes_full c r via else 12 when labels_short c (need_all r (upstream via) c) else 0

unfoldable pub on_route_walked : Card → List ℕ → ℕ → Outcome
on_route_walked c r via =
    unless (1 when not_route via else 6 when not_root r else 0)
    (pick (eqb (route_of r c) via) (taken [] c)
    (unless (walked_refusal c r via) (re_route c r via)))
