-- What `proofs/Sizes` speaks of.
-- Assumes nothing.
use Rattle.std.specs.Prelude.{ℕ, ◌*◌, ◌≤◌, ◌≡◌, List, [], ◌∷◌, length}
use Rattle.meaning.specs.Wire.{Sent, record_of, record_limit}
use Rattle.meaning.specs.Card.{Card, tree_limit, route_limit, label_count, sent_limit}
use Rattle.meaning.specs.Events.{Outcome, refused, taken, route, lost, event}
use Rattle.promise.specs.Promise.{Step, sends}

unfoldable pub AllShort : List Sent → Type 0
AllShort [] = Unit {0}
AllShort (m ∷ ms) = ((id : ℕ) → length (record_of id m) ≤ record_limit) × AllShort ms

pub record Sized (c : Card) : Type 0 where
  pub trees : length c.trees ≤ tree_limit
  pub routes : length c.routes ≤ route_limit
  pub labels : length c.labels ≡ label_count
  -- each message that a step sends makes a record of at most 174 octets
  pub short : (s : Step) → AllShort (sends c s)
  -- a route order sends at most two messages for each tree: 22272 octets
  pub order : (room : ℕ) (r : List ℕ) (via : ℕ) → length (event room c (route r via)).octets ≤ sent_limit
  -- a loss sends at most one Withdraw for each tree: 11136 octets
  pub loss : (room n : ℕ) → length (event room c (lost n)).octets ≤ tree_limit * record_limit

-- an outcome that sends at most k messages
unfoldable pub AtMost : ℕ → Outcome → Type 0
AtMost k (refused n) = Unit {0}
AtMost k (taken ms after) = length ms ≤ k
