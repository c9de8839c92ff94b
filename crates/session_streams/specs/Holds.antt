-- What the memory of a stream that is being read holds. Assumes nothing.
use Rattle.std.specs.Prelude.{ℕ, ◌+◌, ◌≤◌, ◌≡◌, List, take, drop}
use Rattle.session.specs.Stream.{body_limit, limit}
use Rattle.session.specs.Session.{stream_room}
use Rattle.session.specs.Lent.{left_in, place_in, count_in}
use Rattle.session_streams.specs.declared.Held.{Held}

-- the octets held
unfoldable pub held_at : List ℕ → List ℕ → List ℕ
held_at ns buffer = take (count_in ns) (drop (place_in ns) buffer)

-- what the code reads off the numbers, and that it lies in any buffer that is long enough
pub record IsHeld (ns : List ℕ) (h : Held) : Type 0 where
  pub left : h.left ≡ left_in ns
  pub place : h.place ≡ place_in ns
  pub count : h.count ≡ count_in ns
  pub most : h.left ≤ body_limit
  pub within : h.place + limit h.left ≤ stream_room
  pub few : h.count ≤ limit h.left
