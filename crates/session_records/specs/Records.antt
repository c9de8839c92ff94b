-- Records by their places. Assumes nothing.
use Rattle.std.specs.Prelude.{ℕ, ◌+◌, ◌≤◌, ◌<◌, ◌≡◌, List, [], ◌∷◌, take, drop, length, ltb}
use Rattle.meaning.specs.Octets.{pick, two_at}
use Rattle.session.specs.Stream.{body_limit}
use Rattle.session.specs.Pack.{messages_to}

-- how many octets the message of the record at place i has, by its length field
unfoldable pub size_at : ℕ → List ℕ → ℕ
size_at i s = 4 + two_at s (i + 6)

unfoldable pub message_at : ℕ → List ℕ → List ℕ
message_at i s = take (size_at i s) (drop (i + 4) s)

-- the place behind it
unfoldable pub behind : ℕ → List ℕ → ℕ
behind i s = i + 4 + size_at i s

-- the messages to n, where the first of them is in the record at place i, or there is none and i is the end
unfoldable pub messages_from : ℕ → ℕ → List ℕ → List (List ℕ)
messages_from n i s = pick (ltb i (length s)) (message_at i s ∷ messages_to n (drop (behind i s) s)) []

-- the message of the record at place i lies within the records, and is of a length that can be packed
pub record Within (i : ℕ) (s : List ℕ) : Type 0 where
  pub least : 8 ≤ size_at i s
  pub most : size_at i s ≤ body_limit
  pub inside : behind i s ≤ length s

-- r is the place of the first record to n from a place on
pub record Finds (n from : ℕ) (s : List ℕ) (r : ℕ) : Type 0 where
  pub same : messages_to n (drop from s) ≡ messages_from n r s
  pub later : from ≤ r
  pub ends : r ≤ length s
  pub within : r < length s → Within r s
