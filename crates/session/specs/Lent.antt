-- What `proofs/Lent` speaks of.
-- Assumes nothing.
use Rattle.std.specs.Prelude.{ℕ, ◌-◌, min, List, take, drop, get_or, eqb}
use Rattle.meaning.specs.Octets.{pick}
use Rattle.session.specs.Session.{stream_room}
use Rattle.session.specs.Stream.{body_limit, Stream, stopped, reading, limit}

abbrev pub stream_numbers : ℕ
stream_numbers = 4

-- 0: reading; any other number: stopped
abbrev pub mark_in : List ℕ → ℕ
mark_in ns = get_or ns 0 0

-- 1: the octets left of the PDU, from the first that is held on
unfoldable pub left_in : List ℕ → ℕ
left_in ns = min (get_or ns 1 0) body_limit

-- 2: where in the buffer the first of the octets held lies; so that all that may be held lies in 4100 octets
unfoldable pub place_in : List ℕ → ℕ
place_in ns = min (get_or ns 2 0) (stream_room - limit (left_in ns))

-- 3: how many octets are held
unfoldable pub count_in : List ℕ → ℕ
count_in ns = min (get_or ns 3 0) (limit (left_in ns))

unfoldable pub stream_of : List ℕ → List ℕ → Stream
stream_of ns buffer = pick (eqb (mark_in ns) 0) (reading (left_in ns) (take (count_in ns) (drop (place_in ns) buffer))) stopped
