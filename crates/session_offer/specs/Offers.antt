-- What taking offered octets in makes of a stream, and what is then found. Assumes nothing.
use Rattle.std.specs.Prelude.{ℕ, ◌-◌, ◌≤◌, ◌<◌, ◌≡◌, List, [], ◌∷◌, length, take, drop, None, Some}
use Rattle.session.specs.Stream.{Stream, reading, filled, settled, eaten_of, taken}
use Rattle.session.specs.Lent.{left_in, count_in, stream_of}
use Rattle.session_streams.specs.Holds.{held_at}
use Rattle.session_offer.specs.declared.Offered.{Offered}

-- so many of the offered octets were taken in, and this is the memory after it
pub record TakesIn (id offered : List ℕ) (left : ℕ) (held : List ℕ) (eaten : ℕ) (ns buffer : List ℕ) : Type 0 where
  pub eats : eaten ≡ (filled id left held offered).eaten
  pub holds : stream_of ns buffer ≡ reading (filled id left held offered).left (filled id left held offered).held

-- A call on the stream s found a message of k octets, which is the first of those held; once it is worked off the call has done what `taken` says. So many octets were eaten, unless the stream then stops.
pub record Found (id offered : List ℕ) (s : Stream) (eaten k : ℕ) (ns buffer : List ℕ) : Type 0 where
  pub some : 0 < k
  pub within : (k ≤ left_in ns) × (k ≤ count_in ns)
  pub reads : (taken id s offered).messages ≡ take k (held_at ns buffer) ∷ []
  pub leaves : (taken id s offered).stream ≡ settled id (left_in ns - k) (drop k (held_at ns buffer))
  pub eats : (taken id s offered).eaten ≡ eaten_of (settled id (left_in ns - k) (drop k (held_at ns buffer))) (length offered) eaten

-- It found none, and has done what `taken` says.
pub record FoundNone (id offered : List ℕ) (s : Stream) (eaten : ℕ) (ns buffer : List ℕ) : Type 0 where
  pub reads : (taken id s offered).messages ≡ []
  pub leaves : (taken id s offered).stream ≡ stream_of ns buffer
  pub eats : (taken id s offered).eaten ≡ eaten

pub record Offers (id offered : List ℕ) (s : Stream) (done : Offered) (ns buffer : List ℕ) : Type 0 where
  pub none : done.message ≡ None → FoundNone id offered s done.eaten ns buffer
  pub one : (k : ℕ) → done.message ≡ Some k → Found id offered s done.eaten k ns buffer
