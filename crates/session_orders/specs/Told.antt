-- What a line says to the session box: one of its own orders, or one of the bench. Assumes nothing.
use Rattle.std.specs.Prelude.{ℕ, Bool, ◌||◌, List, [], ◌∷◌, Option, None, Some, length, leb, ltb}
use Rattle.meaning.specs.Octets.{pick, same}
use Rattle.bench_words.specs.Words.{ascii, words, value, is_number, is_hex, octets_of}
use Rattle.bench_words.specs.Scan.{number_in}
use Rattle.bench_verbs.specs.Line.{Said, line_limit, order_of}

-- octets: of a neighbour's stream. pack: the messages to a neighbour in these records. lost: one of the neighbours that have a stream here.
pub data Told : Type 0 where
  bench : Said → Told
  octets pack : ℕ → List ℕ → Told
  lost : ℕ → Told

-- neighbours 0 to 3 have a stream
abbrev pub stream_count : ℕ
stream_count = 4

-- ---- the words behind the first

-- a number and octets, alone
pub data Given : Type 0 where
  none : Given
  given : ℕ → List ℕ → Given

unfoldable pub number_hex : List (List ℕ) → Given
number_hex [] = none
number_hex (n ∷ []) = none
number_hex (n ∷ h ∷ []) = pick (is_number n) (pick (is_hex h) (given (value n) (octets_of h)) none) none
number_hex (n ∷ h ∷ w ∷ ws) = none

-- a number alone
unfoldable pub lone_number : List (List ℕ) → Option ℕ
lone_number [] = None
lone_number (n ∷ []) = number_in n
lone_number (n ∷ w ∷ ws) = None

-- ---- the box's own orders; what is none of them is the bench's

-- 4 to 15 are neighbours that have no stream here
unfoldable pub may_offer : ℕ → Bool
may_offer n = ltb n stream_count || ltb 15 n

unfoldable pub octets_by : Told → Given → Told
octets_by other none = other
octets_by other (given n o) = pick (may_offer n) (octets n o) other

unfoldable pub pack_by : Told → Given → Told
pack_by other none = other
pack_by other (given n o) = pack n o

-- the loss of another neighbour empties no stream
unfoldable pub lost_by : Told → Option ℕ → Told
lost_by other None = other
lost_by other (Some n) = pick (ltb n stream_count) (lost n) other

-- by what the bench reads in it: `octets` and `pack` are bad lines there
unfoldable pub told_by : Told → List (List ℕ) → Told
told_by other [] = other
told_by other (w ∷ ws) =
    pick (same w (ascii "octets")) (octets_by other (number_hex ws))
    (pick (same w (ascii "pack")) (pack_by other (number_hex ws))
    (pick (same w (ascii "lost")) (lost_by other (lone_number ws))
    other))

-- WHAT A LINE SAYS
unfoldable pub told_of : List ℕ → Told
told_of l = pick (leb (length l) line_limit) (told_by (bench (order_of l)) (words l)) (bench (order_of l))

-- ---- the stream that an order is about; one that is about none leaves that of neighbour 0 as it is

unfoldable pub stream_for : Told → ℕ
stream_for (bench said) = 0
stream_for (octets n o) = pick (ltb n stream_count) n 0
stream_for (pack n o) = 0
stream_for (lost n) = n
