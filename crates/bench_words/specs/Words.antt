-- What a line of the bench program is made of, and how its numbers and octets are spelt. Assumes nothing.
use Rattle.std.specs.Prelude.{ℕ, zero, suc, ◌+◌, ◌-◌, ◌*◌, ◌/◌, ◌%◌, ◌≤◌, ◌≡◌, Bool, ◌&&◌, ◌||◌, List, [], ◌∷◌, ◌++◌, length, take, drop, eqb, leb, ltb}
use Prim.Native.Char.{code}
use Prim.Native.String.{String}
use Rattle.meaning.specs.Octets.{pick, same, all}

-- the octets of a text
unfoldable pub ascii : String → List ℕ
ascii String.[] = []
ascii (String.◌∷◌ c s) = code c ∷ ascii s

-- the part of a line from s to e
abbrev pub part : ℕ → ℕ → List ℕ → List ℕ
part s e l = take (e - s) (drop s l)

-- a word of at most n octets stands there
abbrev pub LiesTo : ℕ → List ℕ → ℕ → ℕ → Type 0
LiesTo n l s e = (s ≤ e) × (e ≤ length l) × (e ≤ s + n)

-- ---- words

-- a space or a tab
abbrev pub is_gap : ℕ → Bool
is_gap c = eqb c 32 || eqb c 9

-- the line up to its first `#`
unfoldable pub uncommented : List ℕ → List ℕ
uncommented [] = []
uncommented (c ∷ cs) = let rest = uncommented cs in pick (eqb c 35) [] (c ∷ rest)

unfoldable pub lengthen : ℕ → List (List ℕ) → List (List ℕ)
lengthen c [] = (c ∷ []) ∷ []
lengthen c (p ∷ ps) = (c ∷ p) ∷ ps

-- what stands before, between and after the gaps, also where that is nothing
unfoldable pub pieces : List ℕ → List (List ℕ)
pieces [] = [] ∷ []
pieces (c ∷ cs) = let later = pieces cs in pick (is_gap c) ([] ∷ later) (lengthen c later)

unfoldable pub filled : List (List ℕ) → List (List ℕ)
filled [] = []
filled ([] ∷ ps) = filled ps
filled ((c ∷ p) ∷ ps) = (c ∷ p) ∷ filled ps

unfoldable pub words : List ℕ → List (List ℕ)
words l = filled (pieces (uncommented l))

-- the first word from a place on, which starts where it ends if there is none
pub record NextWord (l : List ℕ) (from s e : ℕ) : Type 0 where
  pub after : from ≤ s
  pub order : s ≤ e
  pub within : e ≤ length l
  pub found : words (drop from l) ≡ pick (eqb s e) [] (part s e l ∷ words (drop e l))

-- ---- numbers

abbrev pub is_digit : ℕ → Bool
is_digit c = leb 48 c && leb c 57

unfoldable pub value_from : ℕ → List ℕ → ℕ
value_from v [] = v
value_from v (c ∷ cs) = value_from (v * 10 + (c - 48)) cs

unfoldable pub value : List ℕ → ℕ
value w = value_from 0 w

-- decimal digits, of up to 4294967295
unfoldable pub is_number : List ℕ → Bool
is_number w = all is_digit w && ltb (value w) 4294967296

-- ---- octets as HEX

abbrev pub is_upper : ℕ → Bool
is_upper c = leb 65 c && leb c 70

abbrev pub is_lower : ℕ → Bool
is_lower c = leb 97 c && leb c 102

abbrev pub is_hex_digit : ℕ → Bool
is_hex_digit c = is_digit c || (is_upper c || is_lower c)

unfoldable pub digit : ℕ → ℕ
digit c = pick (is_digit c) (c - 48) (pick (is_upper c) (c - 55) (pick (is_lower c) (c - 87) 0))

-- `-` alone, or an even number of digits, at most so many
unfoldable pub is_hex_to : ℕ → List ℕ → Bool
is_hex_to most w = same w (ascii "-") || (leb (length w) most && eqb (length w % 2) 0 && all is_hex_digit w)

-- the most octets that an order brings, a save aside, and their digits
abbrev pub input_limit : ℕ
input_limit = 4096

abbrev pub hex_limit : ℕ
hex_limit = 2 * input_limit

-- a word of HEX lies in the line
abbrev pub Lies : List ℕ → ℕ → ℕ → Type 0
Lies l s e = LiesTo hex_limit l s e

unfoldable pub is_hex : List ℕ → Bool
is_hex w = is_hex_to hex_limit w

-- two digits to an octet; a `-` has none
unfoldable pub octets_of : List ℕ → List ℕ
octets_of [] = []
octets_of (h ∷ []) = []
octets_of (h ∷ l ∷ w) = (digit h * 16 + digit l) ∷ octets_of w

-- ---- spelt out

-- decimal digits without a leading zero; the first number only bounds how many
unfoldable pub spell : ℕ → ℕ → List ℕ
spell zero n = []
spell (suc k) n = let tens = spell k (n / 10) in pick (ltb n 10) ((48 + n) ∷ []) (tens ++ ((48 + n % 10) ∷ []))

unfoldable pub numeral : ℕ → List ℕ
numeral n = spell (suc n) n

-- a hex digit in lower case
unfoldable pub glyph : ℕ → ℕ
glyph d = pick (ltb d 10) (48 + d) (87 + d)

unfoldable pub hex_of : List ℕ → List ℕ
hex_of [] = []
hex_of (o ∷ os) = glyph (o / 16) ∷ glyph (o % 16) ∷ hex_of os

-- what a function writes to the front of a buffer, with the rest as it was, and how much
pub record Puts (ys before after : List ℕ) (r : ℕ) : Type 0 where
  pub count : r ≡ length ys
  pub within : r ≤ length before
  pub whole : after ≡ ys ++ drop r before
