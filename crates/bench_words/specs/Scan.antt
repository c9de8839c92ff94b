-- What the smaller functions of the reader of words find. Assumes nothing.
use Rattle.std.specs.Prelude.{ℕ, suc, ◌≤◌, Bool, not, ◌||◌, List, [], ◌∷◌, Option, None, Some, length, eqb}
use Rattle.meaning.specs.Octets.{pick}
use Rattle.bench_words.specs.Words.{part, is_gap, value, is_number}
use Rattle.bench_words.specs.declared.Word.{Word}

-- a word lies in the line, and its octets there
abbrev pub Within : Word → List ℕ → Type 0
Within w l = (w.start ≤ w.end) × (w.end ≤ length l)

abbrev pub text_of : Word → List ℕ → List ℕ
text_of w l = part w.start w.end l

-- an octet of a word
abbrev pub is_letter : ℕ → Bool
is_letter c = not (eqb c 35 || is_gap c)

-- how many of them stand at the front
unfoldable pub letters : List ℕ → ℕ
letters [] = 0
letters (c ∷ cs) = let more = suc (letters cs) in pick (is_letter c) more 0

unfoldable pub number_in : List ℕ → Option ℕ
number_in w = pick (is_number w) (Some (value w)) None
