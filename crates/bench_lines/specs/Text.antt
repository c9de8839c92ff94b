-- The lines that the bench program writes. Assumes nothing.
use Rattle.std.specs.Prelude.{ℕ, ◌+◌, ◌*◌, ◌≡◌, Bool, List, [], ◌∷◌, ◌++◌, length, take}
use Rattle.meaning.specs.Octets.{pick}
use Rattle.meaning.specs.Card.{Branch, Feed, neighbour_count}
use Rattle.meaning_save.specs.Save.{new, save_limit}
use Rattle.bench_words.specs.Words.{ascii, numeral, hex_of}

-- the space of a line's text: the digits of the longest save, and what stands around them
abbrev pub text_space : ℕ
text_space = 2 * save_limit new + 418

-- the digits of the greatest number
abbrev pub number_space : ℕ
number_space = 20

-- the words around the numbers of a branch: `, to neighbour ` and ` with label ` are the longest
abbrev pub branch_words_space : ℕ
branch_words_space = 27

abbrev pub branch_space : ℕ
branch_space = branch_words_space + 2 * number_space

abbrev pub branches_space : ℕ
branches_space = neighbour_count * branch_space

-- the longest words for a leaf and for nothing: `, to the leaf` and `, to nothing`
abbrev pub leaf_space : ℕ
leaf_space = 13

abbrev pub nothing_space : ℕ
nothing_space = 12

abbrev pub feed_space : ℕ
feed_space = leaf_space + branches_space + nothing_space

-- `WORD N`
unfoldable pub count_line : List ℕ → ℕ → List ℕ
count_line word n = word ++ (32 ∷ numeral n ++ (10 ∷ []))

-- a word and the records' octets, where there are any
unfoldable pub records_behind : List ℕ → List ℕ → List ℕ
records_behind word [] = []
records_behind word (o ∷ os) = word ++ hex_of (o ∷ os)

-- `WORD ANSWER RECORDS`, and so a save
unfoldable pub event_line : List ℕ → ℕ → List ℕ → List ℕ
event_line word answer records = word ++ (32 ∷ numeral answer ++ (records_behind (ascii " ") records ++ (10 ∷ [])))

-- a branch, with a word before each of its two numbers
unfoldable pub branch_as : List ℕ → List ℕ → Branch → List ℕ
branch_as before between b = before ++ (numeral b.neighbour ++ (between ++ numeral b.label))

unfoldable pub branches_as : List ℕ → List ℕ → List Branch → List ℕ
branches_as before between [] = []
branches_as before between (b ∷ bs) = branch_as before between b ++ branches_as before between bs

-- a text, or what is said where it is empty
unfoldable pub or_else : List ℕ → List ℕ → List ℕ
or_else none [] = none
or_else none (c ∷ cs) = c ∷ cs

-- ` NEIGHBOUR:LABEL` for each
unfoldable pub branches_text : List Branch → List ℕ
branches_text bs = branches_as (ascii " ") (ascii ":") bs

unfoldable pub leaf_text : Bool → List ℕ
leaf_text leaf = pick leaf (ascii " leaf") []

-- ` nothing`, or ` leaf` and each branch
unfoldable pub feed_text : Feed → List ℕ
feed_text feed = or_else (ascii " nothing") (leaf_text feed.leaf ++ branches_text feed.branches)

unfoldable pub feed_line : List ℕ → Feed → List ℕ
feed_line word feed = word ++ (feed_text feed ++ (10 ∷ []))

-- a text that stands up to `at` goes on by ys
pub record Adds (ys before after : List ℕ) (at r : ℕ) : Type 0 where
  pub count : r ≡ at + length ys
  pub text : take r after ≡ take at before ++ ys
