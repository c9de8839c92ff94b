-- What the program `layers` prints for what it read: a line for each tree of the save, oldest first; `refused 19` where it is none.
-- Assumes nothing.
use Rattle.std.specs.Prelude.{ℕ, ◌*◌, ◌-◌, ◌<◌, ◌≡◌, Bool, true, List, [], ◌∷◌, ◌++◌, length, take, get_or, eqb}
use Rattle.meaning.specs.Octets.{pick}
use Rattle.meaning.specs.Wire.{element_refusal}
use Rattle.meaning.specs.Card.{Tree, Card, tree_at, tree_limit}
use Rattle.meaning_save.specs.Save.{old, new, save_limit, table_in, is_save}
use Rattle.bench_words.specs.Words.{ascii, is_hex_to, octets_of}
use Rattle.bench_lines.specs.Text.{count_line}
use Rattle.layers.specs.TreeText.{tree_line, line_space}

unfoldable pub trees_text : Card → List Tree → List ℕ
trees_text c [] = []
trees_text c (t ∷ ts) = tree_line c t ++ trees_text c ts

unfoldable pub table_text : Card → List ℕ
table_text c = trees_text c c.trees

-- octets that are no save of either form
unfoldable pub no_save : List ℕ
no_save = count_line (ascii "refused") 19

unfoldable pub shown_of : List ℕ → List ℕ
shown_of o = pick (is_save old o) (table_text (table_in old o)) (pick (is_save new o) (table_text (table_in new o)) no_save)

-- ---- the input is HEX as on the bench, and a line's end (10) behind it or none

unfoldable pub hex_in : List ℕ → List ℕ
hex_in input = pick (eqb (get_or input (length input - 1) 0) 10) (take (length input - 1) input) input

unfoldable pub shown : List ℕ → List ℕ
shown input = pick (is_hex_to (2 * save_limit new) (hex_in input)) (shown_of (octets_of (hex_in input))) no_save

-- ---- for the code

-- the space of all lines
abbrev pub shown_space : ℕ
shown_space = tree_limit * line_space

-- each tree's name passes 6, 7 and 18, as in every table that keeps the rules
abbrev pub AllNamed : Card → Type 0
AllNamed c = (i : ℕ) → i < length c.trees → element_refusal (tree_at i c).name ≡ 0

-- what is shown, by whether a save was taken, and by the card that it left
pub record Shows (taken : Bool) (text : List ℕ) (card : Card) : Type 0 where
  pub shows : text ≡ pick taken (table_text card) no_save
  pub named : taken ≡ true → AllNamed card
