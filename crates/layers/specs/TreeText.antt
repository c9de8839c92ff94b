-- The line that the program `layers` prints for a tree: the layers of its name, and in words its label and what it leads to.
-- Assumes nothing.
use Rattle.std.specs.Prelude.{ℕ, ◌+◌, ◌*◌, Bool, List, [], ◌∷◌, ◌++◌, eqb}
use Rattle.meaning.specs.Octets.{pick}
use Rattle.meaning.specs.Wire.{name_limit}
use Rattle.meaning.specs.Card.{Branch, Feed, Tree, Card, lookup_name}
use Rattle.meaning_layers.specs.Layers.{peel}
use Rattle.bench_words.specs.Words.{ascii, numeral}
use Rattle.bench_lines.specs.Text.{branches_as, or_else, number_space, feed_space}
use Rattle.bench_layers.specs.LayerText.{peeled_text}

-- our own label for the tree, 0 for none
unfoldable pub label_words : ℕ → List ℕ
label_words l = pick (eqb l 0) (ascii ": no label") (ascii ": label " ++ numeral l)

unfoldable pub leaf_words : Bool → List ℕ
leaf_words leaf = pick leaf (ascii ", to the leaf") []

-- `, to neighbour N with label L` for each
unfoldable pub branches_words : List Branch → List ℕ
branches_words bs = branches_as (ascii ", to neighbour ") (ascii " with label ") bs

-- what a lookup of the tree's name gives
unfoldable pub feed_words : Feed → List ℕ
feed_words feed = or_else (ascii ", to nothing") (leaf_words feed.leaf ++ branches_words feed.branches)

unfoldable pub tree_line : Card → Tree → List ℕ
tree_line c t = peeled_text (peel t.name) ++ (label_words t.label ++ (feed_words (lookup_name t.name c) ++ (10 ∷ [])))

-- ---- the space of such a line

-- `: label ` and a number
abbrev pub label_space : ℕ
label_space = 8 + number_space

-- three octets of text for each of the name's, the label, what the tree leads to, and the line's end
abbrev pub line_space : ℕ
line_space = 3 * name_limit + label_space + feed_space + 1
