-- The sizes of the card's memory and where each column begins, each said once, from the numbers that `meaning` names: 64 trees, 32 routes,
-- 256 labels, 16 neighbours, the longest root and the longest name. src/lib.rt has the same as constants: the proofs hold one to the other. docs/MEMORY.md draws them.
-- Assumes nothing.
use Rattle.std.specs.Prelude.{ℕ, ◌+◌, ◌*◌, ◌/◌, ◌≡◌, List, length}
use Rattle.meaning.specs.Wire.{root_limit, name_limit}
use Rattle.meaning.specs.Card.{tree_limit, route_limit, label_count, neighbour_count}

-- ---- the space of one text: its length stands before it

abbrev pub root_space : ℕ
root_space = 1 + root_limit

abbrev pub name_space : ℕ
name_space = 1 + name_limit

-- ---- numbers: the head, and then the columns

-- the place after that of the last label given stands before the routes
abbrev pub turn_place : ℕ
turn_place = 4

abbrev pub route_column : ℕ
route_column = turn_place + 1

abbrev pub own_column : ℕ
own_column = route_column + route_limit

-- a tree's row: its leaf mark, and a branch for each neighbour
abbrev pub row_width : ℕ
row_width = 1 + neighbour_count

abbrev pub row_column : ℕ
row_column = own_column + tree_limit

abbrev pub branch_column : ℕ
branch_column = row_column + 1

abbrev pub row_numbers : ℕ
row_numbers = tree_limit * row_width

abbrev pub mark_column : ℕ
mark_column = row_column + row_numbers

abbrev pub word_column : ℕ
word_column = mark_column + label_count

-- 64 labels to a word
abbrev pub word_count : ℕ
word_count = label_count / 64

abbrev pub number_count : ℕ
number_count = word_column + word_count

-- the marks and the words, which follow one another
abbrev pub label_numbers : ℕ
label_numbers = label_count + word_count

-- ---- octets: the names of the trees, those of the labels, the roots

abbrev pub tree_octets : ℕ
tree_octets = tree_limit * name_space

abbrev pub label_octets : ℕ
label_octets = label_count * name_space

abbrev pub root_octets : ℕ
root_octets = route_limit * root_space

abbrev pub label_names : ℕ
label_names = tree_octets

abbrev pub root_names : ℕ
root_names = label_names + label_octets

abbrev pub octet_count : ℕ
octet_count = root_names + root_octets

-- ---- in the own column, no label; in a mark, a place where no tree stands

abbrev pub no_label : ℕ
no_label = label_count

abbrev pub nowhere : ℕ
nowhere = 256 * tree_limit

-- ---- what is lent

abbrev pub Numbers : List ℕ → Type 0
Numbers ns = length ns ≡ number_count

abbrev pub Names : List ℕ → Type 0
Names os = length os ≡ octet_count
