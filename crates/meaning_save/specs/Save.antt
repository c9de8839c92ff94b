-- The save of a card's table: octets that carry it over a card swap, and the table read back from them, in two forms. docs/SAVE.md draws the layout.
-- Each record begins with the two-byte mark 0x4C 0x53 and its kind: a head, a route, a tree or a label in use.
-- They stand in this order: the head, the routes and the trees in the table's order, the labels by rising number.
-- In the old form all have a fixed size. The new one carries each name at its own length, and the last label given.
-- (Nothing here asks that octets are below 256: reading back holds without it, and the code's octets are.)
-- Assumes nothing.
use Rattle.std.specs.Prelude.{ℕ, zero, suc, ◌+◌, ◌*◌, ◌-◌, ◌%◌, Bool, true, false, not, ◌&&◌, ◌||◌, List, [], ◌∷◌, ◌++◌, take, drop, get_or, length, set, replicate, eqb, leb, ltb}
use Rattle.meaning.specs.Octets.{pick, place, any, same, two, four, two_at, four_at, all}
use Rattle.meaning.specs.Wire.{root_in, opaque_in, element_refusal, element, root_limit, name_limit, least_label, most_label}
use Rattle.meaning.specs.Card.{Route, Tree, Use, free, mapped, awaiting, Card, with_label, tree_limit, route_limit, label_count, is_for, named, is_empty, is_free, held_for, use_of, tree_of, free_labels, neighbour_count, this_node, with_last}
use Rattle.meaning.specs.Events.{Out, room_short, refuse, base_outside, not_root, worked_out, holder_of}

-- ---- the two forms, and where they differ: the kinds of three records, a name, and the last label given

pub data Form : Type 0 where
  old : Form
  new : Form

-- by the mark that the code has for it
unfoldable pub form_of : Bool → Form
form_of false = old
form_of true = new

abbrev pub head_kind : Form → ℕ
head_kind old = 1
head_kind new = 5

-- a route's record is the same in both
abbrev pub route_kind : ℕ
route_kind = 2

abbrev pub tree_kind : Form → ℕ
tree_kind old = 3
tree_kind new = 6

abbrev pub use_kind : Form → ℕ
use_kind old = 4
use_kind new = 7

-- ---- sizes

-- the last label given stands behind the old form's fields
abbrev pub last_place : ℕ
last_place = 15

abbrev pub head_size : Form → ℕ
head_size old = last_place
head_size new = last_place + 4

-- the space that an opaque value has in the old form: one of 33 octets or more, as a name may have, is refused 19
abbrev pub saved_opaque : ℕ
saved_opaque = 32

-- a name in the old form: the root and the opaque value, each with its length before it
abbrev pub spaced_name : ℕ
spaced_name = 1 + root_limit + (1 + saved_opaque)

-- the most octets that a name takes
abbrev pub name_most : Form → ℕ
name_most old = spaced_name
name_most new = 1 + name_limit

abbrev pub route_size : ℕ
route_size = 4 + (1 + root_limit)

-- a tree's record beside the name: the leaf mark stands behind the name, and the branches behind the mark
abbrev pub tree_beside : ℕ
tree_beside = 3 + (1 + 4 * neighbour_count)

-- a label's record beside the name, which stands last
abbrev pub use_beside : ℕ
use_beside = 9

-- the longest save of a table that keeps the rules
abbrev pub save_limit : Form → ℕ
save_limit f = head_size f + route_limit * route_size + tree_limit * (tree_beside + name_most f) + label_count * (use_beside + name_most f)

-- ---- writing

-- n octets of space: the octets, and zeros behind them
unfoldable pub padded : ℕ → List ℕ → List ℕ
padded n o = o ++ replicate (n - length o) 0

-- octets in a space of n, with their number before them; what goes beyond the space, as no name of a table that is saved does, is left out
unfoldable pub spaced : ℕ → List ℕ → List ℕ
spaced n o = length (take n o) ∷ padded n (take n o)

-- A tree's name. In the old form the root and the opaque value, each in its space; in the new one how many octets it has, and these.
unfoldable pub name_saved : Form → List ℕ → List ℕ
name_saved old a = spaced root_limit (root_in a) ++ spaced saved_opaque (opaque_in a)
name_saved new a = length (take name_limit a) ∷ take name_limit a

unfoldable pub marked : ℕ → List ℕ → List ℕ
marked kind fields = 0x4C ∷ 0x53 ∷ kind ∷ fields

-- the last label given, 0 for none
unfoldable pub last_saved : Form → Card → List ℕ
last_saved old c = []
last_saved new c = four c.last

-- base, next identifier, how many routes, trees and labels in use follow, and the last label given where the form has it
unfoldable pub head_saved : Form → Card → List ℕ
head_saved f c = marked (head_kind f) (four c.base ++ (four c.next ++ (length c.routes ∷ length c.trees ∷ (two (label_count - free_labels c) ++ last_saved f c))))

-- 21 octets: the route's number, and the root in a space of 16
unfoldable pub route_saved : Route → List ℕ
route_saved r = marked route_kind (r.via % 256 ∷ spaced root_limit r.root)

unfoldable pub fours_of : List ℕ → List ℕ
fours_of [] = []
fours_of (n ∷ ns) = four n ++ fours_of ns

-- the name, the leaf mark, and sixteen branch labels, 0 for no branch. The tree's own label is in that label's record.
unfoldable pub tree_saved : Form → Tree → List ℕ
tree_saved f t = marked (tree_kind f) (name_saved f t.name ++ (pick t.leaf 1 0 ∷ fours_of t.branches))

-- the label, 1 where it is mapped or 2 where it awaits release, the neighbour, and the name
unfoldable pub use_saved : Form → ℕ → Use → List ℕ
use_saved f l free = []
use_saved f l (mapped n a) = marked (use_kind f) (four l ++ (1 ∷ n ∷ name_saved f a))
use_saved f l (awaiting n a) = marked (use_kind f) (four l ++ (2 ∷ n ∷ name_saved f a))

unfoldable pub routes_saved : List Route → List ℕ
routes_saved [] = []
routes_saved (r ∷ rs) = route_saved r ++ routes_saved rs

unfoldable pub trees_saved : Form → List Tree → List ℕ
trees_saved f [] = []
trees_saved f (t ∷ ts) = tree_saved f t ++ trees_saved f ts

-- the labels from l on
unfoldable pub uses_saved : Form → ℕ → List Use → List ℕ
uses_saved f l [] = []
uses_saved f l (u ∷ us) = use_saved f l u ++ uses_saved f (suc l) us

unfoldable pub saved : Form → Card → List ℕ
saved f c = head_saved f c ++ (routes_saved c.routes ++ (trees_saved f c.trees ++ uses_saved f c.base c.labels))

-- a name that is short enough for the form: in the new one any is
unfoldable pub is_short : Form → List ℕ → Bool
is_short old a = leb (length (opaque_in a)) saved_opaque
is_short new a = true

unfoldable pub is_short_tree : Form → Tree → Bool
is_short_tree f t = is_short f t.name

unfoldable pub is_short_use : Form → Use → Bool
is_short_use f free = true
is_short_use f (mapped n a) = is_short f a
is_short_use f (awaiting n a) = is_short f a

-- what 19 asks of a table that is to be saved
unfoldable pub fits_save : Form → Card → Bool
fits_save f c = all (is_short_tree f) c.trees && all (is_short_use f) c.labels

-- The call, with the room that the output has: 19 or 16, with nothing written, or the save. The table stays as it is.
unfoldable pub save : Form → ℕ → Card → Out
save f room c = pick (fits_save f c) (pick (room_short room (saved f c)) (refuse 16 c) (record { answer = 0; octets = saved f c; card = c })) (refuse 19 c)

-- ---- reading

-- octets from a space of n whose number stands before them
unfoldable pub spaced_in : ℕ → List ℕ → List ℕ
spaced_in n o = take (get_or o 0 0) (take n (drop 1 o))

unfoldable pub name_in : Form → List ℕ → List ℕ
name_in old o =
    let root = spaced_in root_limit o in
    element (pick (eqb (length root) 4) 1 2) root (spaced_in saved_opaque (drop (1 + root_limit) o))
name_in new o = spaced_in name_limit o

-- how many octets the name takes that stands at the front
abbrev pub extent : Form → List ℕ → ℕ
extent old o = spaced_name
extent new o = suc (get_or o 0 0)

-- (its counts are worked out when the trees are read)
unfoldable pub route_read : List ℕ → Route
route_read o = record { root = spaced_in root_limit (drop 4 o); via = get_or o 3 0; standing = 0; lone = 0 }

unfoldable pub fours_in : ℕ → List ℕ → List ℕ
fours_in zero o = []
fours_in (suc n) o = four_at o 0 ∷ fours_in n (drop 4 o)

-- without its own label, which the labels give it
unfoldable pub tree_read : Form → List ℕ → Tree
tree_read f o =
    let n = extent f (drop 3 o) in
    record { name = name_in f (drop 3 o); branches = fours_in neighbour_count (drop (4 + n) o); leaf = not (eqb (get_or o (3 + n) 0) 0); label = 0 }

-- what stands behind the tree's record at the front
unfoldable pub tree_end : Form → List ℕ → List ℕ
tree_end f o = drop (tree_beside + extent f (drop 3 o)) o

-- (a neighbour's number is read modulo the number of neighbours, so that whatever is read has a place in the card's memory; what is not as it was written is refused below)
unfoldable pub use_read : Form → List ℕ → Use
use_read f o =
    let n = get_or o 8 0 % neighbour_count in
    let a = name_in f (drop 9 o) in
    pick (eqb (get_or o 7 0) 1) (mapped n a) (awaiting n a)

-- what stands behind the label's record at the front
unfoldable pub use_end : Form → List ℕ → List ℕ
use_end f o = drop (use_beside + extent f (drop 9 o)) o

unfoldable pub routes_read : ℕ → List ℕ → List Route
routes_read zero o = []
routes_read (suc n) o = route_read o ∷ routes_read n (drop route_size o)

unfoldable pub trees_read : Form → ℕ → List ℕ → List Tree
trees_read f zero o = []
trees_read f (suc n) o = tree_read f o ∷ trees_read f n (tree_end f o)

-- what stands behind n trees' records
unfoldable pub trees_end : Form → ℕ → List ℕ → List ℕ
trees_end f zero o = o
trees_end f (suc n) o = trees_end f n (tree_end f o)

-- the uses of a block from base on, where n label records follow one another
unfoldable pub uses_read : Form → ℕ → ℕ → List ℕ → List Use → List Use
uses_read f base zero o us = us
uses_read f base (suc n) o us = uses_read f base n (use_end f o) (set us (four_at o 3 - base) (use_read f o))

-- a tree carries the label that is mapped for its name
unfoldable pub is_mapped_for : List ℕ → Use → Bool
is_mapped_for a free = false
is_mapped_for a (mapped n b) = same b a
is_mapped_for a (awaiting n b) = false

unfoldable pub labelled : ℕ → List Use → Tree → Tree
labelled base us t =
    let p = place (is_mapped_for t.name) us in
    with_label (pick (ltb p (length us)) (base + p) 0) t

unfoldable pub all_labelled : ℕ → List Use → List Tree → List Tree
all_labelled base us [] = []
all_labelled base us (t ∷ ts) = labelled base us t ∷ all_labelled base us ts

-- the highest label in use, of those from l on; 0 where none is
unfoldable pub highest_used : ℕ → List Use → ℕ
highest_used l [] = 0
highest_used l (u ∷ us) =
    let later = highest_used (suc l) us in
    pick (eqb later 0) (pick (is_free u) 0 l) later

-- The old form does not carry the last label given: the highest in use is taken for it.
unfoldable pub settled : Card → Card
settled c = with_last (highest_used c.base c.labels) c

-- what a form carries of a table
unfoldable pub carried_by : Form → Card → Card
carried_by old c = settled c
carried_by new c = c

-- the last label given, of octets with these labels from base on
unfoldable pub last_in : Form → List ℕ → ℕ → List Use → ℕ
last_in old o base us = highest_used base us
last_in new o base us = four_at o last_place

-- Nor does it carry the counts: they are worked out.
unfoldable pub all_worked_out : List Tree → List Route → List Route
all_worked_out ts [] = []
all_worked_out ts (x ∷ xs) = worked_out ts x ∷ all_worked_out ts xs

-- the table in the octets, whatever they are
unfoldable pub table_in : Form → List ℕ → Card
table_in f o =
    let base = four_at o 3 in
    let routes = get_or o 11 0 in
    let trees = get_or o 12 0 in
    let after_routes = drop (head_size f + routes * route_size) o in
    let us = uses_read f base (two_at o 13) (trees_end f trees after_routes) (replicate label_count free) in
    let ts = all_labelled base us (trees_read f trees after_routes) in
    record { base = base; next = four_at o 7; routes = all_worked_out ts (routes_read routes (drop (head_size f) o)); trees = ts; labels = us; last = last_in f o base us }

-- ---- the rules in force

unfoldable pub is_name : List ℕ → Bool
is_name a = eqb (element_refusal a) 0

-- no later one passes `same as this one`
unfoldable pub once_each {ℓ} : {A : Type ℓ} → (A → A → Bool) → List A → Bool
once_each like [] = true
once_each like (x ∷ xs) = let rest = once_each like xs in pick (any (like x) xs) false rest

unfoldable pub is_route : Route → Bool
is_route r = not (not_root r.root) && leb r.via this_node

unfoldable pub same_root : Route → Route → Bool
same_root r s = is_for r.root s

-- a branch label: none, or as 8 passes it
unfoldable pub is_branch_label : ℕ → Bool
is_branch_label l = eqb l 0 || (leb least_label l && leb l most_label)

unfoldable pub is_tree : Tree → Bool
is_tree t = is_name t.name && eqb (length t.branches) neighbour_count && all is_branch_label t.branches && not (is_empty t)

unfoldable pub same_name : Tree → Tree → Bool
same_name t s = named t.name s

-- a label in use: for a neighbour, and a name
unfoldable pub is_use : Use → Bool
is_use free = true
is_use (mapped n a) = ltb n neighbour_count && is_name a
is_use (awaiting n a) = ltb n neighbour_count && is_name a

-- a mapped label is that of the tree that it is mapped for
unfoldable pub is_carried : Card → ℕ → Use → Bool
is_carried c l free = true
is_carried c l (mapped n a) = eqb (tree_of a c).label l
is_carried c l (awaiting n a) = true

unfoldable pub all_carried : Card → ℕ → List Use → Bool
all_carried c l [] = true
all_carried c l (u ∷ us) = let rest = all_carried c (suc l) us in pick (is_carried c l u) rest false

-- a tree's label, where it has one, is mapped for it
unfoldable pub carries_own : Card → Tree → Bool
carries_own c t = eqb t.label 0 || is_mapped_for t.name (use_of t.label c)

-- a tree holds a label exactly as the rule of labels says
unfoldable pub holds_right : Card → Tree → Bool
holds_right c t = eqb (held_for c t) (holder_of c t)

-- the counts of every root that has a route are true
unfoldable pub is_counted : List Tree → Route → Bool
is_counted ts x = eqb x.standing (worked_out ts x).standing && eqb x.lone (worked_out ts x).lone

unfoldable pub counts_right : Card → Bool
counts_right c = all (is_counted c.trees) c.routes

-- all rules but that; a table that is read keeps it in any case, since its counts were worked out (`read-rules`)
unfoldable pub keeps_rows : Card → Bool
keeps_rows c =
    -- base and identifier
    not (base_outside c.base) && ltb c.next 4294967296
    -- sizes
    && leb (length c.routes) route_limit && leb (length c.trees) tree_limit && eqb (length c.labels) label_count
    -- each well-formed, roots and names once, no tree empty
    && all is_route c.routes && once_each same_root c.routes
    && all is_tree c.trees && once_each same_name c.trees
    && all is_use c.labels
    -- trees and labels agree
    && all_carried c c.base c.labels && all (carries_own c) c.trees && all (holds_right c) c.trees

unfoldable pub keeps_rules : Card → Bool
keeps_rules c = keeps_rows c && counts_right c

-- The last label given is of the block, and none only while no label is in use.
unfoldable pub last_right : Card → Bool
last_right c = pick (eqb c.last 0) (eqb (free_labels c) label_count) (leb c.base c.last && ltb c.last (c.base + label_count))

-- the rules that a form asks for: the new one carries the last label given, and so asks that it is right
unfoldable pub ruled : Form → Card → Bool
ruled old c = keeps_rules c
ruled new c = keeps_rules c && last_right c

-- what reading tests of them: the counts are true in any table that is read (`read-ruled`)
unfoldable pub rows_ruled : Form → Card → Bool
rows_ruled old c = keeps_rows c
rows_ruled new c = keeps_rows c && last_right c

-- ---- taking a save

-- 19: octets that no table keeping the rules in force would write. (One with a longer value writes none in the old form, and what is read has none: `read_fits`.)
unfoldable pub is_save : Form → List ℕ → Bool
is_save f o = ruled f (table_in f o) && same (saved f (table_in f o)) o

unfoldable pub restore : Form → List ℕ → Card → Out
restore f o c = pick (is_save f o) (record { answer = 0; octets = []; card = table_in f o }) (refuse 19 c)

-- ---- moving a save to the other form: octets to octets, with no card

pub record Moved : Type 0 where
  pub answer : ℕ
  pub octets : List ℕ

unfoldable pub not_moved : ℕ → Moved
not_moved n = record { answer = n; octets = [] }

-- 19: octets that are no save of the form, or a value that is too long for the other one; then 16
unfoldable pub move : Form → Form → ℕ → List ℕ → Moved
move f g room o =
    let written = saved g (table_in f o) in
    let moved = pick (room_short room written) (not_moved 16) (record { answer = 0; octets = written }) in
    pick (is_save f o && fits_save g (table_in f o)) moved (not_moved 19)

unfoldable pub newer : ℕ → List ℕ → Moved
newer room o = move old new room o

unfoldable pub older : ℕ → List ℕ → Moved
older room o = move new old room o
