-- Whether octets are laid out as a save is: each record is what is written of the entry that is read there, labels stand by rising number, nothing stands behind the last record.
-- Such octets are what is written of the table that is read from them, and a save is so laid out (proofs/Exact).
-- Assumes nothing.
use Rattle.std.specs.Prelude.{ℕ, zero, suc, ◌+◌, ◌*◌, Bool, true, false, ◌&&◌, ◌||◌, List, [], take, drop, get_or, length, eqb, leb, ltb}
use Rattle.meaning.specs.Octets.{pick, same, two_at, four_at}
use Rattle.meaning.specs.Card.{label_count, neighbour_count}
use Rattle.meaning_save.specs.Save.{Form, head_kind, head_size, route_size, tree_beside, use_beside, marked, spaced, spaced_in, name_saved, name_in, extent, route_saved, route_read, tree_saved, tree_read, tree_end, trees_end, use_saved, use_read, use_end}

-- ---- what records have at their front and in them

-- the mark, and the kind of record
unfoldable pub marked_as : ℕ → List ℕ → Bool
marked_as kind o = same (marked kind []) (take 3 o)

-- a text in a space of n
unfoldable pub space_written : ℕ → List ℕ → Bool
space_written n o = same (spaced n (spaced_in n o)) (take (suc n) o)

unfoldable pub name_written : Form → List ℕ → Bool
name_written f o = same (name_saved f (name_in f o)) (take (extent f o) o)

-- 1 where a label is mapped, and 2 where it awaits release
abbrev pub is_state : ℕ → Bool
is_state s = eqb s 1 || eqb s 2

-- the numbers in a label's record: a label from `least` on and of the block, its state, a neighbour
abbrev pub label_written : ℕ → ℕ → List ℕ → Bool
label_written base least o = leb least (four_at o 3) && (ltb (four_at o 3) (base + label_count) && (is_state (get_or o 7 0) && ltb (get_or o 8 0) neighbour_count))

-- ---- records

unfoldable pub route_written : List ℕ → Bool
route_written o = same (route_saved (route_read o)) (take route_size o)

unfoldable pub tree_written : Form → List ℕ → Bool
tree_written f o = same (tree_saved f (tree_read f o)) (take (tree_beside + extent f (drop 3 o)) o)

-- a label's record, of a label from `least` on and of the block
unfoldable pub use_written : Form → ℕ → ℕ → List ℕ → Bool
use_written f base least o =
    let l = four_at o 3 in
    leb least l && (ltb l (base + label_count) && same (use_saved f l (use_read f o)) (take (use_beside + extent f (drop 9 o)) o))

-- its fields are numbers, and any octets are
unfoldable pub head_written : Form → List ℕ → Bool
head_written f o = leb (head_size f) (length o) && marked_as (head_kind f) o

-- ---- one record behind the other

unfoldable pub routes_written : ℕ → List ℕ → Bool
routes_written zero o = true
routes_written (suc n) o = let rest = routes_written n (drop route_size o) in pick (route_written o) rest false

unfoldable pub trees_written : Form → ℕ → List ℕ → Bool
trees_written f zero o = true
trees_written f (suc n) o = let rest = trees_written f n (tree_end f o) in pick (tree_written f o) rest false

-- the labels by rising number, from `least` on, and nothing behind them
unfoldable pub uses_written : Form → ℕ → ℕ → ℕ → List ℕ → Bool
uses_written f base least zero o = eqb (length o) 0
uses_written f base least (suc n) o = let rest = uses_written f base (suc (four_at o 3)) n (use_end f o) in pick (use_written f base least o) rest false

-- the trees from a place on, and behind them the labels, as many as the head of the octets o says
unfoldable pub rows_written : Form → List ℕ → List ℕ → Bool
rows_written f after_routes o =
    let base = four_at o 3 in
    let trees = get_or o 12 0 in
    trees_written f trees after_routes && uses_written f base base (two_at o 13) (trees_end f trees after_routes)

unfoldable pub written : Form → List ℕ → Bool
written f o =
    let routes = get_or o 11 0 in
    head_written f o && (routes_written routes (drop (head_size f) o) && rows_written f (drop (head_size f + routes * route_size) o) o)
