-- Which octets are taken as a save of the new form, and which are refused by 19. The rules of a table are the old form's (`Tables`): here are the rows of what the new form has otherwise, its kinds, its names and the last label given, and one or two of each other rule.
-- Assumes nothing.
use Rattle.std.specs.Prelude.{ℕ, zero, suc, ◌+◌, ◌-◌, ◌≡◌, refl, Bool, true, ◌&&◌, List, [], ◌∷◌, ◌++◌, take, drop, replicate, length, eqb}
use Rattle.meaning.specs.Octets.{two, four}
use Rattle.meaning.specs.Wire.{element}
use Rattle.meaning.specs.Card.{Route, Tree, Use, mapped, awaiting, Card, fresh, with_routes, with_trees, with_labels, with_last}
use Rattle.meaning.specs.Corners.{load}
use Rattle.meaning.specs.Computing.{computing}
use Rattle.meaning.specs.Examples.{NoneWrong}
use Rattle.meaning_save.specs.Save.{all_worked_out, old, new, saved, save, keeps_rules, last_right}
use Rattle.meaning_save.specs.SaveExample.{computing_saves, head_of, route_a, tree_a, tree_b, label16, label17, example}
use Rattle.meaning_save_rows.specs.NewExample.{head_new, tree_new_a, tree_new_b, label_new16, label_new17, example_new}
use Rattle.meaning_save.specs.SaveRows.{Row, takes, refuses, right, wrong}
use Rattle.meaning_save_rows.specs.Tables.{over, other_route}

-- a head with other counts and another last label given, and what follows it
unfoldable pub counted : ℕ → ℕ → ℕ → ℕ → List ℕ → List ℕ
counted routes trees labels last rest = over head_new 11 (routes ∷ trees ∷ (two labels ++ four last)) ++ rest

-- an empty table's save
unfoldable pub none : ℕ → ℕ → ℕ → List ℕ
none base next last = over (counted 0 0 0 last []) 3 (four base ++ four next)

-- one place in a record of the example
unfoldable pub in_head : ℕ → List ℕ → List ℕ
in_head i o = over example_new i o

unfoldable pub in_route : ℕ → List ℕ → List ℕ
in_route i o = over example_new (19 + i) o

unfoldable pub in_a : ℕ → List ℕ → List ℕ
in_a i o = over example_new (40 + i) o

unfoldable pub in16 : ℕ → List ℕ → List ℕ
in16 i o = over example_new (220 + i) o

unfoldable pub in17 : ℕ → List ℕ → List ℕ
in17 i o = over example_new (247 + i) o

-- the length; and a save of the old form
unfoldable pub lengths : List Row
lengths =
    takes example_new ∷
    refuses [] ∷
    refuses (take 18 head_new) ∷
    refuses head_new ∷
    refuses (take 273 example_new) ∷
    refuses (example_new ++ (0 ∷ [])) ∷
    refuses (example_new ++ example_new) ∷
    refuses example ∷
    []

-- marks and kinds
unfoldable pub marks : List Row
marks =
    refuses (in_head 0 (0x4D ∷ [])) ∷
    refuses (in_head 2 (1 ∷ [])) ∷
    refuses (in_head 2 (6 ∷ [])) ∷
    refuses (in_route 2 (3 ∷ [])) ∷
    refuses (in_route 2 (6 ∷ [])) ∷
    refuses (in_a 1 (0x44 ∷ [])) ∷
    refuses (in_a 2 (3 ∷ [])) ∷
    refuses (in_a 2 (7 ∷ [])) ∷
    refuses (in16 0 (0x4D ∷ [])) ∷
    refuses (in16 2 (4 ∷ [])) ∷
    refuses (in16 2 (8 ∷ [])) ∷
    []

-- each count one off
unfoldable pub counts : List Row
counts =
    refuses (in_head 11 (0 ∷ [])) ∷
    refuses (in_head 11 (2 ∷ [])) ∷
    refuses (in_head 12 (1 ∷ [])) ∷
    refuses (in_head 12 (3 ∷ [])) ∷
    refuses (in_head 14 (1 ∷ [])) ∷
    refuses (in_head 14 (3 ∷ [])) ∷
    refuses (in_head 13 (1 ∷ [])) ∷
    []

unfoldable pub heads : List Row
heads =
    -- the base
    refuses (none 15 1 0) ∷
    takes (none 16 1 0) ∷
    takes (none 1048320 1 0) ∷
    refuses (none 1048321 1 0) ∷
    -- any identifier
    takes (none 16 0 0) ∷
    takes (none 16 4294967295 0) ∷
    -- the last label given, while no label is in use: none, or one of the block
    refuses (none 16 1 1) ∷
    refuses (none 16 1 15) ∷
    takes (none 16 1 16) ∷
    takes (none 16 1 271) ∷
    refuses (none 16 1 272) ∷
    refuses (none 16 1 4294967295) ∷
    takes (none 1048320 1 1048575) ∷
    refuses (none 1048320 1 1048576) ∷
    []

-- the last label given, while some are in use: one of the block, in use or free, and never none
unfoldable pub lasts : List Row
lasts =
    refuses (in_head 15 (four 0)) ∷
    refuses (in_head 15 (four 15)) ∷
    takes (in_head 15 (four 16)) ∷
    takes (in_head 15 (four 17)) ∷
    takes (in_head 15 (four 271)) ∷
    refuses (in_head 15 (four 272)) ∷
    refuses (in_head 15 (four 65554)) ∷
    takes (counted 0 0 1 200 label_new16) ∷
    refuses (counted 0 0 1 0 label_new16) ∷
    []

-- kinds in another order
unfoldable pub orders : List Row
orders =
    refuses (counted 1 1 2 18 (tree_new_a ++ (route_a ++ (label_new16 ++ label_new17)))) ∷
    refuses (counted 1 1 2 18 (route_a ++ (label_new16 ++ (label_new17 ++ tree_new_a)))) ∷
    takes (counted 1 1 2 18 (route_a ++ (tree_new_a ++ (label_new16 ++ label_new17)))) ∷
    -- a record of the old form among them
    refuses (counted 1 1 2 18 (route_a ++ (tree_a ++ (label_new16 ++ label_new17)))) ∷
    refuses (counted 1 1 2 18 (route_a ++ (tree_new_a ++ (label_new16 ++ label17)))) ∷
    []

-- B's record with another name, and that tree alone
unfoldable pub tree_named : List ℕ → List ℕ
tree_named a = take 3 tree_new_b ++ (length a ∷ (a ++ drop 29 tree_new_b))

unfoldable pub alone : List ℕ → List ℕ
alone a = counted 0 1 0 0 (tree_named a)

-- an opaque value of n octets, one element
unfoldable pub valued : ℕ → List ℕ
valued n = 9 ∷ (two (n - 3) ++ replicate (n - 3) 7)

unfoldable pub long : ℕ → List ℕ
long n = element 2 (replicate 16 32) (valued n)

unfoldable pub short : ℕ → List ℕ
short n = element 1 (10 ∷ 0 ∷ 0 ∷ 1 ∷ []) (valued n)

unfoldable pub tree_names : List Row
tree_names =
    takes (alone (long 3)) ∷
    takes (alone (short 3)) ∷
    -- values of more than 32 octets, to 128
    takes (alone (long 32)) ∷
    takes (alone (long 33)) ∷
    takes (alone (long 128)) ∷
    takes (alone (short 128)) ∷
    refuses (alone (long 129)) ∷
    refuses (alone (short 129)) ∷
    -- no name
    refuses (alone []) ∷
    refuses (alone (replicate 150 0)) ∷
    refuses (alone (replicate 255 6)) ∷
    -- the name's length one off
    refuses (counted 0 1 0 0 (over (tree_named (long 3)) 3 (24 ∷ []))) ∷
    refuses (counted 0 1 0 0 (over (tree_named (long 3)) 3 (26 ∷ []))) ∷
    refuses (in_a 3 (16 ∷ [])) ∷
    refuses (in_a 3 (18 ∷ [])) ∷
    -- what 6, 7 and 18 ask of it
    refuses (alone (over (long 3) 0 (7 ∷ []))) ∷
    refuses (alone (over (long 3) 2 (1 ∷ []))) ∷
    refuses (alone (over (long 3) 2 (3 ∷ []))) ∷
    refuses (alone (over (long 3) 3 (4 ∷ []))) ∷
    refuses (alone (over (long 3) 21 (2 ∷ []))) ∷
    refuses (alone (element 2 (replicate 16 32) [])) ∷
    refuses (alone (element 2 (replicate 16 32) (9 ∷ 0 ∷ 1 ∷ []))) ∷
    refuses (alone (element 2 (replicate 5 32) (valued 3))) ∷
    []

unfoldable pub branches : List Row
branches =
    -- the leaf mark; without it the tree is empty
    refuses (counted 0 1 0 0 (over tree_new_b 29 (0 ∷ []))) ∷
    refuses (counted 0 1 0 0 (over tree_new_b 29 (2 ∷ []))) ∷
    takes (in_a 21 (1 ∷ [])) ∷
    -- a branch from 0, and from 15
    refuses (counted 0 1 0 0 (over tree_new_b 30 (four 15))) ∷
    takes (counted 0 1 0 0 (over tree_new_b 30 (four 16))) ∷
    takes (counted 0 1 0 0 (over tree_new_b 90 (four 1048575))) ∷
    refuses (counted 0 1 0 0 (over tree_new_b 90 (four 1048576))) ∷
    -- two trees in either order, and one twice
    takes (counted 1 2 2 18 (route_a ++ (tree_new_b ++ (tree_new_a ++ (label_new16 ++ label_new17))))) ∷
    refuses (counted 0 2 0 0 (tree_new_b ++ tree_new_b)) ∷
    []

-- a label, its use and its neighbour, for a name
unfoldable pub used : ℕ → ℕ → ℕ → List ℕ → List ℕ
used l state n a = take 3 label_new16 ++ (four l ++ (state ∷ n ∷ length a ∷ a))

unfoldable pub labels : List Row
labels =
    takes (counted 0 0 1 16 (used 16 2 0 (long 128))) ∷
    refuses (counted 0 0 1 16 (used 16 2 0 (long 129))) ∷
    refuses (counted 0 0 1 16 (used 16 2 0 [])) ∷
    refuses (counted 0 0 1 16 (used 16 2 0 (over (long 3) 0 (7 ∷ [])))) ∷
    -- the block, the order, and twice
    refuses (counted 0 0 1 16 (used 15 2 0 (long 3))) ∷
    takes (counted 0 0 1 16 (used 271 2 15 (long 3))) ∷
    refuses (counted 0 0 1 16 (used 272 2 0 (long 3))) ∷
    takes (counted 0 0 2 16 (used 16 2 0 (long 128) ++ used 17 2 0 (short 3))) ∷
    refuses (counted 0 0 2 16 (used 17 2 0 (short 3) ++ used 16 2 0 (long 128))) ∷
    refuses (counted 0 0 2 16 (used 16 2 0 (short 3) ++ used 16 2 0 (short 3))) ∷
    -- the use, and the neighbour
    refuses (in16 7 (0 ∷ [])) ∷
    refuses (in16 7 (3 ∷ [])) ∷
    takes (in16 8 (15 ∷ [])) ∷
    refuses (in16 8 (16 ∷ [])) ∷
    refuses (in17 8 (19 ∷ [])) ∷
    refuses (in17 8 (2 ∷ [])) ∷
    -- the name's length one off
    refuses (in16 9 (16 ∷ [])) ∷
    refuses (in16 9 (18 ∷ [])) ∷
    -- A without its label; mapped for a tree that does not stand
    refuses (counted 1 1 1 16 (route_a ++ (tree_new_a ++ label_new16))) ∷
    refuses (counted 1 0 1 16 (route_a ++ label_new17)) ∷
    []

-- so many routes, trees with a leaf, and labels awaiting release, each of another root or name
unfoldable pub some_routes : ℕ → List ℕ
some_routes zero = []
some_routes (suc n) = over (other_route 0) 8 (n ∷ []) ++ some_routes n

unfoldable pub some_trees : ℕ → List ℕ
some_trees zero = []
some_trees (suc n) = over tree_new_b 26 (n ∷ []) ++ some_trees n

unfoldable pub some_labels : ℕ → ℕ → List ℕ
some_labels l zero = []
some_labels l (suc n) = used l 2 0 (short 3) ++ some_labels (suc l) n

unfoldable pub sizes : List Row
sizes =
    takes (counted 32 0 0 0 (some_routes 32)) ∷
    refuses (counted 33 0 0 0 (some_routes 33)) ∷
    takes (counted 0 64 0 0 (some_trees 64)) ∷
    refuses (counted 0 65 0 0 (some_trees 65)) ∷
    takes (counted 0 0 256 271 (some_labels 16 256)) ∷
    refuses (counted 0 0 257 271 (some_labels 16 257)) ∷
    []

-- and a save of the new form is none of the old
unfoldable pub not_old : List Row
not_old =
    refuses example_new ∷
    refuses (none 16 1 0) ∷
    refuses (take 15 (none 16 1 0)) ∷
    []

-- The longest save of the new form: 32 routes of 16-octet roots, 64 trees, and 256 labels, each with a name of 150 octets.
unfoldable pub many_routes : ℕ → List Route
many_routes zero = []
many_routes (suc n) = record { root = replicate 15 32 ++ (suc n ∷ []); via = 0; standing = 0; lone = 0 } ∷ many_routes n

unfoldable pub used_long : List Tree → List Use
used_long [] = replicate 192 (awaiting 9 (long 128))
used_long (t ∷ ts) = mapped 0 t.name ∷ used_long ts

unfoldable pub heaviest : Card
heaviest = let ts = load 64 0 in with_last 271 (with_trees ts (with_labels (used_long ts) (with_routes (all_worked_out ts (many_routes 32)) (fresh 16))))

unfoldable pub most_saved : Bool
most_saved =
    keeps_rules heaviest && last_right heaviest && eqb (length (saved new heaviest)) 55667
    && eqb (save new 55666 heaviest).answer 16 && eqb (save new 55667 heaviest).answer 0 && eqb (save old 55667 heaviest).answer 19

-- A table with a wrong row is named by the refusal of its `tt`; where the rows are few, with the row's number.
pub new-rows-shown : NoneWrong (wrong new 1 lengths)
    × NoneWrong (wrong new 1 marks)
    × NoneWrong (wrong new 1 counts)
    × NoneWrong (wrong new 1 heads)
    × NoneWrong (wrong new 1 lasts)
    × NoneWrong (wrong new 1 orders)
    × NoneWrong (wrong new 1 tree_names)
    × NoneWrong (wrong new 1 branches)
    × NoneWrong (wrong new 1 labels)
    × NoneWrong (wrong new 1 sizes)
    × NoneWrong (wrong old 1 not_old)
    × (most_saved ≡ true)
unfolding computing_saves computing right wrong over other_route counted none in_head in_route in_a in16 in17 tree_named alone valued long short used some_routes some_trees some_labels lengths marks counts heads lasts orders tree_names branches labels sizes not_old many_routes used_long heaviest load most_saved head_new tree_new_a tree_new_b label_new16 label_new17 example_new head_of route_a tree_a tree_b label16 label17 example
new-rows-shown = (tt, tt, tt, tt, tt, tt, tt, tt, tt, tt, tt, refl)
