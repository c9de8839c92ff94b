-- Which octets are taken as a save of the old form, and which are refused by 19: both sides of each rule, in small tables that one statement computes.
-- Assumes nothing.
use Rattle.std.specs.Prelude.{ℕ, zero, suc, ◌+◌, List, [], ◌∷◌, ◌++◌, take, drop, replicate, length}
use Rattle.meaning.specs.Octets.{four}
use Rattle.meaning.specs.Computing.{computing}
use Rattle.meaning.specs.Examples.{NoneWrong}
use Rattle.meaning_save.specs.Save.{old}
use Rattle.meaning_save.specs.SaveExample.{computing_saves, head_of, route_a, tree_a, tree_b, label16, label17, example}
use Rattle.meaning_save.specs.SaveRows.{Row, takes, refuses, right, wrong}

-- other octets from place i on
unfoldable pub over : List ℕ → ℕ → List ℕ → List ℕ
over s i o = take i s ++ (o ++ drop (i + length o) s)

-- a head with other counts, and what follows it
unfoldable pub counted : ℕ → ℕ → ℕ → List ℕ → List ℕ
counted routes trees labels rest = over head_of 11 (routes ∷ trees ∷ 0 ∷ labels ∷ []) ++ rest

-- an empty table's save
unfoldable pub none : ℕ → ℕ → List ℕ
none base next = over (counted 0 0 0 []) 3 (four base ++ four next)

-- one place in a record of the example
unfoldable pub in_head : ℕ → List ℕ → List ℕ
in_head i o = over example i o

unfoldable pub in_route : ℕ → List ℕ → List ℕ
in_route i o = over example (15 + i) o

unfoldable pub in_a : ℕ → List ℕ → List ℕ
in_a i o = over example (36 + i) o

unfoldable pub in16 : ℕ → List ℕ → List ℕ
in16 i o = over example (272 + i) o

unfoldable pub in17 : ℕ → List ℕ → List ℕ
in17 i o = over example (331 + i) o

-- the length
unfoldable pub lengths : List Row
lengths =
    takes example ∷
    refuses [] ∷
    refuses (take 14 head_of) ∷
    refuses head_of ∷
    refuses (take 389 example) ∷
    refuses (example ++ (0 ∷ [])) ∷
    refuses (example ++ example) ∷
    []

-- marks and kinds
unfoldable pub marks : List Row
marks =
    refuses (in_head 0 (0x4D ∷ [])) ∷
    refuses (in_head 1 (0x44 ∷ [])) ∷
    refuses (in_head 2 (0 ∷ [])) ∷
    refuses (in_head 2 (2 ∷ [])) ∷
    refuses (in_route 0 (0x4D ∷ [])) ∷
    refuses (in_route 2 (3 ∷ [])) ∷
    refuses (in_a 1 (0x44 ∷ [])) ∷
    refuses (in_a 2 (4 ∷ [])) ∷
    refuses (in16 0 (0x4D ∷ [])) ∷
    refuses (in16 2 (5 ∷ [])) ∷
    []

-- each count one off
unfoldable pub counts : List Row
counts =
    refuses (in_head 11 (0 ∷ [])) ∷
    refuses (in_head 11 (2 ∷ [])) ∷
    refuses (in_head 12 (1 ∷ [])) ∷
    refuses (in_head 12 (3 ∷ [])) ∷
    refuses (in_head 14 (1 ∷ [])) ∷
    refuses (in_head 14 (3 ∷ [])) ∷
    refuses (in_head 13 (1 ∷ [])) ∷
    []

unfoldable pub heads : List Row
heads =
    -- the base
    refuses (none 15 1) ∷
    takes (none 16 1) ∷
    takes (none 1048320 1) ∷
    refuses (none 1048321 1) ∷
    -- any identifier
    takes (none 16 0) ∷
    takes (none 16 4294967295) ∷
    []

-- kinds in another order
unfoldable pub orders : List Row
orders =
    refuses (counted 1 1 2 (tree_a ++ (route_a ++ (label16 ++ label17)))) ∷
    refuses (counted 1 1 2 (route_a ++ (label16 ++ (label17 ++ tree_a)))) ∷
    refuses (route_a ++ head_of) ∷
    []

-- a route of a root that no tree has
unfoldable pub other_route : ℕ → List ℕ
other_route via = over route_a 3 (via ∷ 4 ∷ 10 ∷ [])

unfoldable pub routes : List Row
routes =
    takes (counted 1 0 0 (other_route 0)) ∷
    takes (counted 1 0 0 (other_route 15)) ∷
    takes (counted 1 0 0 (other_route 16)) ∷
    refuses (counted 1 0 0 (other_route 17)) ∷
    -- the root's length
    refuses (counted 1 0 0 (over (other_route 0) 4 (0 ∷ []))) ∷
    refuses (counted 1 0 0 (over (other_route 0) 4 (5 ∷ []))) ∷
    refuses (counted 1 0 0 (over (other_route 0) 4 (15 ∷ []))) ∷
    takes (counted 1 0 0 (over (other_route 0) 4 (16 ∷ []))) ∷
    refuses (counted 1 0 0 (over (other_route 0) 4 (17 ∷ []))) ∷
    -- padding not zero: the first octet of it, and the last
    refuses (counted 1 0 0 (over (other_route 0) 9 (1 ∷ []))) ∷
    refuses (counted 1 0 0 (over (other_route 0) 20 (1 ∷ []))) ∷
    takes (counted 1 0 0 (over (over (other_route 0) 20 (1 ∷ [])) 4 (16 ∷ []))) ∷
    -- two roots, and one twice
    takes (counted 2 0 0 (other_route 0 ++ over (other_route 1) 8 (2 ∷ []))) ∷
    refuses (counted 2 0 0 (other_route 0 ++ other_route 1)) ∷
    []

-- B alone, with other octets at one place
unfoldable pub b_alone : ℕ → List ℕ → List ℕ
b_alone i o = counted 0 1 0 (over tree_b i o)

unfoldable pub tree_names : List Row
tree_names =
    takes (b_alone 0 []) ∷
    -- the root's length
    refuses (b_alone 3 (0 ∷ [])) ∷
    refuses (b_alone 3 (5 ∷ [])) ∷
    refuses (b_alone 3 (15 ∷ [])) ∷
    refuses (b_alone 3 (17 ∷ [])) ∷
    takes (b_alone 3 (4 ∷ 10 ∷ 0 ∷ 0 ∷ 1 ∷ replicate 12 0)) ∷
    -- padding not zero
    refuses (b_alone 3 (4 ∷ [])) ∷
    refuses (in_a 8 (1 ∷ [])) ∷
    refuses (in_a 19 (1 ∷ [])) ∷
    refuses (in_a 28 (1 ∷ [])) ∷
    refuses (in_a 52 (1 ∷ [])) ∷
    -- the opaque value's length
    refuses (b_alone 20 (0 ∷ [])) ∷
    refuses (b_alone 20 (0 ∷ 0 ∷ [])) ∷
    takes (b_alone 20 (6 ∷ 9 ∷ 0 ∷ 3 ∷ [])) ∷
    takes (b_alone 20 (32 ∷ 9 ∷ 0 ∷ 29 ∷ [])) ∷
    refuses (b_alone 20 (33 ∷ 9 ∷ 0 ∷ 30 ∷ [])) ∷
    refuses (b_alone 20 (33 ∷ 9 ∷ 0 ∷ 29 ∷ [])) ∷
    -- a value whose elements do not fill it
    refuses (b_alone 20 (2 ∷ [])) ∷
    refuses (b_alone 20 (4 ∷ [])) ∷
    refuses (b_alone 20 (3 ∷ 9 ∷ 0 ∷ 1 ∷ [])) ∷
    takes (b_alone 20 (6 ∷ [])) ∷
    []

unfoldable pub branches : List Row
branches =
    -- the leaf mark; without it the tree is empty
    refuses (b_alone 53 (0 ∷ [])) ∷
    refuses (b_alone 53 (2 ∷ [])) ∷
    takes (in_a 53 (1 ∷ [])) ∷
    -- a branch from 0, and from 15
    refuses (b_alone 54 (four 1)) ∷
    refuses (b_alone 54 (four 15)) ∷
    takes (b_alone 54 (four 16)) ∷
    takes (b_alone 114 (four 1048575)) ∷
    refuses (b_alone 114 (four 1048576)) ∷
    takes (b_alone 53 (0 ∷ four 16)) ∷
    []

-- two trees in either order, and one twice
unfoldable pub two_trees : List Row
two_trees =
    takes (counted 1 2 2 (route_a ++ (tree_b ++ (tree_a ++ (label16 ++ label17))))) ∷
    refuses (counted 0 2 0 (tree_b ++ tree_b)) ∷
    refuses (counted 0 2 0 (tree_b ++ over tree_b 53 (0 ∷ four 16))) ∷
    []

-- another label, its use and its neighbour, for A or for B
unfoldable pub for_a : ℕ → ℕ → ℕ → List ℕ
for_a l state n = over label16 3 (four l ++ (state ∷ n ∷ []))

unfoldable pub for_b : ℕ → ℕ → ℕ → List ℕ
for_b l state n = over (for_a l state n) 9 (take 50 (drop 3 tree_b))

-- the route, both trees, and n labels
unfoldable pub with_labels : ℕ → List ℕ → List ℕ
with_labels n labels = counted 1 2 n (route_a ++ (tree_a ++ (tree_b ++ labels)))

-- A with a branch of the upstream alone: it is held
unfoldable pub held_a : List ℕ
held_a = over tree_a 54 (replicate 12 0 ++ (four 100 ++ replicate 48 0))

-- out of order, and twice
unfoldable pub label_order : List Row
label_order =
    takes (with_labels 2 (label16 ++ label17)) ∷
    refuses (with_labels 2 (label17 ++ label16)) ∷
    refuses (with_labels 3 (label16 ++ (label16 ++ label17))) ∷
    []

-- the block is from 16 to 271
unfoldable pub block : List Row
block =
    refuses (with_labels 2 (for_a 15 2 0 ++ label17)) ∷
    takes (with_labels 2 (label17 ++ for_a 271 2 0)) ∷
    refuses (with_labels 2 (label17 ++ for_a 272 2 0)) ∷
    refuses (with_labels 2 (label17 ++ for_a 4294967295 2 0)) ∷
    []

unfoldable pub label_fields : List Row
label_fields =
    -- the use
    refuses (in16 7 (0 ∷ [])) ∷
    refuses (in16 7 (3 ∷ [])) ∷
    -- the neighbour
    takes (in16 8 (15 ∷ [])) ∷
    refuses (in16 8 (16 ∷ [])) ∷
    refuses (in17 8 (19 ∷ [])) ∷
    -- the name: root's length, opaque value's length, padding
    refuses (in16 9 (5 ∷ [])) ∷
    refuses (in16 26 (0 ∷ [])) ∷
    refuses (in16 26 (8 ∷ [])) ∷
    takes (in16 26 (10 ∷ [])) ∷
    takes (in16 26 (32 ∷ 1 ∷ 0 ∷ 29 ∷ [])) ∷
    refuses (in16 26 (33 ∷ 1 ∷ 0 ∷ 29 ∷ [])) ∷
    refuses (in16 14 (1 ∷ [])) ∷
    refuses (in16 58 (1 ∷ [])) ∷
    []

-- awaiting, for any name
unfoldable pub awaited : List Row
awaited =
    takes (with_labels 2 (for_b 16 2 5 ++ label17)) ∷
    takes (counted 0 0 1 label16) ∷
    []

unfoldable pub carried : List Row
carried =
    -- A without its label; mapped to another than its upstream; two labels mapped for it
    refuses (with_labels 1 label16) ∷
    refuses (with_labels 0 []) ∷
    takes (with_labels 1 label17) ∷
    refuses (in17 8 (2 ∷ [])) ∷
    refuses (with_labels 2 (for_a 16 1 3 ++ label17)) ∷
    refuses (with_labels 2 (for_a 16 1 0 ++ label17)) ∷
    -- B with a label, though it has no route; mapped for a tree that does not stand
    refuses (with_labels 3 (label16 ++ (label17 ++ for_b 18 1 3))) ∷
    refuses (with_labels 3 (label16 ++ (label17 ++ over (for_a 18 1 3) 27 (8 ∷ [])))) ∷
    refuses (counted 1 0 1 (route_a ++ label17)) ∷
    []

unfoldable pub unlabelled : List Row
unlabelled =
    -- where the route is this node, or there is none, A has no label
    refuses (in_route 3 (16 ∷ [])) ∷
    takes (counted 1 2 1 (over route_a 3 (16 ∷ []) ++ (tree_a ++ (tree_b ++ label16)))) ∷
    refuses (counted 0 2 2 (tree_a ++ (tree_b ++ (label16 ++ label17)))) ∷
    takes (counted 0 2 1 (tree_a ++ (tree_b ++ label16))) ∷
    -- nor where its only branch is held
    refuses (counted 1 1 1 (route_a ++ (held_a ++ label17))) ∷
    takes (counted 1 1 0 (route_a ++ held_a)) ∷
    []

-- so many routes, trees with a leaf, and labels awaiting release, each of another root or name
unfoldable pub some_routes : ℕ → List ℕ
some_routes zero = []
some_routes (suc n) = over (other_route 0) 8 (n ∷ []) ++ some_routes n

unfoldable pub some_trees : ℕ → List ℕ
some_trees zero = []
some_trees (suc n) = over tree_b 21 (n ∷ []) ++ some_trees n

unfoldable pub some_labels : ℕ → ℕ → List ℕ
some_labels l zero = []
some_labels l (suc n) = for_a l 2 0 ++ some_labels (suc l) n

unfoldable pub sizes : List Row
sizes =
    takes (counted 32 0 0 (some_routes 32)) ∷
    refuses (counted 33 0 0 (some_routes 33)) ∷
    takes (counted 0 64 0 (some_trees 64)) ∷
    refuses (counted 0 65 0 (some_trees 65)) ∷
    takes (over (counted 0 0 0 (some_labels 16 256)) 13 (1 ∷ 0 ∷ [])) ∷
    refuses (over (counted 0 0 0 (some_labels 16 257)) 13 (1 ∷ 1 ∷ [])) ∷
    []

-- A table with a wrong row is named by the refusal of its `tt`; where the rows are few, with the row's number.
pub rows-shown : NoneWrong (wrong old 1 lengths)
    × NoneWrong (wrong old 1 marks)
    × NoneWrong (wrong old 1 counts)
    × NoneWrong (wrong old 1 heads)
    × NoneWrong (wrong old 1 orders)
    × NoneWrong (wrong old 1 routes)
    × NoneWrong (wrong old 1 tree_names)
    × NoneWrong (wrong old 1 branches)
    × NoneWrong (wrong old 1 two_trees)
    × NoneWrong (wrong old 1 label_order)
    × NoneWrong (wrong old 1 block)
    × NoneWrong (wrong old 1 label_fields)
    × NoneWrong (wrong old 1 awaited)
    × NoneWrong (wrong old 1 carried)
    × NoneWrong (wrong old 1 unlabelled)
    × NoneWrong (wrong old 1 sizes)
unfolding computing_saves computing right wrong over counted none in_head in_route in_a in16 in17 other_route b_alone for_a for_b with_labels held_a some_routes some_trees some_labels lengths marks counts heads orders routes tree_names branches two_trees label_order block label_fields awaited carried unlabelled sizes head_of route_a tree_a tree_b label16 label17 example
rows-shown = (tt, tt, tt, tt, tt, tt, tt, tt, tt, tt, tt, tt, tt, tt, tt, tt)
