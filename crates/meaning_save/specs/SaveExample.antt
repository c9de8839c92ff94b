-- The save by example: one whole save, octet by octet. `SaveRows` has which octets are taken, and which are refused.
-- Assumes nothing.
use Rattle.std.specs.Prelude.{ℕ, ◌≡◌, refl, Bool, ◌&&◌, List, [], ◌∷◌, ◌++◌, take, drop, replicate, eqb}
use Rattle.meaning.specs.Octets.{same, all}
use Rattle.meaning.specs.Wire.{root_in, opaque_in, element, mapping}
use Rattle.meaning.specs.Card.{Card, free, mapped, fresh, with_labels, with_last}
use Rattle.meaning.specs.Events.{Out, Event, join, leave, route, event, start}
use Rattle.meaning.specs.Computing.{computing}
use Rattle.meaning.specs.Examples.{NoneWrong, wrong_tests, enough, A, wide, heard}
use Rattle.meaning_save.specs.Save.{old, new, route_kind, head_size, padded, spaced, name_saved, marked, last_saved, head_saved, route_saved, fours_of, tree_saved, use_saved, routes_saved, trees_saved, uses_saved, saved, is_short, is_short_tree, is_short_use, fits_save, save, spaced_in, name_in, route_read, fours_in, tree_read, use_read, routes_read, trees_read, uses_read, is_mapped_for, labelled, all_labelled, all_worked_out, table_in, is_name, once_each, is_route, same_root, is_branch_label, is_tree, same_name, is_use, is_carried, all_carried, carries_own, holds_right, is_counted, counts_right, keeps_rows, keeps_rules, is_save, restore, highest_used, settled, carried_by, last_in, tree_end, trees_end, use_end, last_right, ruled, not_moved, move, newer, older}

-- as `computing`, for the definitions of saves
unfoldable pub computing_saves : ℕ
unfolding computing padded spaced name_saved marked last_saved head_saved route_saved fours_of tree_saved use_saved routes_saved trees_saved uses_saved saved is_short is_short_tree is_short_use fits_save save spaced_in name_in route_read fours_in tree_read use_read routes_read trees_read uses_read is_mapped_for labelled all_labelled all_worked_out table_in all is_name once_each is_route same_root is_branch_label is_tree same_name is_use is_carried all_carried carries_own holds_right is_counted counts_right keeps_rows keeps_rules is_save restore highest_used settled carried_by last_in tree_end trees_end use_end last_right ruled not_moved move newer older
computing_saves = 0

-- ---- one whole example

-- a tree of the root 2001:db8::1, for which there is no route
unfoldable pub B : List ℕ
B = element 2 (0x20 ∷ 0x01 ∷ 0x0D ∷ 0xB8 ∷ 0 ∷ 0 ∷ 0 ∷ 0 ∷ 0 ∷ 0 ∷ 0 ∷ 0 ∷ 0 ∷ 0 ∷ 0 ∷ 1 ∷ []) (9 ∷ 0 ∷ 0 ∷ [])

unfoldable pub after : Card → List Event → Card
after c [] = c
after c (e ∷ es) = after (event enough c e).card es

-- The route of A's root is neighbour 0, 1 maps <A, 100>, and B is joined. Then the route is neighbour 3: the label 16 awaits release from 0, and 17 is mapped to 3.
unfoldable pub swapped : Card
swapped = after (start 16).card (route (root_in A) 0 ∷ heard 1 mapping A 100 ∷ join B ∷ route (root_in A) 3 ∷ [])

-- Its save, record by record.

-- the head: base 16, next identifier 4, and then one route, two trees, two labels
unfoldable pub head_of : List ℕ
head_of =
    -- mark, kind
    0x4C ∷ 0x53 ∷ 0x01 ∷
    -- base, next
    0x00 ∷ 0x00 ∷ 0x00 ∷ 0x10 ∷ 0x00 ∷ 0x00 ∷ 0x00 ∷ 0x04 ∷
    -- routes, trees, labels
    0x01 ∷ 0x02 ∷ 0x00 ∷ 0x02 ∷
    []

-- the route of A's root
unfoldable pub route_a : List ℕ
route_a =
    -- mark, kind
    0x4C ∷ 0x53 ∷ 0x02 ∷
    -- neighbour 3
    0x03 ∷
    -- the root's length, and 16 octets of space
    0x04 ∷
    0xC0 ∷ 0x00 ∷ 0x02 ∷ 0x01 ∷ 0x00 ∷ 0x00 ∷ 0x00 ∷ 0x00 ∷ 0x00 ∷ 0x00 ∷ 0x00 ∷ 0x00 ∷ 0x00 ∷ 0x00 ∷ 0x00 ∷ 0x00 ∷
    []

-- A, with the branch <1, 100>
unfoldable pub tree_a : List ℕ
tree_a =
    -- mark, kind
    0x4C ∷ 0x53 ∷ 0x03 ∷
    -- the root's length, and 16 octets of space
    0x04 ∷
    0xC0 ∷ 0x00 ∷ 0x02 ∷ 0x01 ∷ 0x00 ∷ 0x00 ∷ 0x00 ∷ 0x00 ∷ 0x00 ∷ 0x00 ∷ 0x00 ∷ 0x00 ∷ 0x00 ∷ 0x00 ∷ 0x00 ∷ 0x00 ∷
    -- the opaque value's length, and 32 octets of space
    0x07 ∷
    0x01 ∷ 0x00 ∷ 0x04 ∷ 0x00 ∷ 0x00 ∷ 0x00 ∷ 0x07 ∷ 0x00 ∷ 0x00 ∷ 0x00 ∷ 0x00 ∷ 0x00 ∷ 0x00 ∷ 0x00 ∷ 0x00 ∷ 0x00 ∷
    0x00 ∷ 0x00 ∷ 0x00 ∷ 0x00 ∷ 0x00 ∷ 0x00 ∷ 0x00 ∷ 0x00 ∷ 0x00 ∷ 0x00 ∷ 0x00 ∷ 0x00 ∷ 0x00 ∷ 0x00 ∷ 0x00 ∷ 0x00 ∷
    -- no leaf
    0x00 ∷
    -- sixteen branches
    0x00 ∷ 0x00 ∷ 0x00 ∷ 0x00 ∷ 0x00 ∷ 0x00 ∷ 0x00 ∷ 0x64 ∷ 0x00 ∷ 0x00 ∷ 0x00 ∷ 0x00 ∷ 0x00 ∷ 0x00 ∷ 0x00 ∷ 0x00 ∷
    0x00 ∷ 0x00 ∷ 0x00 ∷ 0x00 ∷ 0x00 ∷ 0x00 ∷ 0x00 ∷ 0x00 ∷ 0x00 ∷ 0x00 ∷ 0x00 ∷ 0x00 ∷ 0x00 ∷ 0x00 ∷ 0x00 ∷ 0x00 ∷
    0x00 ∷ 0x00 ∷ 0x00 ∷ 0x00 ∷ 0x00 ∷ 0x00 ∷ 0x00 ∷ 0x00 ∷ 0x00 ∷ 0x00 ∷ 0x00 ∷ 0x00 ∷ 0x00 ∷ 0x00 ∷ 0x00 ∷ 0x00 ∷
    0x00 ∷ 0x00 ∷ 0x00 ∷ 0x00 ∷ 0x00 ∷ 0x00 ∷ 0x00 ∷ 0x00 ∷ 0x00 ∷ 0x00 ∷ 0x00 ∷ 0x00 ∷ 0x00 ∷ 0x00 ∷ 0x00 ∷ 0x00 ∷
    []

-- B, with a leaf alone
unfoldable pub tree_b : List ℕ
tree_b =
    -- mark, kind
    0x4C ∷ 0x53 ∷ 0x03 ∷
    -- the root's length, and 16 octets of space
    0x10 ∷
    0x20 ∷ 0x01 ∷ 0x0D ∷ 0xB8 ∷ 0x00 ∷ 0x00 ∷ 0x00 ∷ 0x00 ∷ 0x00 ∷ 0x00 ∷ 0x00 ∷ 0x00 ∷ 0x00 ∷ 0x00 ∷ 0x00 ∷ 0x01 ∷
    -- the opaque value's length, and 32 octets of space
    0x03 ∷
    0x09 ∷ 0x00 ∷ 0x00 ∷ 0x00 ∷ 0x00 ∷ 0x00 ∷ 0x00 ∷ 0x00 ∷ 0x00 ∷ 0x00 ∷ 0x00 ∷ 0x00 ∷ 0x00 ∷ 0x00 ∷ 0x00 ∷ 0x00 ∷
    0x00 ∷ 0x00 ∷ 0x00 ∷ 0x00 ∷ 0x00 ∷ 0x00 ∷ 0x00 ∷ 0x00 ∷ 0x00 ∷ 0x00 ∷ 0x00 ∷ 0x00 ∷ 0x00 ∷ 0x00 ∷ 0x00 ∷ 0x00 ∷
    -- leaf
    0x01 ∷
    -- sixteen branches
    0x00 ∷ 0x00 ∷ 0x00 ∷ 0x00 ∷ 0x00 ∷ 0x00 ∷ 0x00 ∷ 0x00 ∷ 0x00 ∷ 0x00 ∷ 0x00 ∷ 0x00 ∷ 0x00 ∷ 0x00 ∷ 0x00 ∷ 0x00 ∷
    0x00 ∷ 0x00 ∷ 0x00 ∷ 0x00 ∷ 0x00 ∷ 0x00 ∷ 0x00 ∷ 0x00 ∷ 0x00 ∷ 0x00 ∷ 0x00 ∷ 0x00 ∷ 0x00 ∷ 0x00 ∷ 0x00 ∷ 0x00 ∷
    0x00 ∷ 0x00 ∷ 0x00 ∷ 0x00 ∷ 0x00 ∷ 0x00 ∷ 0x00 ∷ 0x00 ∷ 0x00 ∷ 0x00 ∷ 0x00 ∷ 0x00 ∷ 0x00 ∷ 0x00 ∷ 0x00 ∷ 0x00 ∷
    0x00 ∷ 0x00 ∷ 0x00 ∷ 0x00 ∷ 0x00 ∷ 0x00 ∷ 0x00 ∷ 0x00 ∷ 0x00 ∷ 0x00 ∷ 0x00 ∷ 0x00 ∷ 0x00 ∷ 0x00 ∷ 0x00 ∷ 0x00 ∷
    []

-- 16 awaits release from 0, for A
unfoldable pub label16 : List ℕ
label16 =
    -- mark, kind
    0x4C ∷ 0x53 ∷ 0x04 ∷
    -- label, awaiting, neighbour
    0x00 ∷ 0x00 ∷ 0x00 ∷ 0x10 ∷ 0x02 ∷ 0x00 ∷
    -- the root's length, and 16 octets of space
    0x04 ∷
    0xC0 ∷ 0x00 ∷ 0x02 ∷ 0x01 ∷ 0x00 ∷ 0x00 ∷ 0x00 ∷ 0x00 ∷ 0x00 ∷ 0x00 ∷ 0x00 ∷ 0x00 ∷ 0x00 ∷ 0x00 ∷ 0x00 ∷ 0x00 ∷
    -- the opaque value's length, and 32 octets of space
    0x07 ∷
    0x01 ∷ 0x00 ∷ 0x04 ∷ 0x00 ∷ 0x00 ∷ 0x00 ∷ 0x07 ∷ 0x00 ∷ 0x00 ∷ 0x00 ∷ 0x00 ∷ 0x00 ∷ 0x00 ∷ 0x00 ∷ 0x00 ∷ 0x00 ∷
    0x00 ∷ 0x00 ∷ 0x00 ∷ 0x00 ∷ 0x00 ∷ 0x00 ∷ 0x00 ∷ 0x00 ∷ 0x00 ∷ 0x00 ∷ 0x00 ∷ 0x00 ∷ 0x00 ∷ 0x00 ∷ 0x00 ∷ 0x00 ∷
    []

-- 17 is mapped to 3, for A
unfoldable pub label17 : List ℕ
label17 =
    -- mark, kind
    0x4C ∷ 0x53 ∷ 0x04 ∷
    -- label, mapped, neighbour
    0x00 ∷ 0x00 ∷ 0x00 ∷ 0x11 ∷ 0x01 ∷ 0x03 ∷
    -- the root's length, and 16 octets of space
    0x04 ∷
    0xC0 ∷ 0x00 ∷ 0x02 ∷ 0x01 ∷ 0x00 ∷ 0x00 ∷ 0x00 ∷ 0x00 ∷ 0x00 ∷ 0x00 ∷ 0x00 ∷ 0x00 ∷ 0x00 ∷ 0x00 ∷ 0x00 ∷ 0x00 ∷
    -- the opaque value's length, and 32 octets of space
    0x07 ∷
    0x01 ∷ 0x00 ∷ 0x04 ∷ 0x00 ∷ 0x00 ∷ 0x00 ∷ 0x07 ∷ 0x00 ∷ 0x00 ∷ 0x00 ∷ 0x00 ∷ 0x00 ∷ 0x00 ∷ 0x00 ∷ 0x00 ∷ 0x00 ∷
    0x00 ∷ 0x00 ∷ 0x00 ∷ 0x00 ∷ 0x00 ∷ 0x00 ∷ 0x00 ∷ 0x00 ∷ 0x00 ∷ 0x00 ∷ 0x00 ∷ 0x00 ∷ 0x00 ∷ 0x00 ∷ 0x00 ∷ 0x00 ∷
    []

unfoldable pub example : List ℕ
example = head_of ++ (route_a ++ (tree_a ++ (tree_b ++ (label16 ++ label17))))

-- behind the head, the mark and the kind of the route
pub route-behind-head : take 3 (drop (head_size old) (saved old swapped)) ≡ 0x4C ∷ 0x53 ∷ route_kind ∷ []
unfolding computing_saves computing B after swapped A heard
route-behind-head = refl

-- the save of that card is exactly these octets
pub example-saved : saved old swapped ≡ example
unfolding computing_saves computing B after swapped head_of route_a tree_a tree_b label16 label17 example A heard
example-saved = refl

-- and they are taken, whatever table stands, and give the same card back
pub example-restored : restore old example (fresh 99) ≡ record { answer = 0; octets = []; card = swapped }
unfolding computing_saves computing B after swapped head_of route_a tree_a tree_b label16 label17 example A heard
example-restored = refl

-- ---- too little room

unfoldable pub agrees : Out → ℕ → List ℕ → List ℕ → Bool
agrees o answer octets table = eqb o.answer answer && same o.octets octets && same (saved old o.card) table

-- ---- values of 32 octets, which have their space, and longer ones

-- a name of B's root with a value of n octets, as `wide` is one of A's
unfoldable pub wide_b : ℕ → List ℕ
wide_b n = element 2 (root_in B) (opaque_in (wide n))

-- in a tree alone, for which there is no route
unfoldable pub in_tree : ℕ → Card
in_tree n = after (start 16).card (join (wide_b n) ∷ [])

-- in a tree and in the label that it carries
unfoldable pub in_both : ℕ → Card
in_both n = after (start 16).card (route (root_in A) 0 ∷ join (wide n) ∷ [])

-- in an awaiting label alone: its tree is gone
unfoldable pub in_awaiting : ℕ → Card
in_awaiting n = after (in_both n) (leave (wide n) ∷ [])

-- in a mapped label alone, as no history leaves it
unfoldable pub in_mapped : ℕ → Card
in_mapped n = with_labels (mapped 0 (wide_b n) ∷ replicate 255 free) (fresh 16)

unfoldable pub room_tests : List Bool
room_tests =
    agrees (save old 389 swapped) 16 [] example ∷ agrees (save old 390 swapped) 0 example example ∷
    agrees (save old 14 (fresh 16)) 16 [] (saved old (fresh 16)) ∷ agrees (save old 15 (fresh 16)) 0 (saved old (fresh 16)) (saved old (fresh 16)) ∷
    []

-- the last label given, in the old form
unfoldable pub last_tests : List Bool
last_tests =
    -- 1. it is not carried: reading takes the highest in use for it, or none where none is
    same (saved old (with_last 200 swapped)) example ∷ eqb (restore old example (fresh 99)).card.last 17 ∷
    eqb (restore old (saved old (with_last 200 (fresh 16))) (fresh 99)).card.last 0 ∷
    []

-- and the new form carries it
pub last-carried : (restore new (saved new (with_last 200 swapped)) (fresh 99)).card.last ≡ 200
unfolding computing_saves computing B after swapped A heard
last-carried = refl

-- what is of the other form, or of none
unfoldable pub form_tests : List Bool
form_tests =
    -- 1. what is no save of the form is refused 19, and the table stays
    agrees (restore old [] swapped) 19 [] example ∷ agrees (restore old (saved new swapped) swapped) 19 [] example ∷ agrees (restore new example swapped) 19 [] example ∷
    -- 4. a value that is longer than the old form's space is not moved back
    eqb (older 23343 (saved new (in_both 33))).answer 19 ∷
    []

pub saves-shown : NoneWrong (wrong_tests 1 room_tests) × NoneWrong (wrong_tests 1 last_tests) × NoneWrong (wrong_tests 1 form_tests)
unfolding computing_saves computing wrong_tests agrees room_tests last_tests form_tests in_both wide B after swapped head_of route_a tree_a tree_b label16 label17 example A heard
saves-shown = (tt, tt, tt)

-- the answers in so much room
unfoldable pub answers_in : List ℕ → Card → List ℕ
answers_in [] c = []
answers_in (room ∷ rooms) c = (save old room c).answer ∷ answers_in rooms c

-- 16 and 0 by the room where the value has 32 octets; 19 in any room, none and more than any save takes, where it has 33
unfoldable pub long_tests : List Bool
long_tests =
    -- 1. in a tree
    same (answers_in (132 ∷ 133 ∷ []) (in_tree 32)) (16 ∷ 0 ∷ []) ∷ same (answers_in (0 ∷ 132 ∷ 133 ∷ 23343 ∷ []) (in_tree 33)) (19 ∷ 19 ∷ 19 ∷ 19 ∷ []) ∷
    -- 3. in a tree and its label
    same (answers_in (212 ∷ 213 ∷ []) (in_both 32)) (16 ∷ 0 ∷ []) ∷ same (answers_in (0 ∷ 212 ∷ 213 ∷ 23343 ∷ []) (in_both 33)) (19 ∷ 19 ∷ 19 ∷ 19 ∷ []) ∷
    -- 5. in an awaiting label alone
    same (answers_in (94 ∷ 95 ∷ []) (in_awaiting 32)) (16 ∷ 0 ∷ []) ∷ same (answers_in (0 ∷ 94 ∷ 95 ∷ 23343 ∷ []) (in_awaiting 33)) (19 ∷ 19 ∷ 19 ∷ 19 ∷ []) ∷
    -- 7. in a mapped label alone
    same (answers_in (73 ∷ 74 ∷ []) (in_mapped 32)) (16 ∷ 0 ∷ []) ∷ same (answers_in (0 ∷ 73 ∷ 74 ∷ 23343 ∷ []) (in_mapped 33)) (19 ∷ 19 ∷ 19 ∷ 19 ∷ []) ∷
    -- 9. and the longest
    same (answers_in (23343 ∷ []) (in_tree 128)) (19 ∷ []) ∷ same (answers_in (23343 ∷ []) (in_awaiting 128)) (19 ∷ []) ∷
    []

pub long-shown : NoneWrong (wrong_tests 1 long_tests)
unfolding computing_saves computing wrong_tests long_tests answers_in wide wide_b in_tree in_both in_awaiting in_mapped after A B
long-shown = tt

-- nothing is written, and the table stays
pub long-stays : save old 23343 (in_both 33) ≡ record { answer = 19; octets = []; card = in_both 33 }
unfolding computing_saves computing wide in_both after A
long-stays = refl
