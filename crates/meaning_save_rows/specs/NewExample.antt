-- The new form by example: one whole save, octet by octet, and the moves between the forms.
-- Assumes nothing.
use Rattle.std.specs.Prelude.{ℕ, ◌≡◌, refl, Bool, true, not, ◌&&◌, List, [], ◌∷◌, ◌++◌, take, drop, eqb}
use Rattle.meaning.specs.Octets.{same, four}
use Rattle.meaning.specs.Wire.{root_in, element, release}
use Rattle.meaning.specs.Card.{Card, fresh, with_last}
use Rattle.meaning.specs.Events.{join, leave}
use Rattle.meaning.specs.Computing.{computing}
use Rattle.meaning.specs.Examples.{A, wide, heard}
use Rattle.meaning_save.specs.Save.{old, new, saved, save, restore, is_save, settled, Moved, newer, older}
use Rattle.meaning_save.specs.SaveExample.{computing_saves, B, after, swapped, in_both, in_awaiting, head_of, route_a, tree_a, tree_b, label16, label17, example}

-- ---- one whole example

-- a tree of A's root
unfoldable pub C : List ℕ
C = element 1 (root_in A) (3 ∷ 0 ∷ 0 ∷ [])

-- The card of the old form's example, and then C came and went, and its label 18 is released: it is the last one given, and 17 is the highest in use.
unfoldable pub rested : Card
rested = after swapped (join C ∷ leave C ∷ heard 3 release C 18 ∷ [])

-- Its save, record by record.

-- the head: base 16, next identifier 6, then one route, two trees, two labels, and the last label given
unfoldable pub head_new : List ℕ
head_new =
    -- mark, kind
    0x4C ∷ 0x53 ∷ 0x05 ∷
    -- base, next
    0x00 ∷ 0x00 ∷ 0x00 ∷ 0x10 ∷ 0x00 ∷ 0x00 ∷ 0x00 ∷ 0x06 ∷
    -- routes, trees, labels
    0x01 ∷ 0x02 ∷ 0x00 ∷ 0x02 ∷
    -- the last label given
    0x00 ∷ 0x00 ∷ 0x00 ∷ 0x12 ∷
    []

-- A, with the branch <1, 100>
unfoldable pub tree_new_a : List ℕ
tree_new_a =
    -- mark, kind
    0x4C ∷ 0x53 ∷ 0x06 ∷
    -- the name's length, and the name
    0x11 ∷
    0x06 ∷ 0x00 ∷ 0x01 ∷ 0x04 ∷ 0xC0 ∷ 0x00 ∷ 0x02 ∷ 0x01 ∷ 0x00 ∷ 0x07 ∷ 0x01 ∷ 0x00 ∷ 0x04 ∷ 0x00 ∷ 0x00 ∷ 0x00 ∷ 0x07 ∷
    -- no leaf
    0x00 ∷
    -- sixteen branches
    0x00 ∷ 0x00 ∷ 0x00 ∷ 0x00 ∷ 0x00 ∷ 0x00 ∷ 0x00 ∷ 0x64 ∷ 0x00 ∷ 0x00 ∷ 0x00 ∷ 0x00 ∷ 0x00 ∷ 0x00 ∷ 0x00 ∷ 0x00 ∷
    0x00 ∷ 0x00 ∷ 0x00 ∷ 0x00 ∷ 0x00 ∷ 0x00 ∷ 0x00 ∷ 0x00 ∷ 0x00 ∷ 0x00 ∷ 0x00 ∷ 0x00 ∷ 0x00 ∷ 0x00 ∷ 0x00 ∷ 0x00 ∷
    0x00 ∷ 0x00 ∷ 0x00 ∷ 0x00 ∷ 0x00 ∷ 0x00 ∷ 0x00 ∷ 0x00 ∷ 0x00 ∷ 0x00 ∷ 0x00 ∷ 0x00 ∷ 0x00 ∷ 0x00 ∷ 0x00 ∷ 0x00 ∷
    0x00 ∷ 0x00 ∷ 0x00 ∷ 0x00 ∷ 0x00 ∷ 0x00 ∷ 0x00 ∷ 0x00 ∷ 0x00 ∷ 0x00 ∷ 0x00 ∷ 0x00 ∷ 0x00 ∷ 0x00 ∷ 0x00 ∷ 0x00 ∷
    []

-- B, with a leaf alone
unfoldable pub tree_new_b : List ℕ
tree_new_b =
    -- mark, kind
    0x4C ∷ 0x53 ∷ 0x06 ∷
    -- the name's length, and the name
    0x19 ∷
    0x06 ∷ 0x00 ∷ 0x02 ∷ 0x10 ∷ 0x20 ∷ 0x01 ∷ 0x0D ∷ 0xB8 ∷ 0x00 ∷ 0x00 ∷ 0x00 ∷ 0x00 ∷ 0x00 ∷ 0x00 ∷ 0x00 ∷ 0x00 ∷
    0x00 ∷ 0x00 ∷ 0x00 ∷ 0x01 ∷ 0x00 ∷ 0x03 ∷ 0x09 ∷ 0x00 ∷ 0x00 ∷
    -- leaf
    0x01 ∷
    -- sixteen branches
    0x00 ∷ 0x00 ∷ 0x00 ∷ 0x00 ∷ 0x00 ∷ 0x00 ∷ 0x00 ∷ 0x00 ∷ 0x00 ∷ 0x00 ∷ 0x00 ∷ 0x00 ∷ 0x00 ∷ 0x00 ∷ 0x00 ∷ 0x00 ∷
    0x00 ∷ 0x00 ∷ 0x00 ∷ 0x00 ∷ 0x00 ∷ 0x00 ∷ 0x00 ∷ 0x00 ∷ 0x00 ∷ 0x00 ∷ 0x00 ∷ 0x00 ∷ 0x00 ∷ 0x00 ∷ 0x00 ∷ 0x00 ∷
    0x00 ∷ 0x00 ∷ 0x00 ∷ 0x00 ∷ 0x00 ∷ 0x00 ∷ 0x00 ∷ 0x00 ∷ 0x00 ∷ 0x00 ∷ 0x00 ∷ 0x00 ∷ 0x00 ∷ 0x00 ∷ 0x00 ∷ 0x00 ∷
    0x00 ∷ 0x00 ∷ 0x00 ∷ 0x00 ∷ 0x00 ∷ 0x00 ∷ 0x00 ∷ 0x00 ∷ 0x00 ∷ 0x00 ∷ 0x00 ∷ 0x00 ∷ 0x00 ∷ 0x00 ∷ 0x00 ∷ 0x00 ∷
    []

-- 16 awaits release from 0, for A
unfoldable pub label_new16 : List ℕ
label_new16 =
    -- mark, kind
    0x4C ∷ 0x53 ∷ 0x07 ∷
    -- label, awaiting, neighbour
    0x00 ∷ 0x00 ∷ 0x00 ∷ 0x10 ∷ 0x02 ∷ 0x00 ∷
    -- the name's length, and the name
    0x11 ∷
    0x06 ∷ 0x00 ∷ 0x01 ∷ 0x04 ∷ 0xC0 ∷ 0x00 ∷ 0x02 ∷ 0x01 ∷ 0x00 ∷ 0x07 ∷ 0x01 ∷ 0x00 ∷ 0x04 ∷ 0x00 ∷ 0x00 ∷ 0x00 ∷ 0x07 ∷
    []

-- 17 is mapped to 3, for A
unfoldable pub label_new17 : List ℕ
label_new17 =
    -- mark, kind
    0x4C ∷ 0x53 ∷ 0x07 ∷
    -- label, mapped, neighbour
    0x00 ∷ 0x00 ∷ 0x00 ∷ 0x11 ∷ 0x01 ∷ 0x03 ∷
    -- the name's length, and the name
    0x11 ∷
    0x06 ∷ 0x00 ∷ 0x01 ∷ 0x04 ∷ 0xC0 ∷ 0x00 ∷ 0x02 ∷ 0x01 ∷ 0x00 ∷ 0x07 ∷ 0x01 ∷ 0x00 ∷ 0x04 ∷ 0x00 ∷ 0x00 ∷ 0x00 ∷ 0x07 ∷
    []

-- (the route's record is as in the old form)
unfoldable pub example_new : List ℕ
example_new = head_new ++ (route_a ++ (tree_new_a ++ (tree_new_b ++ (label_new16 ++ label_new17))))

-- the save of that card is exactly these octets
pub example-new-saved : saved new rested ≡ example_new
unfolding computing_saves computing B C after swapped rested head_new route_a tree_new_a tree_new_b label_new16 label_new17 example_new A heard
example-new-saved = refl

-- and they are taken, whatever table stands, and give the same card back, the last label given with it
pub example-new-restored : restore new example_new (fresh 99) ≡ record { answer = 0; octets = []; card = rested }
unfolding computing_saves computing B C after swapped rested head_new route_a tree_new_a tree_new_b label_new16 label_new17 example_new A heard
example-new-restored = refl

-- ---- moves

-- the same table in the old form: only the next identifier differs from the old form's example
unfoldable pub example_old : List ℕ
example_old = take 7 example ++ (four 6 ++ drop 11 example)

-- moved there and back, with 17 as the last label given
unfoldable pub example_back : List ℕ
example_back = take 15 example_new ++ (four 17 ++ drop 19 example_new)

unfoldable pub gives : Moved → ℕ → List ℕ → Bool
gives m answer octets = eqb m.answer answer && same m.octets octets

unfoldable pub moves_right : Bool
moves_right =
    -- the last label given is 18, and 17 is the highest in use
    eqb rested.last 18 && eqb (settled rested).last 17
    -- too little room by one octet
    && eqb (save new 273 rested).answer 16 && eqb (save new 274 rested).answer 0
    -- back, and there again
    && gives (older 389 example_new) 16 [] && gives (older 390 example_new) 0 example_old
    && gives (newer 273 example_old) 16 [] && gives (newer 274 example_old) 0 example_back
    && gives (older 390 example_back) 0 example_old
    -- each mover takes its own form alone
    && gives (newer 999 example_new) 19 [] && gives (older 999 example_old) 19 [] && gives (older 999 []) 19 []
    -- a value of 32 octets moves back, one of 33 does not, whatever the room; nor where a label alone remembers it
    && eqb (older 212 (saved new (in_both 32))).answer 16 && eqb (older 213 (saved new (in_both 32))).answer 0
    && gives (older 0 (saved new (in_both 33))) 19 [] && gives (older 999 (saved new (in_both 33))) 19 []
    && eqb (older 999 (saved new (in_awaiting 32))).answer 0 && gives (older 999 (saved new (in_awaiting 128))) 19 []
    -- none only while no label is in use, and otherwise one of the block
    && not (is_save new (saved new (with_last 0 rested))) && is_save new (saved new (with_last 271 rested)) && not (is_save new (saved new (with_last 272 rested)))
    -- no label in use: none, or the last one given
    && eqb (restore new (saved new (fresh 16)) (fresh 99)).card.last 0 && eqb (restore new (saved new (with_last 271 (fresh 16))) (fresh 99)).card.last 271
    && gives (newer 19 (saved old (with_last 271 (fresh 16)))) 0 (saved new (fresh 16)) && gives (newer 18 (saved old (fresh 16))) 16 []

pub moves-shown : moves_right ≡ true
unfolding computing_saves computing moves_right gives example_old example_back wide in_both in_awaiting B C after swapped rested head_new tree_new_a tree_new_b label_new16 label_new17 example_new head_of route_a tree_a tree_b label16 label17 example A heard
moves-shown = refl
