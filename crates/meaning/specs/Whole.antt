-- The whole card after each event, written out: answer, octets, and every field. The tables of `Examples` and `Corners` ask for one label's feed and the number of free labels; these rows leave nothing out.
-- Assumes nothing.
use Rattle.std.specs.Prelude.{ℕ, ◌≡◌, refl, Bool, true, false, List, [], ◌∷◌, ◌++◌, replicate}
use Rattle.meaning.specs.Wire.{root_in, mapping, withdraw, release}
use Rattle.meaning.specs.Card.{Route, Tree, Use, free, mapped, awaiting, Card}
use Rattle.meaning.specs.Events.{Out, Event, join, leave, route, event, start}
use Rattle.meaning.specs.Computing.{computing}
use Rattle.meaning.specs.Examples.{A, case1, enough, heard, wrote}

-- ---- a row

-- an event, in so much room, and all that it gives
pub record Row : Type 0 where
  pub room : ℕ
  pub does : Event
  pub gives : Out

-- each event on the card that the row before gives
unfoldable pub Follows : Card → List Row → Type 0
Follows c [] = Unit {0}
Follows c (r ∷ rs) = (event r.room c r.does ≡ r.gives) × Follows r.gives.card rs

-- ---- cards of base 16

-- (the last label given comes last; 0 for none)
unfoldable pub card : ℕ → List Route → List Tree → List Use → ℕ → Card
card next routes trees labels last = record { base = 16; next = next; routes = routes; trees = trees; labels = labels; last = last }

-- A's root by that route alone, and its counts
unfoldable pub by : ℕ → ℕ → ℕ → List Route
by via standing lone = record { root = root_in A; via = via; standing = standing; lone = lone } ∷ []

-- A alone, with branches, leaf and label
unfoldable pub only_a : List ℕ → Bool → ℕ → List Tree
only_a bs leaf label = record { name = A; branches = bs; leaf = leaf; label = label } ∷ []

-- branches of neighbours 1 and 15 under those labels; 0 for none
unfoldable pub branches : ℕ → ℕ → List ℕ
branches l m = 0 ∷ l ∷ replicate 13 0 ++ m ∷ []

-- those labels, and all others free
unfoldable pub first : Use → List Use
first u = u ∷ replicate 255 free

unfoldable pub first_two : Use → Use → List Use
first_two u v = u ∷ v ∷ replicate 254 free

abbrev pub row : Event → ℕ → List ℕ → Card → Row
row e n w c = record { room = enough; does = e; gives = record { answer = n; octets = w; card = c } }

-- ---- the table

unfoldable pub rows : List Row
rows =
    -- a route order for a root of no tree
    row (route (root_in A) 0) 0 [] (card 1 (by 0 0 0) [] (replicate 256 free) 0) ∷
    -- a Mapping: a new tree, and a label for the upstream
    row (heard 1 mapping A 100) 0 case1 (card 2 (by 0 1 1) (only_a (branches 100 0) false 16) (first (mapped 0 A)) 16) ∷
    -- a refused one: nothing of the card changes
    row (heard 1 mapping A 101) 10 [] (card 2 (by 0 1 1) (only_a (branches 100 0) false 16) (first (mapped 0 A)) 16) ∷
    -- a Mapping of the last neighbour: one place more
    row (heard 15 mapping A 200) 0 [] (card 2 (by 0 1 0) (only_a (branches 100 200) false 16) (first (mapped 0 A)) 16) ∷
    -- a Withdraw: its branch goes, and no other
    row (heard 15 withdraw A 200) 0 (wrote 2 15 release 200) (card 3 (by 0 1 1) (only_a (branches 100 0) false 16) (first (mapped 0 A)) 16) ∷
    -- a leaf joins
    row (join A) 0 [] (card 3 (by 0 1 0) (only_a (branches 100 0) true 16) (first (mapped 0 A)) 16) ∷
    -- another route: the old label awaits release from whom it was given to, branches and leaf stay
    row (route (root_in A) 3) 0 (wrote 3 0 withdraw 16 ++ wrote 4 3 mapping 17) (card 5 (by 3 1 0) (only_a (branches 100 0) true 17) (first_two (awaiting 0 A) (mapped 3 A)) 17) ∷
    -- the leaf leaves
    row (leave A) 0 [] (card 5 (by 3 1 1) (only_a (branches 100 0) false 17) (first_two (awaiting 0 A) (mapped 3 A)) 17) ∷
    -- a Release: that label is free
    row (heard 0 release A 16) 0 [] (card 5 (by 3 1 1) (only_a (branches 100 0) false 17) (first_two free (mapped 3 A)) 17) ∷
    -- the last branch goes, and the tree; its label awaits
    row (heard 1 withdraw A 100) 0 (wrote 5 1 release 100 ++ wrote 6 3 withdraw 17) (card 7 (by 3 0 0) [] (first_two free (awaiting 3 A)) 17) ∷
    -- no route: the root's entry goes
    row (route (root_in A) 17) 0 [] (card 7 [] [] (first_two free (awaiting 3 A)) 17) ∷
    []

-- and a start, taken and refused
pub whole-shown : Follows (card 1 [] [] (replicate 256 free) 0) rows
    × (start 16 ≡ record { answer = 0; octets = []; card = card 1 [] [] (replicate 256 free) 0 })
    × (start 15 ≡ record { answer = 17; octets = []; card = card 1 [] [] (replicate 256 free) 0 })
unfolding computing A case1 heard wrote Follows card by only_a branches first first_two rows
whole-shown = ((refl, (refl, (refl, (refl, (refl, (refl, (refl, (refl, (refl, (refl, (refl, tt))))))))))), refl, refl)
