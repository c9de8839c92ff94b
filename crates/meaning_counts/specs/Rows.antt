-- The counts of every root that has a route, after each kind of event; and what they say of refusal 12.
-- Assumes nothing.
use Rattle.std.specs.Prelude.{ℕ, suc, Bool, true, false, not, ◌&&◌, List, [], ◌∷◌, T, eqb}
use Rattle.meaning.specs.Octets.{pick, same}
use Rattle.meaning.specs.Wire.{root_in, mapping, withdraw, release}
use Rattle.meaning.specs.Card.{Route, Card, with_routes}
use Rattle.meaning.specs.Events.{changed, Event, join, leave, route, lost, event, quick_yes, quick_no, route_short}
use Rattle.meaning.specs.Computing.{computing}
use Rattle.meaning.specs.Examples.{enough, NoneWrong, A, first_card, heard}
use Rattle.meaning.specs.Corners.{after, kin, grown, left, scarce, paired, losing, other}

-- root by root: how many trees stand, and how many are lone
unfoldable pub counts : List Route → List ℕ
counts [] = []
counts (r ∷ rs) = r.standing ∷ r.lone ∷ counts rs

-- an event, its answer, and the counts after it
pub record CountRow : Type 0 where
  pub does : Event
  pub answer : ℕ
  pub gives : List ℕ

infix 5 ◌answers◌leaves◌
abbrev pub ◌answers◌leaves◌ : Event → ℕ → List ℕ → CountRow
e answers n leaves l = record { does = e; answer = n; gives = l }

unfoldable pub miscounted : ℕ → Card → List CountRow → List ℕ
miscounted n c [] = []
miscounted n c (r ∷ rs) =
    let o = event enough c r.does in
    let later = miscounted (suc n) o.card rs in
    let here = n ∷ later in
    pick (eqb o.answer r.answer && same (counts o.card.routes) r.gives) later here

-- from the card of case 1, on which A's root has a route and no tree
unfoldable pub count_rows : List CountRow
count_rows =
    -- a new tree with one branch; the same again; a refused event; a second branch; a held one
    (heard 1 mapping A 100 answers 0 leaves 1 ∷ 1 ∷ []) ∷
    (heard 1 mapping A 100 answers 0 leaves 1 ∷ 1 ∷ []) ∷
    (heard 1 mapping A 101 answers 10 leaves 1 ∷ 1 ∷ []) ∷
    (heard 2 mapping A 200 answers 0 leaves 1 ∷ 0 ∷ []) ∷
    (heard 0 mapping A 300 answers 0 leaves 1 ∷ 0 ∷ []) ∷
    -- a Withdraw under another label; of the second-last but one, of the second-last: the last, held, is one branch all the same
    (heard 2 withdraw A 201 answers 0 leaves 1 ∷ 0 ∷ []) ∷
    (heard 2 withdraw A 200 answers 0 leaves 1 ∷ 0 ∷ []) ∷
    (heard 1 withdraw A 100 answers 0 leaves 1 ∷ 1 ∷ []) ∷
    -- a leaf beside it, a leaf alone, and the tree goes
    (join A answers 0 leaves 1 ∷ 0 ∷ []) ∷
    (heard 0 withdraw A 300 answers 0 leaves 1 ∷ 0 ∷ []) ∷
    (leave A answers 0 leaves 0 ∷ 0 ∷ []) ∷
    -- a Withdraw of an unknown tree; a Release
    (heard 1 withdraw A 100 answers 0 leaves 0 ∷ 0 ∷ []) ∷
    (heard 0 release A 16 answers 0 leaves 0 ∷ 0 ∷ []) ∷
    -- a tree whose root has no route counts nowhere
    (join other answers 0 leaves 0 ∷ 0 ∷ []) ∷
    (join (kin 1) answers 0 leaves 1 ∷ 0 ∷ []) ∷
    (heard 1 mapping (kin 2) 100 answers 0 leaves 2 ∷ 1 ∷ []) ∷
    -- another route: the counts stay, to the tree's only branch, which is then held, and to this node too
    (route (root_in A) 3 answers 0 leaves 2 ∷ 1 ∷ []) ∷
    (route (root_in A) 1 answers 0 leaves 2 ∷ 1 ∷ []) ∷
    (route (root_in A) 16 answers 0 leaves 2 ∷ 1 ∷ []) ∷
    -- a new root: they are worked out
    (route (root_in other) 5 answers 0 leaves 2 ∷ 1 ∷ 1 ∷ 0 ∷ []) ∷
    -- no route: the entry goes, and what happens then is not counted; with a new entry all is
    (route (root_in A) 17 answers 0 leaves 1 ∷ 0 ∷ []) ∷
    (heard 1 withdraw (kin 2) 100 answers 0 leaves 1 ∷ 0 ∷ []) ∷
    (heard 4 mapping (kin 3) 100 answers 0 leaves 1 ∷ 0 ∷ []) ∷
    (route (root_in A) 0 answers 0 leaves 1 ∷ 0 ∷ 2 ∷ 1 ∷ []) ∷
    []

-- A's root has five trees, two of them lone, and `other`'s one.
unfoldable pub loss_counts : List CountRow
loss_counts =
    -- kin 1 goes, kin 2 and kin 3 come to be lone, and so does `other`
    (lost 1 answers 0 leaves 4 ∷ 3 ∷ 1 ∷ 1 ∷ []) ∷
    (lost 1 answers 0 leaves 4 ∷ 3 ∷ 1 ∷ 1 ∷ []) ∷
    -- a route through the lost neighbour takes its counts with it; worked out again, kin 0 with its leaf and kin 3 are left
    (lost 0 answers 0 leaves 1 ∷ 1 ∷ []) ∷
    (route (root_in A) 5 answers 0 leaves 1 ∷ 1 ∷ 2 ∷ 1 ∷ []) ∷
    (lost 2 answers 0 leaves 1 ∷ 1 ∷ 1 ∷ 0 ∷ []) ∷
    (lost 3 answers 0 leaves 1 ∷ 0 ∷ []) ∷
    (lost 16 answers 1 leaves 1 ∷ 0 ∷ []) ∷
    []

-- ---- refusal 12

unfoldable pub agree : Bool → Bool → Bool
agree true b = b
agree false b = not b

-- for a route of A's root: whether labels suffice at once, whether they don't at once, and whether 12 is given
unfoldable pub says : Card → ℕ → Bool → Bool → Bool → Bool
says c via at_once short given = agree (quick_yes c (root_in A)) at_once && agree (quick_no c (root_in A) via) short && agree (route_short c (root_in A) via) given

-- three trees, two labels, and counts that say that no tree stands
unfoldable pub misled : Card
misled = with_routes (record { root = root_in A; via = 0; standing = 0; lone = 0 } ∷ []) (left 2 (grown 3))

unfoldable pub quick : Bool
quick =
    -- three trees with a leaf: three labels suffice, two don't, whatever the neighbour; this node and "no route" need none
    says (left 3 (grown 3)) 3 true false false && says (left 2 (grown 3)) 3 false true true && says (left 2 (grown 3)) 16 false false false && says (left 2 (grown 3)) 17 false false false
    -- three trees, two of them lone: three labels suffice, none does not; between the two it is the neighbour that tells
    && says (left 3 paired) 5 true false false && says (left 0 paired) 5 false true true
    && says (left 2 paired) 5 false false true && says (left 2 paired) 3 false false false && says (left 1 paired) 3 false false true
    -- false counts have a meaning too: one that is too low says yes, but no order begins that would run out; one that is too high refuses. They go round
    && says misled 3 true false false && eqb (event enough misled (route (root_in A) 3)).answer 12 && eqb (event enough misled (route (root_in A) 16)).answer 0
    && says (with_routes (record { root = root_in A; via = 0; standing = 9; lone = 0 } ∷ []) (left 3 (grown 3))) 3 false true true
    && eqb (changed 255 0 1) 0 && eqb (changed 0 1 0) 255 && eqb (changed 7 1 1) 7

pub counts-shown : NoneWrong (miscounted 1 first_card count_rows) × NoneWrong (miscounted 1 losing loss_counts) × T quick
unfolding computing counts miscounted count_rows loss_counts agree says misled quick first_card A heard after kin grown left scarce paired losing other
counts-shown = (tt, tt, tt)
