-- Examples of plans, as tables of which one test is computed: what the planner says, what the checker says, and what carrying out comes to.
-- Assumes nothing.
use Rattle.std.specs.Prelude.{ℕ, suc, ◌-◌, ◌≡◌, refl, Bool, true, false, not, ◌&&◌, List, [], ◌∷◌, ◌++◌, length, replicate, eqb}
use Rattle.meaning.specs.Octets.{pick, all, same}
use Rattle.meaning.specs.Wire.{element, mapping}
use Rattle.meaning.specs.Card.{Card, sent_limit}
use Rattle.meaning.specs.Events.{join, route, event, start}
use Rattle.meaning.specs.Computing.{computing}
use Rattle.meaning.specs.Examples.{NoneWrong, wrong_tests, heard}
use Rattle.meaning.specs.Corners.{scarce, left}
use Rattle.meaning_save.specs.Save.{padded, spaced, spaced_in}
use Rattle.meaning_plan.specs.Plan.{Move, move_for, Allowed, allowed_for, set_of, permits, goes_by, need_list, may_have, is_move, listed_once, accepts, Verdict, refusal, rejected, accepted, checked, goes_first, cheapest, choice, is_below, is_before, insert, as_move, through, chosen, proposal, is_found, Plan, refused, none, listed, planned, ordered, carried_out, answers, is_taken, no_refusal, some_through}
use Rattle.meaning_plan.specs.PlanOctets.{space_root, set_in, sets_in, allowed_in, entry_of, list_of, entry_in, entries_in, is_list, list_in, checked_octets, planned_octets}

-- ---- a card

-- roots: 192.0.2.1, 192.0.2.2, 10.0.0.9, and two of 16 octets
unfoldable pub A : List ℕ
A = 192 ∷ 0 ∷ 2 ∷ 1 ∷ []

unfoldable pub B : List ℕ
B = 192 ∷ 0 ∷ 2 ∷ 2 ∷ []

unfoldable pub D : List ℕ
D = 10 ∷ 0 ∷ 0 ∷ 9 ∷ []

unfoldable pub X : List ℕ
X = replicate 15 32 ++ (1 ∷ [])

unfoldable pub W : List ℕ
W = replicate 16 1

-- an opaque value of one element, which holds one octet
unfoldable pub one : ℕ → List ℕ
one k = 1 ∷ 0 ∷ 1 ∷ k ∷ []

unfoldable pub done : Card → List ℕ → ℕ → Card
done c r via = (event sent_limit c (route r via)).card

unfoldable pub leaf : Card → List ℕ → Card
leaf c name = (event sent_limit c (join name)).card

-- The routes stand in the order X, B, W, A, D. X, B, W and A go by neighbour 0, D by neighbour 1.
-- A has two trees with a leaf, B one tree with a branch from neighbour 2 alone, X one with a leaf, W none, D one with a leaf: five labels in use.
unfoldable pub card : Card
card =
    let c₀ = done (done (done (done (done (start 16).card X 0) B 0) W 0) A 0) D 1 in
    let c₁ = leaf (leaf c₀ (element 1 A (one 1))) (element 1 A (one 2)) in
    let c₂ = (event sent_limit c₁ (heard 2 mapping (element 1 B (one 1)) 100)).card in
    leaf (leaf c₂ (element 2 X (one 1))) (element 1 D (one 1))

-- ---- the planner's rows

abbrev pub to : List ℕ → ℕ → Move
to r v = record { root = r; via = v }

abbrev pub may : List ℕ → ℕ → Allowed
may r s = record { root = r; set = s }

-- all sixteen neighbours for each root
abbrev pub every : List Allowed
every = may A 0xFFFF ∷ may B 0xFFFF ∷ may X 0xFFFF ∷ may W 0xFFFF ∷ may D 0xFFFF ∷ []

unfoldable pub same_list : List Move → List Move → Bool
same_list [] [] = true
same_list [] (y ∷ ys) = false
same_list (x ∷ xs) [] = false
same_list (x ∷ xs) (y ∷ ys) = let rest = same_list xs ys in pick (same x.root y.root && eqb x.via y.via) rest false

unfoldable pub same_plan : Plan → Plan → Bool
same_plan (refused n) (refused m) = eqb n m
same_plan (refused n) none = false
same_plan (refused n) (listed ys) = false
same_plan none (refused m) = false
same_plan none none = true
same_plan none (listed ys) = false
same_plan (listed xs) (refused m) = false
same_plan (listed xs) none = false
same_plan (listed xs) (listed ys) = same_list xs ys

-- so many labels are free; the neighbour; the permitted sets; what the planner says
pub record Ask : Type 0 where
  pub free : ℕ
  pub n : ℕ
  pub sets : List Allowed
  pub says : Plan

-- the planner says so; and what it lists is accepted, is taken without a refusal, and leaves no route through n
unfoldable pub agrees : Ask → Bool
agrees a = let c = left a.free card in same_plan (planned c a.n a.sets) a.says && good c a.says
  where
    good : Card → Plan → Bool
    good c (refused n) = true
    good c none = true
    good c (listed ms) = accepts c a.n a.sets ms && no_refusal sent_limit c ms && not (some_through a.n (carried_out sent_limit c ms))

unfoldable pub wrong_asks : ℕ → List Ask → List ℕ
wrong_asks i [] = []
wrong_asks i (a ∷ rows) = let later = wrong_asks (suc i) rows in let here = i ∷ later in pick (agrees a) later here

abbrev pub ask : ℕ → ℕ → List Allowed → Plan → Ask
ask f n s p = record { free = f; n = n; sets = s; says = p }

unfoldable pub asks : List Ask
asks =
    -- 1. every neighbour permitted: the lowest but n for A, W and X; for B neighbour 2, whose branch is then held so that no label is needed. 4-octet roots first, by rising address, whatever the table's order
    ask 251 0 every (listed (to A 1 ∷ to B 2 ∷ to W 1 ∷ to X 1 ∷ [])) ∷
    -- 2. A needs two labels, X one, B and W none: three free are enough
    ask 3 0 every (listed (to A 1 ∷ to B 2 ∷ to W 1 ∷ to X 1 ∷ [])) ∷
    -- 3. and two are not
    ask 2 0 every none ∷
    -- 4. B may not have neighbour 2, so it needs one label too: four are enough, of 3 and 7 it takes the lower
    ask 4 0 (may A 0xFFFF ∷ may B 0x0089 ∷ may X 0x8000 ∷ may W 0x0002 ∷ []) (listed (to A 1 ∷ to B 3 ∷ to W 1 ∷ to X 15 ∷ [])) ∷
    -- 5. three are not
    ask 3 0 (may A 0xFFFF ∷ may B 0x0089 ∷ may X 0x8000 ∷ may W 0x0002 ∷ []) none ∷
    []

-- sets that leave a root nowhere to go, other neighbours than 0, and none at all
unfoldable pub narrow_asks : List Ask
narrow_asks =
    -- 6. an empty set for B; no entry for B; n alone for B; a set beyond sixteen bits
    ask 251 0 (may A 0xFFFF ∷ may B 0 ∷ may X 0xFFFF ∷ may W 0xFFFF ∷ []) none ∷
    ask 251 0 (may A 0xFFFF ∷ may X 0xFFFF ∷ may W 0xFFFF ∷ []) none ∷
    ask 251 0 (may A 0xFFFF ∷ may B 0x0001 ∷ may X 0xFFFF ∷ may W 0xFFFF ∷ []) none ∷
    ask 251 0 (may A 0xFFFF ∷ may B 0x10000 ∷ may X 0xFFFF ∷ may W 0xFFFF ∷ []) none ∷
    -- 10. of two entries the first counts
    ask 251 0 (may B 0x0008 ∷ may A 0xFFFF ∷ may B 0xFFFF ∷ may X 0xFFFF ∷ may W 0xFFFF ∷ []) (listed (to A 1 ∷ to B 3 ∷ to W 1 ∷ to X 1 ∷ [])) ∷
    -- 11. one root alone goes by neighbour 1; no label is free
    ask 1 1 every (listed (to D 0 ∷ [])) ∷
    ask 0 1 every none ∷
    -- 13. no root goes by neighbour 5: the empty list, with no set and no free label
    ask 0 5 [] (listed []) ∷
    -- 14. a neighbour above 15
    ask 251 16 every (refused 1) ∷
    ask 251 17 every (refused 1) ∷
    []

-- ---- the checker's rows

pub record Look : Type 0 where
  pub free : ℕ
  pub n : ℕ
  pub sets : List Allowed
  pub list : List Move
  pub says : Verdict

unfoldable pub same_verdict : Verdict → Verdict → Bool
same_verdict (refusal n) (refusal m) = eqb n m
same_verdict (refusal n) rejected = false
same_verdict (refusal n) accepted = false
same_verdict rejected (refusal m) = false
same_verdict rejected rejected = true
same_verdict rejected accepted = false
same_verdict accepted (refusal m) = false
same_verdict accepted rejected = false
same_verdict accepted accepted = true

unfoldable pub is_right : Look → Bool
is_right l = same_verdict (checked (left l.free card) l.n l.sets l.list) l.says

unfoldable pub wrong_looks : ℕ → List Look → List ℕ
wrong_looks i [] = []
wrong_looks i (l ∷ rows) = let later = wrong_looks (suc i) rows in let here = i ∷ later in pick (is_right l) later here

abbrev pub look : ℕ → ℕ → List Allowed → List Move → Verdict → Look
look f n s ms v = record { free = f; n = n; sets = s; list = ms; says = v }

unfoldable pub looks : List Look
looks =
    -- 1. in any order, and dearer than need be
    look 251 0 every (to X 9 ∷ to W 8 ∷ to B 3 ∷ to A 15 ∷ []) accepted ∷
    -- 2. a root left out; a root twice; another root; a root that has no route
    look 251 0 every (to X 9 ∷ to W 8 ∷ to B 3 ∷ []) rejected ∷
    look 251 0 every (to X 9 ∷ to W 8 ∷ to B 3 ∷ to A 15 ∷ to B 3 ∷ []) rejected ∷
    look 251 0 every (to X 9 ∷ to W 8 ∷ to B 3 ∷ to A 15 ∷ to D 3 ∷ []) rejected ∷
    look 251 0 every (to X 9 ∷ to W 8 ∷ to B 3 ∷ to A 15 ∷ to (9 ∷ 9 ∷ 9 ∷ 9 ∷ []) 3 ∷ []) rejected ∷
    -- 6. n itself; one not permitted; this node; no route
    look 251 0 every (to X 9 ∷ to W 8 ∷ to B 0 ∷ to A 15 ∷ []) rejected ∷
    look 251 0 (may A 0xFFFF ∷ may B 0xFFF7 ∷ may X 0xFFFF ∷ may W 0xFFFF ∷ []) (to X 9 ∷ to W 8 ∷ to B 3 ∷ to A 15 ∷ []) rejected ∷
    look 251 0 (may A 0x1FFFF ∷ may B 0x1FFFF ∷ may X 0x1FFFF ∷ may W 0x1FFFF ∷ []) (to X 9 ∷ to W 8 ∷ to B 16 ∷ to A 15 ∷ []) rejected ∷
    look 251 0 (may A 0x3FFFF ∷ may B 0x3FFFF ∷ may X 0x3FFFF ∷ may W 0x3FFFF ∷ []) (to X 9 ∷ to W 8 ∷ to B 17 ∷ to A 15 ∷ []) rejected ∷
    -- 10. the sum: four labels, of four, of three
    look 4 0 every (to X 9 ∷ to W 8 ∷ to B 3 ∷ to A 15 ∷ []) accepted ∷
    look 3 0 every (to X 9 ∷ to W 8 ∷ to B 3 ∷ to A 15 ∷ []) rejected ∷
    look 3 0 every (to X 9 ∷ to W 8 ∷ to B 2 ∷ to A 15 ∷ []) accepted ∷
    -- 13. the empty list: where roots go by n, and where none does
    look 251 0 every [] rejected ∷
    look 0 5 [] [] accepted ∷
    -- 15. a neighbour above 15, whatever the list
    look 251 16 every [] (refusal 1) ∷
    look 251 17 every (to X 9 ∷ []) (refusal 1) ∷
    []

-- ---- in octets

-- a root in its space
unfoldable pub in_space : List ℕ → List ℕ
in_space r = length r ∷ (r ++ replicate (16 - length r) 0)

-- D may have any neighbour, X neighbours 8 and 0 alone; and a record that is cut short
unfoldable pub sets : List ℕ
sets = 255 ∷ 255 ∷ (in_space D ++ (1 ∷ 1 ∷ (in_space X ++ (255 ∷ 255 ∷ 4 ∷ 192 ∷ []))))

-- the list for neighbour 1: D goes to 0
unfoldable pub to_zero : List ℕ
to_zero = 0 ∷ 4 ∷ 10 ∷ 0 ∷ 0 ∷ 9 ∷ 0 ∷ 0 ∷ 0 ∷ 0 ∷ 0 ∷ 0 ∷ 0 ∷ 0 ∷ 0 ∷ 0 ∷ 0 ∷ 0 ∷ []

unfoldable pub octets_of : Plan → List ℕ
octets_of (refused n) = n ∷ []
octets_of none = []
octets_of (listed ms) = list_of ms

-- what came out: is it what should?
unfoldable pub octet_tests : List Bool
octet_tests =
    -- 1. two sets are read, and the planner's octets are these
    eqb (length (allowed_in sets)) 2 ∷
    permits (allowed_in sets) X 8 ∷
    permits (allowed_in sets) X 0 ∷
    not (permits (allowed_in sets) X 9) ∷
    not (permits (allowed_in sets) A 0) ∷
    same (octets_of (planned_octets card 1 sets)) to_zero ∷
    -- 7. the checker reads them; the octets behind a root in its space do not count
    same_verdict (checked_octets card 1 sets to_zero) accepted ∷
    same_verdict (checked_octets card 1 sets (0 ∷ 4 ∷ (D ++ replicate 12 7))) accepted ∷
    -- 9. an octet too many, one too few; a root's length of 5, of 200; neighbour 255; twice
    same_verdict (checked_octets card 1 sets (to_zero ++ (0 ∷ []))) rejected ∷
    same_verdict (checked_octets card 1 sets (0 ∷ 4 ∷ (D ++ replicate 11 0))) rejected ∷
    same_verdict (checked_octets card 1 sets (0 ∷ 5 ∷ (D ++ replicate 12 0))) rejected ∷
    same_verdict (checked_octets card 1 sets (0 ∷ 200 ∷ (D ++ replicate 12 0))) rejected ∷
    same_verdict (checked_octets card 1 sets (255 ∷ in_space D)) rejected ∷
    same_verdict (checked_octets card 1 sets (to_zero ++ to_zero)) rejected ∷
    -- 15. a length of 16, and one beyond the space, which names no root: in a list, in a set
    same_verdict (checked_octets (done card X 4) 4 sets (0 ∷ 16 ∷ X)) accepted ∷
    same_verdict (checked_octets (done card X 4) 4 sets (0 ∷ 17 ∷ X)) rejected ∷
    permits (allowed_in (1 ∷ 1 ∷ 16 ∷ X)) X 0 ∷
    not (permits (allowed_in (1 ∷ 1 ∷ 17 ∷ X)) X 0) ∷
    -- 19. no list at all, for a neighbour that no root goes by, and for one above 15
    same_verdict (checked_octets card 5 [] []) accepted ∷
    same_verdict (checked_octets card 16 [] []) (refusal 1) ∷
    []

-- where every neighbour is permitted a root may go to any but the one that it is to leave
pub not_back : may_have 3 every A 3 ≡ false
unfolding computing may_have permits set_of allowed_for A
not_back = refl

pub plans-shown : NoneWrong (wrong_asks 1 asks) × NoneWrong (wrong_asks 6 narrow_asks) × NoneWrong (wrong_looks 1 looks) × NoneWrong (wrong_tests 1 octet_tests)
unfolding computing move_for as_move padded spaced spaced_in space_root set_in sets_in allowed_in entry_of list_of entry_in entries_in is_list list_in checked_octets planned_octets in_space sets to_zero octets_of octet_tests wrong_tests scarce left heard all A B D X W one done leaf card same_list same_plan agrees wrong_asks asks narrow_asks same_verdict is_right wrong_looks looks allowed_for set_of permits goes_by need_list may_have is_move listed_once accepts checked goes_first cheapest choice is_below is_before insert through chosen proposal is_found planned ordered carried_out answers is_taken no_refusal some_through
plans-shown = (tt, tt, tt, tt)
