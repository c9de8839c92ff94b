-- A PLAN BEFORE THE FIBRE CREW COMES: a list of roots with new neighbours that leaves no route through neighbour n. What the checker accepts, what the planner proposes, and what it is to carry a list out.
-- Assumes nothing: every definition means something on any table.
use Rattle.std.specs.Prelude.{ℕ, zero, suc, ◌+◌, ◌/◌, ◌%◌, ◌^◌, Bool, true, false, not, ◌&&◌, ◌||◌, List, [], ◌∷◌, get_or, length, eqb, leb, ltb}
use Rattle.meaning.specs.Octets.{pick, place, count, any, all, same}
use Rattle.meaning.specs.Card.{Route, Card, neighbour_count, route_of, free_labels}
use Rattle.meaning.specs.Events.{Out, no_neighbour, need_all, route, event}

-- ---- a list

-- an entry: a root, and the number of its new neighbour
pub record Move : Type 0 where
  pub root : List ℕ
  pub via : ℕ

unfoldable pub move_for : List ℕ → Move → Bool
move_for r m = same m.root r

-- ---- the permitted sets

-- For each root the set of neighbours that it may have, a bit for each: bit v for neighbour v. A root without an entry may have none; of two entries for a root the first counts.
pub record Allowed : Type 0 where
  pub root : List ℕ
  pub set : ℕ

unfoldable pub allowed_for : List ℕ → Allowed → Bool
allowed_for r a = same a.root r

unfoldable pub set_of : List Allowed → List ℕ → ℕ
set_of ps r = (get_or ps (place (allowed_for r) ps) (record { root = r; set = 0 })).set

-- whether the root r may have the neighbour v
unfoldable pub permits : List Allowed → List ℕ → ℕ → Bool
permits ps r v = eqb (set_of ps r / 2 ^ v % 2) 1

-- ---- the checker

-- a root that is routed through n
unfoldable pub goes_by : ℕ → Route → Bool
goes_by n x = eqb x.via n

-- how many free labels the list takes: each entry as a route order counts it
unfoldable pub need_list : Card → List Move → ℕ
need_list c [] = 0
need_list c (m ∷ ms) = need_all m.root m.via c + need_list c ms

-- n's root may have the neighbour v: another than n, and a permitted one
unfoldable pub may_have : ℕ → List Allowed → List ℕ → ℕ → Bool
may_have n ps r v = ltb v neighbour_count && not (eqb v n) && permits ps r v

-- an entry: no other root than one routed through n, and a neighbour that it may have
unfoldable pub is_move : Card → ℕ → List Allowed → Move → Bool
is_move c n ps m = eqb (route_of m.root c) n && may_have n ps m.root m.via

-- a route of the table: where it is through n, its root is listed once
unfoldable pub listed_once : ℕ → List Move → Route → Bool
listed_once n ms x = pick (goes_by n x) (eqb (count (move_for x.root) ms) 1) true

-- EXACTLY THIS IS ACCEPTED: every root routed through n once, no other root, new neighbour permitted and not n, and labels needed in sum no more than are free.
unfoldable pub accepts : Card → ℕ → List Allowed → List Move → Bool
accepts c n ps ms = all (is_move c n ps) ms && all (listed_once n ms) c.routes && leb (need_list c ms) (free_labels c)

-- what the checker answers
pub data Verdict : Type 0 where
  refusal : ℕ → Verdict
  rejected : Verdict
  accepted : Verdict

unfoldable pub checked : Card → ℕ → List Allowed → List Move → Verdict
checked c n ps ms = pick (no_neighbour n) (refusal 1) (pick (accepts c n ps ms) accepted rejected)

-- ---- the planner

-- in the place of a choice: no neighbour
abbrev pub no_choice : ℕ
no_choice = neighbour_count

-- v goes before what was found later: nothing was, or v costs no more
unfoldable pub goes_first : (ℕ → ℕ) → ℕ → ℕ → Bool
goes_first cost v later = eqb later no_choice || leb (cost v) (cost later)

-- Of the k neighbours from v on, the one that passes the test and costs least, ties to the lowest; no choice where none passes.
unfoldable pub cheapest : (ℕ → Bool) → (ℕ → ℕ) → ℕ → ℕ → ℕ
cheapest ok cost zero v = no_choice
cheapest ok cost (suc k) v =
    let later = cheapest ok cost k (suc v) in
    pick (ok v && goes_first cost v later) v later

-- the permitted neighbour that needs fewest labels
unfoldable pub choice : Card → ℕ → List Allowed → List ℕ → ℕ
choice c n ps r = cheapest (may_have n ps r) (λ v. need_all r v c) neighbour_count 0

-- by rising address: the first octet that differs decides (a shorter one comes before what it begins)
unfoldable pub is_below : List ℕ → List ℕ → Bool
is_below [] [] = false
is_below [] (y ∷ ys) = true
is_below (x ∷ xs) [] = false
is_below (x ∷ xs) (y ∷ ys) = let rest = is_below xs ys in pick (ltb x y) true (pick (eqb x y) rest false)

-- 4-octet roots before 16-octet ones, each by rising address
unfoldable pub is_before : List ℕ → List ℕ → Bool
is_before r q = ltb (length r) (length q) || (eqb (length r) (length q) && is_below r q)

unfoldable pub insert : Move → List Move → List Move
insert x [] = x ∷ []
insert x (y ∷ ys) = let later = y ∷ insert x ys in let here : List Move = x ∷ y ∷ ys in pick (is_before x.root y.root) here later

-- a route as an entry
unfoldable pub as_move : Route → Move
as_move x = record { root = x.root; via = x.via }

-- the routes through n, in the list's order
unfoldable pub through : ℕ → List Route → List Move
through n [] = []
through n (x ∷ xs) = let rest = through n xs in let more = insert (as_move x) rest in pick (goes_by n x) more rest

unfoldable pub chosen : Card → ℕ → List Allowed → List Move → List Move
chosen c n ps [] = []
chosen c n ps (x ∷ xs) = record { root = x.root; via = choice c n ps x.root } ∷ chosen c n ps xs

-- for each root routed through n its choice
unfoldable pub proposal : Card → ℕ → List Allowed → List Move
proposal c n ps = chosen c n ps (through n c.routes)

-- an entry whose root had a permitted neighbour
unfoldable pub is_found : Move → Bool
is_found m = ltb m.via no_choice

-- what the planner says: a list (where no root is routed through n it is the empty one), or that there is none
pub data Plan : Type 0 where
  refused : ℕ → Plan
  none : Plan
  listed : List Move → Plan

unfoldable pub planned : Card → ℕ → List Allowed → Plan
planned c n ps =
    let ms = proposal c n ps in
    pick (no_neighbour n) (refused 1) (pick (all is_found ms && leb (need_list c ms) (free_labels c)) (listed ms) none)

-- ---- carried out, in order with no event between, with so much room each time

unfoldable pub ordered : ℕ → Card → Move → Out
ordered room c m = event room c (route m.root m.via)

unfoldable pub carried_out : ℕ → Card → List Move → Card
carried_out room c [] = c
carried_out room c (m ∷ ms) = carried_out room (ordered room c m).card ms

unfoldable pub answers : ℕ → Card → List Move → List ℕ
answers room c [] = []
answers room c (m ∷ ms) = let o = ordered room c m in o.answer ∷ answers room o.card ms

-- no order was refused
unfoldable pub is_taken : ℕ → Bool
is_taken n = eqb n 0

unfoldable pub no_refusal : ℕ → Card → List Move → Bool
no_refusal room c ms = all is_taken (answers room c ms)

-- some route is through n
unfoldable pub some_through : ℕ → Card → Bool
some_through n c = any (goes_by n) c.routes

-- the route of the root q after the list, where it had the route `before`
unfoldable pub route_after : List ℕ → List Move → ℕ → ℕ
route_after q [] before = before
route_after q (m ∷ ms) before = route_after q ms (pick (same m.root q) m.via before)
