-- The octets in which a caller gives the permitted sets and a list, and in which the planner hands its list over. A root stands in a space of 16 octets behind its length, as in the card's memory and in a save.
-- Assumes nothing.
use Rattle.std.specs.Prelude.{ℕ, zero, suc, ◌+◌, ◌*◌, ◌/◌, ◌%◌, ◌≤◌, ◌<◌, ◌≡◌, refl, Bool, true, ◌&&◌, List, [], ◌∷◌, ◌++◌, drop, get_or, length, eqb, leb}
use Rattle.std.proofs.Common.{arith, ap, ap₂, ◌∙◌, length-append, drop_at, take_all, eq-eqb, le-leb}
use Rattle.meaning.specs.Octets.{pick, two_at}
use Rattle.meaning.specs.Wire.{root_limit}
use Rattle.meaning.specs.Card.{Card, route_limit}
use Rattle.meaning.specs.Events.{no_neighbour}
use Rattle.meaning_save.specs.Save.{spaced, spaced_in}
use Rattle.meaning_laws.specs.SaveFields.{spaced-length, spaced-back}
use Rattle.meaning_plan.specs.Plan.{Move, Allowed, accepts, Verdict, refusal, rejected, accepted, Plan, planned}

-- the root in a space: none where the length before it is more than the space holds, as no root is written
unfoldable pub space_root : List ℕ → List ℕ
space_root o = pick (leb (get_or o 0 0) root_limit) (spaced_in root_limit o) []

-- ---- the permitted sets: 19 octets each, the set's 16 bits in two octets and the root

abbrev pub set_size : ℕ
set_size = 2 + (1 + root_limit)

unfoldable pub set_in : List ℕ → Allowed
set_in o = record { root = space_root (drop 2 o); set = two_at o 0 }

unfoldable pub sets_in : ℕ → List ℕ → List Allowed
sets_in zero o = []
sets_in (suc k) o = set_in o ∷ sets_in k (drop set_size o)

-- all that are there whole
unfoldable pub allowed_in : List ℕ → List Allowed
allowed_in o = sets_in (length o / set_size) o

-- ---- a list: 18 octets each, the neighbour and the root

abbrev pub entry_size : ℕ
entry_size = 1 + (1 + root_limit)

-- the longest list that the planner makes: an entry for each route
abbrev pub list_limit : ℕ
list_limit = route_limit * entry_size

unfoldable pub entry_of : Move → List ℕ
entry_of m = m.via % 256 ∷ spaced root_limit m.root

unfoldable pub list_of : List Move → List ℕ
list_of [] = []
list_of (m ∷ ms) = entry_of m ++ list_of ms

unfoldable pub entry_in : List ℕ → Move
entry_in o = record { root = space_root (drop 1 o); via = get_or o 0 0 }

unfoldable pub entries_in : ℕ → List ℕ → List Move
entries_in zero o = []
entries_in (suc k) o = entry_in o ∷ entries_in k (drop entry_size o)

unfoldable pub is_list : List ℕ → Bool
is_list o = eqb (length o % entry_size) 0

unfoldable pub list_in : List ℕ → List Move
list_in o = entries_in (length o / entry_size) o

-- ---- the calls: octets that are no whole number of entries are rejected

unfoldable pub checked_octets : Card → ℕ → List ℕ → List ℕ → Verdict
checked_octets c n sets o = pick (no_neighbour n) (refusal 1) (pick (is_list o && accepts c n (allowed_in sets) (list_in o)) accepted rejected)

unfoldable pub planned_octets : Card → ℕ → List ℕ → Plan
planned_octets c n sets = planned c n (allowed_in sets)

-- ---- a list is read back

-- what an entry's octets can carry
pub record Carriable (m : Move) : Type 0 where
  pub short : length m.root ≤ root_limit
  pub low : m.via < 256

unfoldable pub AllCarriable : List Move → Type 0
AllCarriable [] = Unit {0}
AllCarriable (m ∷ ms) = Carriable m × AllCarriable ms

pub entry_length : (m : Move) → length (entry_of m) ≡ entry_size
unfolding entry_of
entry_length m = ap suc (spaced-length root_limit m.root)

pub list_length : (ms : List Move) → length (list_of ms) ≡ length ms * entry_size
unfolding list_of
list_length [] = refl
list_length (m ∷ ms) = length-append (entry_of m) (list_of ms) ∙ omega (arith, entry_length m, list_length ms)

space-back : (r rest : List ℕ) → length r ≤ root_limit → space_root (spaced root_limit r ++ rest) ≡ r
unfolding space_root
space-back r rest h =
    let long : get_or (spaced root_limit r ++ rest) 0 0 ≤ root_limit = unfold spaced in rw (take_all root_limit r h) h in
    rw (le-leb _ _ long) (spaced-back root_limit r h rest)

pub entry-back : (m : Move) (rest : List ℕ) → Carriable m → entry_in (entry_of m ++ rest) ≡ m
unfolding entry_in entry_of
entry-back m rest p =
    let low = p.low in
    let same-via : m.via % 256 ≡ m.via = omega arith in
    λ i. record { root = space-back m.root rest p.short i; via = same-via i }

entries-back : (ms : List Move) → AllCarriable ms → entries_in (length ms) (list_of ms) ≡ ms
unfolding list_of entries_in AllCarriable
entries-back [] p = refl
entries-back (m ∷ ms) p =
    ap₂ ◌∷◌ (entry-back m (list_of ms) p.0)
    (rw (drop_at (entry_of m) (list_of ms) entry_size (entry_length m)) (entries-back ms p.1))

pub is-list : (ms : List Move) → is_list (list_of ms) ≡ true
unfolding is_list
is-list ms = eq-eqb (length (list_of ms) % entry_size) 0 (whole (length ms) (length (list_of ms)) (list_length ms))
  where
    whole : (k l : ℕ) → l ≡ k * entry_size → l % entry_size ≡ 0
    whole k l e = omega arith

pub list_back : (ms : List Move) → AllCarriable ms → list_in (list_of ms) ≡ ms
unfolding list_in
list_back ms p = ap (λ (k : ℕ). entries_in k (list_of ms)) (counted (length ms) (length (list_of ms)) (list_length ms)) ∙ entries-back ms p
  where
    counted : (k l : ℕ) → l ≡ k * entry_size → l / entry_size ≡ k
    counted k l e = omega arith
