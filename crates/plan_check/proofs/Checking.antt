-- What the loops over sets and entries know, and what the tests of one of them say. Assumes nothing.
use Prim.Native.Nat.{ℕ, suc, ◌+◌, ◌*◌, ◌/◌, ◌≤◌, ◌<◌}
use native.Mathlib.Numerals.{add-one}
use native.Mathlib.Omega.{arith}
use mathlib.Core.Path.{◌≡◌, refl, sym, ap, ◌∙◌}
use mathlib.Core.Bool.{Bool, true, false, ◌&&◌}
use mathlib.Core.List.{List, [], ◌∷◌}
use lib.ListN.{length, drop, get_or, drop_of_length-le}
use lib.Seq.{drop-cons, drop-drop, get_or-drop}
use lib.Dec.{eqb, leb}
use borrow.Author.Tests.{le-leb, lt-leb, eq-eqb, ne_eqb, lt-ltb, le-ltb}
use Rattle.std.specs.Int.{from_bool}
use Rattle.std.specs.declared.result.Result.{Result}
use Rattle.std.specs.declared.result.Result.TheVariants.{Ok}
use Rattle.meaning.specs.Octets.{pick, place, count, same, two_at}
use Rattle.meaning.specs.Lists.{by-test}
use Rattle.meaning.specs.Wire.{root_limit}
use Rattle.meaning.specs.Card.{Route, Card, route_of, free_labels}
use Rattle.meaning.specs.Events.{need_all, no_neighbour}
use Rattle.memory.specs.Memory.{root_name, route_in, entry_in as row_in}
use Rattle.save_rules_rows.proofs.RowRules.{At}
use Rattle.meaning_save.specs.Save.{spaced_in}
use Rattle.meaning_plan.specs.Plan.{Move, move_for, Allowed, allowed_for, set_of, goes_by, need_list, may_have, is_move, listed_once, accepts, refusal, rejected, accepted}
use Rattle.meaning_plan.specs.PlanOctets.{space_root, set_size, set_in, allowed_in, entry_size, entry_in, is_list, list_in, checked_octets}
use Rattle.meaning_plan.specs.Loops.{entries-length, entry_at, sets-length, set_at}
use Rattle.plan_check.specs.Verdict.{verdict_of}

-- ---- a root in its space

module _ (o : List ℕ) (at k : ℕ) (h : k ≡ get_or o at 0) where
  first-is : get_or (drop at o) 0 0 ≡ k
  first-is = let z : at + 0 ≡ at = omega arith in get_or-drop at o 0 0 ∙ ap (λ (n : ℕ). get_or o n 0) z ∙ sym h

  pub root_none : (r : List ℕ) → root_limit < k → r ≡ [] → (r ≡ space_root (drop at o)) × (length r ≤ root_limit)
  unfolding space_root
  root_none r b e = rw (e, first-is, lt-leb k root_limit b) (refl, omega arith)

  pub root-there : (r : List ℕ) → k ≤ root_limit → r ≡ spaced_in root_limit (drop at o) → r ≡ space_root (drop at o)
  unfolding space_root
  root-there r b e = e ∙ rw (first-is, le-leb k root_limit b) refl

-- ---- one record of the octets

module _ (o : List ℕ) (at : ℕ) where
  pub entry-root : (a : List ℕ) → a ≡ space_root (drop (at + 1) o) → a ≡ (entry_in (drop at o)).root
  unfolding entry_in
  entry-root a e = e ∙ ap space_root (sym (drop-drop 1 at o))

  pub entry-via : (v : ℕ) → v ≡ get_or o at 0 → v ≡ (entry_in (drop at o)).via
  unfolding entry_in
  entry-via v e = let z : at + 0 ≡ at = omega arith in e ∙ sym (get_or-drop at o 0 0 ∙ ap (λ (k : ℕ). get_or o k 0) z)

  pub set-root : (a : List ℕ) → a ≡ space_root (drop (at + 2) o) → a ≡ (set_in (drop at o)).root
  unfolding set_in
  set-root a e = e ∙ ap space_root (sym (drop-drop 2 at o))

  pub set-two : (v : ℕ) → v ≡ two_at o at → v ≡ (set_in (drop at o)).set
  unfolding set_in two_at
  set-two v e =
      let z : at + 0 ≡ at = omega arith in
      let first : get_or (drop at o) 0 0 ≡ get_or o at 0 = get_or-drop at o 0 0 ∙ ap (λ (k : ℕ). get_or o k 0) z in
      let second : get_or (drop at o) 1 0 ≡ get_or o (at + 1) 0 = get_or-drop at o 1 0 in
      e ∙ rw (first, second) refl

  pub set-equal : (a r : List ℕ) (b : Bool) → a ≡ space_root (drop (at + 2) o) → b ≡ same a r → b ≡ same (set_in (drop at o)).root r
  set-equal a r b e h = h ∙ ap (λ (x : List ℕ). same x r) (set-root a e)

  pub entry-equal : (a r : List ℕ) (b : Bool) → a ≡ space_root (drop (at + 1) o) → b ≡ same a r → b ≡ move_for r (entry_in (drop at o))
  unfolding move_for
  entry-equal a r b e h = h ∙ ap (λ (x : List ℕ). same x r) (entry-root a e)

  pub entry_counts : (r : List ℕ) (b : Bool) → b ≡ move_for r (entry_in (drop at o)) → from_bool b ≡ pick (move_for r (entry_in (drop at o))) 1 0
  entry_counts r b e = rw (← e) (by-test b (λ h. rw h refl) (λ h. rw h refl))

  pub entry-needs : (c : Card) (a : List ℕ) (v k : ℕ) → a ≡ space_root (drop (at + 1) o) → v ≡ get_or o at 0 → k ≡ need_all a v c → k ≡ need_all (entry_in (drop at o)).root (entry_in (drop at o)).via c
  entry-needs c a v k ea ev e = rw (← entry-root a ea, ← entry-via v ev) e

pub bool_byte-le : (b : Bool) → from_bool b ≤ 1
bool_byte-le true = omega arith
bool_byte-le false = omega arith

-- ---- the record at place i

module _ (o : List ℕ) (i : ℕ) where
  pub entry-there : i < length o / entry_size → At (list_in o) i (entry_in (drop (i * entry_size) o))
  unfolding list_in
  entry-there h = record { inside = rw (entries-length (length o / entry_size) o) h; reads = entry_at (length o / entry_size) o i _ h }

  pub entries-end : length o / entry_size ≤ i → length (list_in o) ≤ i
  unfolding list_in
  entries-end h = rw (entries-length (length o / entry_size) o) h

  pub set_there : i < length o / set_size → At (allowed_in o) i (set_in (drop (i * set_size) o))
  unfolding allowed_in
  set_there h = record { inside = rw (sets-length (length o / set_size) o) h; reads = set_at (length o / set_size) o i _ h }

  pub sets_end : length o / set_size ≤ i → length (allowed_in o) ≤ i
  unfolding allowed_in
  sets_end h = rw (sets-length (length o / set_size) o) h

-- ---- from place i on

module _ {ℓ} {A : Type ℓ} (l : List A) (i : ℕ) where
  front : (x : A) → At l i x → drop i l ≡ x ∷ drop (i + 1) l
  front x a = rw (drop-cons l i x a.inside, a.reads, add-one i) refl

  pub count_next : (x : A) → At l i x → (t : A → Bool) (k b : ℕ) → b ≡ pick (t x) 1 0 → k + count t (drop i l) ≡ k + b + count t (drop (i + 1) l)
  unfolding count
  count_next x a t k b e = rw (front x a, e) (by-test (t x) (λ h. rw h (omega arith)) (λ h. rw h (omega arith)))

  pub count_none : length l ≤ i → (t : A → Bool) (k : ℕ) → k + count t (drop i l) ≡ k
  unfolding count
  count_none h t k = rw (drop_of_length-le l {i = i} h) (omega arith)

-- the first set for a root
set_first : (p : Allowed) (ps : List Allowed) (r : List ℕ) → set_of (p ∷ ps) r ≡ pick (same p.root r) p.set (set_of ps r)
unfolding set_of place allowed_for
set_first p ps r = go (same p.root r)
  where
    go : (b : Bool) → (get_or (p ∷ ps) (pick b 0 (suc (place (allowed_for r) ps))) (record { root = r; set = 0 })).set ≡ pick b p.set (get_or ps (place (allowed_for r) ps) (record { root = r; set = 0 })).set
    go true = refl
    go false = refl

module _ (ps : List Allowed) (i : ℕ) (r : List ℕ) where
  pub set-hit : (p : Allowed) → At ps i p → same p.root r ≡ true → set_of (drop i ps) r ≡ p.set
  set-hit p a h = rw (front ps i p a, set_first p (drop (i + 1) ps) r, h) refl

  pub set-miss : (p : Allowed) → At ps i p → same p.root r ≡ false → set_of (drop i ps) r ≡ set_of (drop (i + 1) ps) r
  set-miss p a h = rw (front ps i p a, set_first p (drop (i + 1) ps) r, h) refl

  pub set-none : length ps ≤ i → set_of (drop i ps) r ≡ 0
  unfolding set_of
  set-none h = rw (drop_of_length-le ps {i = i} h) refl

-- the sum
module _ (c : Card) (ms : List Move) (i sum : ℕ) where
  pub need-next : (m : Move) → At ms i m → (k : ℕ) → k ≡ need_all m.root m.via c → sum + need_list c (drop i ms) ≡ sum + k + need_list c (drop (i + 1) ms)
  unfolding need_list
  need-next m a k e = rw (front ms i m a, e) (omega arith)

  pub need-none : length ms ≤ i → sum + need_list c (drop i ms) ≡ sum
  unfolding need_list
  need-none h = rw (drop_of_length-le ms {i = i} h) (omega arith)

module _ (c : Card) (ms : List Move) where
  pub need-above : (sum rest free : ℕ) → need_list c ms ≡ sum + rest → free ≡ free_labels c → free < sum → false ≡ leb (need_list c ms) (free_labels c)
  need-above sum rest free e f h = sym (lt-leb (need_list c ms) (free_labels c) (omega arith))

  pub need-within : (sum free : ℕ) → need_list c ms ≡ sum → free ≡ free_labels c → sum ≤ free → true ≡ leb (need_list c ms) (free_labels c)
  need-within sum free e f h = sym (le-leb (need_list c ms) (free_labels c) (omega arith))

-- ---- the tests

module _ (c : Card) (n : ℕ) (ps : List Allowed) (m : Move) (a : List ℕ) (is : a ≡ m.root) (via : ℕ) (goes : via ≡ route_of a c) where
  pub move-other : (via ≡ n → ⊥) → false ≡ is_move c n ps m
  unfolding is_move
  move-other ne = rw (← is, ← goes, ne_eqb via n ne) refl

  pub move-may : via ≡ n → (v : ℕ) → v ≡ m.via → (b : Bool) → b ≡ may_have n ps a v → b ≡ is_move c n ps m
  unfolding is_move
  move-may e v ev b eb = rw (← is, ← goes, eq-eqb via n e, ← ev) eb

pub route-root : (ns os : List ℕ) (i : ℕ) (a : List ℕ) → a ≡ root_name os i → a ≡ (route_in ns os i).root
unfolding route_in row_in
route-root ns os i a e = e

module _ (n : ℕ) (ms : List Move) (x : Route) (via : ℕ) (goes : via ≡ x.via) where
  pub listed-other : (via ≡ n → ⊥) → true ≡ listed_once n ms x
  unfolding listed_once goes_by
  listed-other ne = rw (← goes, ne_eqb via n ne) refl

  pub listed_here : via ≡ n → (a : List ℕ) → a ≡ x.root → (k : ℕ) → k ≡ count (move_for a) ms → eqb k 1 ≡ listed_once n ms x
  unfolding listed_once goes_by
  listed_here e a ea k ek = rw (← goes, eq-eqb via n e, ek, ea) refl

-- ---- the whole

module _ (c : Card) (n : ℕ) (sets o : List ℕ) where
  pub checked-far : 15 < n → checked_octets c n sets o ≡ refusal 1
  unfolding checked_octets no_neighbour
  checked-far h = rw (lt-ltb 15 n h) refl

  pub checked-near : n ≤ 15 → (b : Bool) → b ≡ (is_list o && accepts c n (allowed_in sets) (list_in o)) → checked_octets c n sets o ≡ pick b accepted rejected
  unfolding checked_octets no_neighbour
  checked-near near b is = rw (le-ltb 15 n near, ← is) refl

pub verdict-pick : (b : Bool) → ◌≡◌ {A = Result Bool ℕ} (Ok b) (verdict_of (pick b accepted rejected))
unfolding verdict_of
verdict-pick true = refl
verdict-pick false = refl
