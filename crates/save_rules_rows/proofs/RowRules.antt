-- What the loops over routes, trees and branches know, and what the tests of one row say. Assumes nothing.
use Prim.Native.Nat.{ℕ, zero, suc, ◌+◌, ◌≤◌, ◌<◌}
use native.Mathlib.Nat.{not-suc-le-zero, le_of_suc-le-suc}
use native.Mathlib.Numerals.{add-one}
use native.Mathlib.Omega.{arith}
use mathlib.Core.Path.{◌≡◌, refl, ap}
use mathlib.Core.Bool.{Bool, true, false, not, ◌&&◌, ◌||◌, and_assoc, and-true, and-false, not-not}
use mathlib.Core.List.{List, [], ◌∷◌}
use lib.ListN.{length, drop, get_or, set, drop_of_length-le}
use lib.Seq.{drop-cons, set_out}
use lib.Dec.{eqb}
use borrow.Author.Tests.{le-leb, lt-leb, eq-eqb, ne_eqb, not-true, not-false}
use Rattle.meaning.specs.Octets.{place, any, same, all}
use Rattle.meaning.specs.Lists.{by-test, get_d-same, same-eq, any-count, count-some, never}
use Rattle.meaning.specs.Wire.{root_in}
use Rattle.meaning.specs.Card.{Route, Tree, Use, Card, tree_at, bare, is_branch, is_empty, is_for, named, route_of, held_for, label_count, neighbour_count}
use Rattle.meaning.specs.Events.{not_root, upstream, holder_of, holder}
use Rattle.meaning_save.specs.Save.{is_name, once_each, is_route, same_root, is_branch_label, is_tree, same_name, is_carried, all_carried, holds_right}
use Rattle.octets.proofs.Tab.{tab-get}
use Rattle.memory.specs.Memory.{base_in, route_count, tree_count, root_name, entry_in, route_in, label_in, card_of}
use Rattle.memory.proofs.Memory.{routes-length, trees-length, labels_length}
use Rattle.memory.proofs.Trees.{branches-length}

-- ---- loops over a list: all, any, once each, from place i on. b is what the code says of the test

-- x stands at place i
pub record At {ℓ} {A : Type ℓ} (l : List A) (i : ℕ) (x : A) : Type ℓ where
  pub inside : i < length l
  pub reads : get_or l i x ≡ x

module _ {ℓ} {A : Type ℓ} (l : List A) (i : ℕ) (x : A) (a : At l i x) where
  at_front : drop i l ≡ x ∷ drop (i + 1) l
  at_front = rw (drop-cons l i x a.inside, a.reads, add-one i) refl

  module _ (t : A → Bool) (b : Bool) (e : b ≡ t x) where
    pub all-hit : not b ≡ false → all t (drop i l) ≡ all t (drop (i + 1) l)
    unfolding all
    all-hit k = rw (at_front, ← e, not-false b k) refl

    pub all-miss : not b ≡ true → all t (drop i l) ≡ false
    unfolding all
    all-miss k = rw (at_front, ← e, not-true b k) refl

    pub any-hit : b ≡ true → any t (drop i l) ≡ true
    unfolding any
    any-hit k = rw (at_front, ← e, k) refl

    pub any-miss : b ≡ false → any t (drop i l) ≡ any t (drop (i + 1) l)
    unfolding any
    any-miss k = rw (at_front, ← e, k) refl

  -- whether one like it stands further on
  module _ (like : A → A → Bool) (b : Bool) (e : b ≡ any (like x) (drop (i + 1) l)) where
    pub once-hit : b ≡ false → once_each like (drop i l) ≡ once_each like (drop (i + 1) l)
    unfolding once_each
    once-hit k = rw (at_front, ← e, k) refl

    pub once-miss : b ≡ true → once_each like (drop i l) ≡ false
    unfolding once_each
    once-miss k = rw (at_front, ← e, k) refl

-- past the end
module _ {ℓ} {A : Type ℓ} (l : List A) (i : ℕ) (h : length l ≤ i) where
  at-end : drop i l ≡ []
  at-end = drop_of_length-le l {i = i} h

  pub all_none : (t : A → Bool) → all t (drop i l) ≡ true
  unfolding all
  all_none t = rw at-end refl

  pub any_none : (t : A → Bool) → any t (drop i l) ≡ false
  unfolding any
  any_none t = rw at-end refl

  pub once-none : (like : A → A → Bool) → once_each like (drop i l) ≡ true
  unfolding once_each
  once-none like = rw at-end refl

-- the labels, each with its number
module _ (c : Card) (b : ℕ) (us : List Use) (p : ℕ) where
  module _ (u : Use) (a : At us p u) (r : Bool) (e : r ≡ is_carried c (b + p) u) where
    pub carried-hit : not r ≡ false → all_carried c (b + p) (drop p us) ≡ all_carried c (b + (p + 1)) (drop (p + 1) us)
    unfolding all_carried
    carried-hit k = let q : suc (b + p) ≡ b + (p + 1) = omega arith in rw (at_front us p u a, ← e, not-false r k, q) refl

    pub carried-miss : not r ≡ true → all_carried c (b + p) (drop p us) ≡ false
    unfolding all_carried
    carried-miss k = rw (at_front us p u a, ← e, not-true r k) refl

  pub carried_none : length us ≤ p → all_carried c (b + p) (drop p us) ≡ true
  unfolding all_carried
  carried_none h = rw (at-end us p h) refl

-- ---- the card's lists by place

module _ (ns os : List ℕ) where
  pub route-there : (n i : ℕ) → n ≡ route_count ns → i < n → At (card_of ns os).routes i (route_in ns os i)
  route-there n i e h = record { inside = rw routes-length (omega arith); reads = unfold card_of in tab-get _ _ i _ (omega arith) }

  pub routes-end : (n i : ℕ) → n ≡ route_count ns → n ≤ i → length (card_of ns os).routes ≤ i
  routes-end n i e h = rw routes-length (omega arith)

  tree-reads : (i : ℕ) → i < length (card_of ns os).trees → get_or (card_of ns os).trees i (tree_at i (card_of ns os)) ≡ tree_at i (card_of ns os)
  unfolding tree_at
  tree-reads i k = get_d-same (card_of ns os).trees i _ (bare []) k

  pub tree-there : (n i : ℕ) → n ≡ tree_count ns → i < n → At (card_of ns os).trees i (tree_at i (card_of ns os))
  tree-there n i e h =
      let k : i < length (card_of ns os).trees = rw trees-length (omega arith) in
      record { inside = k; reads = tree-reads i k }

  pub trees-end : (n i : ℕ) → n ≡ tree_count ns → n ≤ i → length (card_of ns os).trees ≤ i
  trees-end n i e h = rw trees-length (omega arith)

  pub label-there : (p : ℕ) → p < label_count → At (card_of ns os).labels p (label_in ns os p)
  label-there p h = record { inside = rw labels_length h; reads = unfold card_of in tab-get label_count (label_in ns os) p _ h }

  pub labels-end : (p : ℕ) → label_count ≤ p → length (card_of ns os).labels ≤ p
  labels-end p h = rw labels_length h

  pub branch-there : (i k : ℕ) → i < tree_count ns → k < neighbour_count → At (tree_at i (card_of ns os)).branches k (get_or (tree_at i (card_of ns os)).branches k 0)
  branch-there i k h h16 =
      let w : k < length (tree_at i (card_of ns os)).branches = omega (arith, branches-length ns os i h) in
      record { inside = w; reads = get_d-same (tree_at i (card_of ns os)).branches k _ 0 w }

  pub branches-end : (i k : ℕ) → i < tree_count ns → 16 ≤ k → length (tree_at i (card_of ns os)).branches ≤ k
  branches-end i k h h16 = omega (arith, branches-length ns os i h)

  pub carried-start : all_carried (card_of ns os) (card_of ns os).base (card_of ns os).labels ≡ all_carried (card_of ns os) (base_in ns + 0) (drop 0 (card_of ns os).labels)
  carried-start = let q : (card_of ns os).base ≡ base_in ns + 0 = unfold card_of in omega arith in ap (λ (b : ℕ). all_carried (card_of ns os) b (card_of ns os).labels) q

-- ---- one route

module _ (ns os : List ℕ) (i : ℕ) where
  pub route-far : (via : ℕ) → via ≡ (route_in ns os i).via → 16 < via → is_route (route_in ns os i) ≡ false
  unfolding is_route
  route-far via e h = rw (← e, lt-leb via 16 h) (and-false (not (not_root (route_in ns os i).root)))

  module _ (via n : ℕ) (e : via ≡ (route_in ns os i).via) (h : via ≤ 16) (k : n ≡ length (root_name os i)) where
    route-sized : is_route (route_in ns os i) ≡ (eqb n 4 || eqb n 16)
    unfolding is_route not_root route_in entry_in
    route-sized = rw (← e, le-leb via 16 h, ← k, and-true, not-not) refl

    pub route-four : n ≡ 4 → is_route (route_in ns os i) ≡ true
    route-four q = rw (route-sized, eq-eqb n 4 q) refl

    pub route-sixteen : (n ≡ 4 → ⊥) → is_route (route_in ns os i) ≡ eqb n 16
    route-sixteen ne = rw (route-sized, ne_eqb n 4 ne) refl

  pub route-for : (r a : List ℕ) → a ≡ root_name os i → same a r ≡ is_for r (route_in ns os i)
  unfolding is_for route_in entry_in
  route-for r a e = rw e refl

  pub root-like : (a : List ℕ) (l : List Route) → a ≡ root_name os i → any (is_for a) l ≡ any (same_root (route_in ns os i)) l
  unfolding same_root route_in entry_in
  root-like a l e = rw e refl

-- ---- one tree

module _ (t : Tree) where
  pub leaf-leads : (b : Bool) → b ≡ t.leaf → b ≡ true → not (is_empty t) ≡ true
  unfolding is_empty
  leaf-leads b e k = rw (← e, k, and-false) refl

  pub branch_leads : (b r : Bool) → length t.branches ≡ neighbour_count → b ≡ t.leaf → b ≡ false → r ≡ any is_branch (set (set t.branches 16 0) 16 0) → r ≡ not (is_empty t)
  unfolding is_empty
  branch_leads b r l e k a =
      let once : set t.branches 16 0 ≡ t.branches = set_out t.branches 16 0 (omega arith) in
      rw (← e, k, and-true, not-not) (rw (once, once) at a)

  pub tree-parts : length t.branches ≡ neighbour_count → is_tree t ≡ (is_name t.name && (all is_branch_label t.branches && not (is_empty t)))
  unfolding is_tree
  tree-parts l = rw (eq-eqb (length t.branches) neighbour_count l, and-true (is_name t.name)) (and_assoc (is_name t.name) (all is_branch_label t.branches) (not (is_empty t)))

  pub tree-for : (r a : List ℕ) → a ≡ t.name → same a r ≡ named r t
  unfolding named
  tree-for r a e = rw e refl

  pub holds : (c : Card) (u h k : ℕ) (a : List ℕ) → a ≡ t.name → u ≡ upstream (route_of (root_in a) c) → h ≡ held_for c t → k ≡ holder u t → eqb h k ≡ holds_right c t
  unfolding holds_right holder_of
  holds c u h k a ea eu eh ek = rw (eh, ek, eu, ea) refl

-- ---- the tree of a name

alike : (a : List ℕ) (t s : Tree) → named a t ≡ true → named a s ≡ true → same_name t s ≡ true
unfolding same_name named
alike a t s e k = rw (same-eq t.name a e) k

-- its place, where no two trees have it
pub place-once : (a : List ℕ) (ts : List Tree) (k : ℕ) (d : Tree) → once_each same_name ts ≡ true → k < length ts → named a (get_or ts k d) ≡ true → place (named a) ts ≡ k
unfolding place once_each
place-once a [] k d once h e = absurd (not-suc-le-zero h)
place-once a (t ∷ ts) zero d once h e = rw e refl
place-once a (t ∷ ts) (suc k) d once h e =
    by-test (any (same_name t) ts)
    (λ x. absurd (never (rw x at once)))
    (λ x. by-test (named a t)
    (λ y.
    absurd (omega (arith, any-count (same_name t) ts x, count-some (same_name t) ts k d (le_of_suc-le-suc h) (alike a t (get_or ts k d) y e))))
    (λ y. rw y (ap suc (place-once a ts k d (rw x at once) (le_of_suc-le-suc h) e))))

-- ---- three tests, one after the other
module _ (a b c : Bool) (e : a ≡ true) where
  pub both : b ≡ true → (a && (b && c)) ≡ c
  both k = rw (e, k) refl

  pub not-both : b ≡ false → (a && (b && c)) ≡ false
  not-both k = rw (e, k) refl
