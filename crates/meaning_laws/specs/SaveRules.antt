-- The rules in force, as the laws read them: what `keeps_rules` tests, and what each test tells.
-- Assumes nothing.
use Prim.Native.Nat.{ℕ, zero, suc, ◌+◌, ◌≤◌, ◌<◌, suc-le-suc, zero-le}
use Rattle.std.proofs.Common.{le_of_suc-le-suc, not-suc-le-zero, arith}
use Rattle.std.proofs.Math.Nat.{le_trans}
use Rattle.std.proofs.Math.Path.{◌≡◌, refl, subst}
use Rattle.std.specs.Prelude.{Bool, get_or, length, eqb, leb, ltb}
use Rattle.std.proofs.Math.Bool.{true, false}
use mathlib.Core.List.{List, [], ◌∷◌}
use borrow.Author.Tests.{eqb-true, leb-true, ltb-true, eq-eqb, le-leb, lt-ltb, not-true, not-false}
use Rattle.meaning.specs.Octets.{count, any, same, all}
use Rattle.meaning.specs.Lists.{by-test, picked, same-eq, same_refl, any-count, count-any}
use Rattle.meaning.specs.Card.{Route, Tree, Use, free, Card, tree_limit, route_limit, label_count, is_for, named, bare, tree_at, held_for, most_base}
use Rattle.meaning.specs.Events.{base_outside, holder_of}
use Rattle.meaning_laws.specs.RoundTrip.{both}
use Rattle.meaning_save.specs.Save.{once_each, is_route, same_root, is_tree, same_name, is_use, is_carried, all_carried, carries_own, holds_right, counts_right, keeps_rows, keeps_rules}
use Rattle.meaning_laws.specs.SaveFields.{all_cons}
use Rattle.meaning.specs.Wire.{least_label}

-- ---- every element

pub all-at {ℓ} : {A : Type ℓ} (t : A → Bool) (xs : List A) (d : A) → all t xs ≡ true → (i : ℕ) → i < length xs → t (get_or xs i d) ≡ true
all-at t [] d h i k = absurd (not-suc-le-zero k)
all-at t (x ∷ xs) d h zero k = (all_cons t x xs h).0
all-at t (x ∷ xs) d h (suc i) k = all-at t xs d (all_cons t x xs h).1 i (le_of_suc-le-suc k)

pub all_of {ℓ} : {A : Type ℓ} (t : A → Bool) (xs : List A) (d : A) → ((i : ℕ) → i < length xs → t (get_or xs i d) ≡ true) → all t xs ≡ true
unfolding all
all_of t [] d h = refl
all_of t (x ∷ xs) d h = rw (h 0 (suc-le-suc zero-le)) (all_of t xs d (λ i k. h (suc i) (suc-le-suc k)))

carried-cons : (c : Card) (l : ℕ) (u : Use) (us : List Use) → all_carried c l (u ∷ us) ≡ true → (is_carried c l u ≡ true) × (all_carried c (suc l) us ≡ true)
unfolding all_carried
carried-cons c l u us h = by-test (is_carried c l u) (λ e. (e, rw e at h)) (λ e. absurd (let z : false ≡ true = rw e at h in let z' : ◌≡◌ {A = ℕ} 0 1 = cc in omega arith))

pub carried-at : (c : Card) (l : ℕ) (us : List Use) → all_carried c l us ≡ true → (i : ℕ) → i < length us → is_carried c (l + i) (get_or us i free) ≡ true
carried-at c l [] h i k = absurd (not-suc-le-zero k)
carried-at c l (u ∷ us) h zero k = subst (λ (n : ℕ). is_carried c n u ≡ true) (omega arith) (carried-cons c l u us h).0
carried-at c l (u ∷ us) h (suc i) k = subst (λ (n : ℕ). is_carried c n (get_or us i free) ≡ true) (omega arith) (carried-at c (suc l) us (carried-cons c l u us h).1 i (le_of_suc-le-suc k))

pub carried_of : (c : Card) (l : ℕ) (us : List Use) → ((i : ℕ) → i < length us → is_carried c (l + i) (get_or us i free) ≡ true) → all_carried c l us ≡ true
unfolding all_carried
carried_of c l [] h = refl
carried_of c l (u ∷ us) h =
    let first : is_carried c l u ≡ true = subst (λ (n : ℕ). is_carried c n u ≡ true) (omega arith) (h 0 (suc-le-suc zero-le)) in
    rw first (carried_of c (suc l) us (λ i k. subst (λ (n : ℕ). is_carried c n (get_or us i free) ≡ true) (omega arith) (h (suc i) (suc-le-suc k))))

-- ---- no two alike: by a key, as the root of a route and the name of a tree

module _ {A : Type 0} (key : A → List ℕ) where
  abbrev alike : A → A → Bool
  alike x y = same (key y) (key x)

  abbrev with-key : List ℕ → A → Bool
  with-key a x = same (key x) a

  once-count : (l : List A) → once_each alike l ≡ true → (a : List ℕ) → count (with-key a) l ≤ 1
  unfolding once_each count
  once-count [] h a = zero-le
  once-count (x ∷ l) h a =
      by-test (any (alike x) l)
      (λ e. absurd (let z : false ≡ true = rw e at h in let z' : ◌≡◌ {A = ℕ} 0 1 = cc in omega arith))
      (λ e. let rest = once-count l (rw e at h) a in
      by-test (same (key x) a)
      (λ k. let none : count (with-key a) l ≡ 0 = subst (λ (b : List ℕ). count (with-key b) l ≡ 0) (same-eq (key x) a k) (any-count (alike x) l e) in rw (k, none) (omega arith))
      (λ k. rw k rest))

  count-once : (l : List A) → ((a : List ℕ) → count (with-key a) l ≤ 1) → once_each alike l ≡ true
  unfolding once_each count
  count-once [] h = refl
  count-once (x ∷ l) h =
      let own : suc (count (alike x) l) ≤ 1 = rw (same_refl (key x)) at (h (key x)) in
      rw (count-any (alike x) l (omega arith)) (count-once l (λ a. le_trans (picked (λ (k : ℕ). count (with-key a) l ≤ k) (same (key x) a) (λ _. omega arith) (λ _. omega arith)) (h a)))

-- ---- the rules

pub record Rules (c : Card) : Type 0 where
  pub low : least_label ≤ c.base
  pub high : c.base ≤ most_base
  pub next : c.next < 4294967296
  pub few-routes : length c.routes ≤ route_limit
  pub few-trees : length c.trees ≤ tree_limit
  pub many : length c.labels ≡ label_count
  pub routes : all is_route c.routes ≡ true
  pub roots : (r : List ℕ) → count (is_for r) c.routes ≤ 1
  pub trees : all is_tree c.trees ≡ true
  pub names : (a : List ℕ) → count (named a) c.trees ≤ 1
  pub uses : all is_use c.labels ≡ true
  pub carried : (i : ℕ) → i < length c.labels → is_carried c (c.base + i) (get_or c.labels i free) ≡ true
  pub own : (i : ℕ) → i < length c.trees → carries_own c (tree_at i c) ≡ true
  pub held : (i : ℕ) → i < length c.trees → held_for c (tree_at i c) ≡ holder_of c (tree_at i c)
  pub counts : counts_right c ≡ true

module _ (c : Card) where
  roots-once : once_each same_root c.routes ≡ true → (r : List ℕ) → count (is_for r) c.routes ≤ 1
  unfolding same_root is_for
  roots-once h = once-count (λ (r : Route). r.root) c.routes h

  once-roots : ((r : List ℕ) → count (is_for r) c.routes ≤ 1) → once_each same_root c.routes ≡ true
  unfolding same_root is_for
  once-roots h = count-once (λ (r : Route). r.root) c.routes h

  names-once : once_each same_name c.trees ≡ true → (a : List ℕ) → count (named a) c.trees ≤ 1
  unfolding same_name named
  names-once h = once-count (λ (t : Tree). t.name) c.trees h

  once-names : ((a : List ℕ) → count (named a) c.trees ≤ 1) → once_each same_name c.trees ≡ true
  unfolding same_name named
  once-names h = count-once (λ (t : Tree). t.name) c.trees h

  own_at : all (carries_own c) c.trees ≡ true → (i : ℕ) → i < length c.trees → carries_own c (tree_at i c) ≡ true
  unfolding tree_at
  own_at h = all-at (carries_own c) c.trees (bare []) h

  own_of : ((i : ℕ) → i < length c.trees → carries_own c (tree_at i c) ≡ true) → all (carries_own c) c.trees ≡ true
  unfolding tree_at
  own_of h = all_of (carries_own c) c.trees (bare []) h

  held_at : all (holds_right c) c.trees ≡ true → (i : ℕ) → i < length c.trees → held_for c (tree_at i c) ≡ holder_of c (tree_at i c)
  unfolding tree_at holds_right
  held_at h i k = eqb-true _ _ (all-at (holds_right c) c.trees (bare []) h i k)

  held_of : ((i : ℕ) → i < length c.trees → held_for c (tree_at i c) ≡ holder_of c (tree_at i c)) → all (holds_right c) c.trees ≡ true
  unfolding tree_at holds_right
  held_of h = all_of (holds_right c) c.trees (bare []) (λ i k. eq-eqb _ _ (h i k))

  pub rules : keeps_rules c ≡ true → Rules c
  unfolding keeps_rules keeps_rows base_outside
  rules h =
      let n = both _ (counts_right c) h in
      let m = both _ (all (holds_right c) c.trees) n.0 in
      let l = both _ (all (carries_own c) c.trees) m.0 in
      let k = both _ (all_carried c c.base c.labels) l.0 in
      let j = both _ (all is_use c.labels) k.0 in
      let i = both _ (once_each same_name c.trees) j.0 in
      let g = both _ (all is_tree c.trees) i.0 in
      let f = both _ (once_each same_root c.routes) g.0 in
      let e = both _ (all is_route c.routes) f.0 in
      let d = both _ (eqb (length c.labels) label_count) e.0 in
      let b = both _ (leb (length c.trees) tree_limit) d.0 in
      let a = both _ (leb (length c.routes) route_limit) b.0 in
      let y = both _ (ltb c.next 4294967296) a.0 in
      let x = both (leb least_label c.base) (leb c.base most_base) (not-false _ (not-true _ y.0)) in
      record {
        low = leb-true _ _ x.0;
        high = leb-true _ _ x.1;
        next = ltb-true _ _ y.1;
        few-routes = leb-true _ _ a.1;
        few-trees = leb-true _ _ b.1;
        many = eqb-true _ _ d.1;
        routes = e.1;
        roots = roots-once f.1;
        trees = g.1;
        names = names-once i.1;
        uses = j.1;
        carried = carried-at c c.base c.labels k.1;
        own = own_at l.1;
        held = held_at m.1;
        counts = n.1;
      }

  pub rules-kept : Rules c → keeps_rules c ≡ true
  unfolding keeps_rules keeps_rows base_outside
  rules-kept R =
      rw (
        le-leb least_label c.base R.low,
        le-leb c.base most_base R.high,
        lt-ltb c.next 4294967296 R.next,
        le-leb (length c.routes) route_limit R.few-routes,
        le-leb (length c.trees) tree_limit R.few-trees,
        eq-eqb (length c.labels) label_count R.many,
        R.routes,
        once-roots R.roots,
        R.trees,
        once-names R.names,
        R.uses,
        carried_of c c.base c.labels R.carried,
        own_of R.own,
        held_of R.held,
        R.counts,
      ) refl
