-- A table that keeps the rules in force (`keeps_rules`: those that a saved table is held to), and whose last label given is right (`last_right`), is sound, with its labels in use for the live ones: so what is shown of a history's table is shown of any such table, a restored one too.
-- Assumes nothing.
use Rattle.std.specs.Prelude.{ℕ, suc, ◌+◌, ◌-◌, ◌≤◌, ◌<◌, ◌≡◌, false, not, List, [], ◌∷◌, ◌++◌, get_or, length, eqb, leb, ltb}
use Rattle.std.proofs.Common.{le_refl, arith, ap, ap₂, ◌∙◌, subst}
use Rattle.std.proofs.Math.Path.{refl, sym}
use Rattle.std.proofs.Math.Bool.{true}
use borrow.Author.Tests.{eqb-true, eqb-false, eq-eqb, ne_eqb, ltb-true, ltb-false, leb-true, le-leb, lt-leb, not-true}
use Rattle.meaning.specs.Octets.{pick, count, all}
use Rattle.meaning.specs.Card.{Tree, Use, free, mapped, awaiting, Card, bare, tree_place, tree_of, tree_at, is_empty, is_free, use_of, free_labels, label_count, neighbour_count}
use Rattle.meaning.specs.Lists.{by-test, picked, same-eq, get_d-out, append-nil}
use Rattle.meaning_laws.specs.RoundTrip.{both}
use Rattle.meaning_save.specs.Save.{is_name, is_branch_label, is_tree, is_use, is_carried, is_mapped_for, carries_own, last_right}
use Rattle.meaning_laws.specs.Standing.{standing-at, not-standing}
use Rattle.meaning_laws.specs.SaveFields.{all_cons}
use Rattle.meaning_laws.specs.SaveCounts.{right-counted}
use Rattle.meaning_laws.specs.SaveRules.{all-at, Rules}
use Rattle.promise.specs.Promise.{Given, of_label}
use Rattle.promise.specs.LiveLaws.{is_mapped, stray, Linked, only, givens, Books}
use Rattle.promise.specs.CardLaws.{Proper, AllProper}
use Rattle.promise.proofs.CardLaws.{tree-name}
use Rattle.promise.specs.LabelLaws.{Sound, Spent}
use Rattle.promise.specs.RuleLaws.{Ruled}
use Rattle.promise.proofs.SaveKept.{mapped-same}

-- ---- the labels in use, as live ones

unfoldable pub in_use : ℕ → List Use → List Given
in_use l [] = []
in_use l (u ∷ us) = givens l u ++ in_use (suc l) us

only-append : (l : ℕ) (gs hs : List Given) → only l (gs ++ hs) ≡ only l gs ++ only l hs
unfolding only
only-append l [] hs = refl
only-append l (g ∷ gs) hs = by-test (of_label l g) (λ e. rw e (ap (λ (x : List Given). g ∷ x) (only-append l gs hs))) (λ e. rw e (only-append l gs hs))

only-own : (l : ℕ) (u : Use) → only l (givens l u) ≡ givens l u
unfolding only givens of_label
only-own l free = refl
only-own l (mapped n a) = rw (eq-eqb l l refl) refl
only-own l (awaiting n a) = rw (eq-eqb l l refl) refl

only-other : (l k : ℕ) (u : Use) → (k ≡ l → ⊥) → only l (givens k u) ≡ []
unfolding only givens of_label
only-other l k free d = refl
only-other l k (mapped n a) d = rw (ne_eqb k l d) refl
only-other l k (awaiting n a) d = rw (ne_eqb k l d) refl

-- the use by number, of labels from k on
unfoldable use_from : ℕ → List Use → ℕ → Use
use_from k us l = pick (leb k l) (get_or us (l - k) free) free

use-below : (k l : ℕ) (us : List Use) → l < k → use_from k us l ≡ free
unfolding use_from
use-below k l us h = rw (lt-leb k l h) refl

use-first : (k : ℕ) (u : Use) (us : List Use) → use_from k (u ∷ us) k ≡ u
unfolding use_from
use-first k u us = let z : k - k ≡ 0 = omega arith in rw (le-leb k k (le_refl k)) (ap (λ (i : ℕ). get_or (u ∷ us) i free) z)

use-later : (k l : ℕ) (u : Use) (us : List Use) → k < l → use_from k (u ∷ us) l ≡ use_from (suc k) us l
unfolding use_from
use-later k l u us h = rw (le-leb k l (omega arith), le-leb (suc k) l h) (ap (λ (i : ℕ). get_or (u ∷ us) i free) (stepped k l h))
  where
    stepped : (k l : ℕ) → k < l → l - k ≡ suc (l - suc k)
    stepped k l h = omega arith

use-none : (k l : ℕ) → use_from k [] l ≡ free
unfolding use_from
use-none k l = picked (λ (u : Use). u ≡ free) (leb k l) (λ _. refl) (λ _. refl)

only-use : (k : ℕ) (us : List Use) (l : ℕ) → only l (in_use k us) ≡ givens l (use_from k us l)
unfolding in_use
only-use k [] l = rw (use-none k l) (unfold only givens in refl)
only-use k (u ∷ us) l =
    only-append l (givens k u) (in_use (suc k) us)
    ∙ by-test (eqb k l)
    (λ e. here (only-use (suc k) us k) (eqb-true k l e))
    (λ e. rw (only-other l k u (eqb-false k l e), only-use (suc k) us l) (there (eqb-false k l e)))
  where
    nothing-later : only k (in_use (suc k) us) ≡ givens k (use_from (suc k) us k) → only k (in_use (suc k) us) ≡ []
    nothing-later is = is ∙ ap (givens k) (use-below (suc k) k us (le_refl (suc k))) ∙ unfold givens in refl

    here : only k (in_use (suc k) us) ≡ givens k (use_from (suc k) us k) → k ≡ l → only l (givens k u) ++ only l (in_use (suc k) us) ≡ givens l (use_from k (u ∷ us) l)
    here is e = subst (λ (x : ℕ). only x (givens k u) ++ only x (in_use (suc k) us) ≡ givens x (use_from k (u ∷ us) x)) e
        (ap₂ (λ (x y : List Given). x ++ y) (only-own k u) (nothing-later is) ∙ append-nil (givens k u) ∙ ap (givens k) (sym (use-first k u us)))

    there : (k ≡ l → ⊥) → givens l (use_from (suc k) us l) ≡ givens l (use_from k (u ∷ us) l)
    there d =
        by-test (ltb k l)
        (λ e. ap (givens l) (sym (use-later k l u us (ltb-true k l e))))
        (λ e. let below : l < k = apart k l (ltb-false k l e) d in ap (givens l) (use-below (suc k) l us (deeper k l below) ∙ sym (use-below k l (u ∷ us) below)))
      where
        apart : (k l : ℕ) → l ≤ k → (k ≡ l → ⊥) → l < k
        apart k l h d = omega arith

        deeper : (k l : ℕ) → l < k → l < suc k
        deeper k l h = omega arith

use-sum : (k : ℕ) (us : List Use) → length (in_use k us) + count is_free us ≡ length us
unfolding in_use count givens is_free
use-sum k [] = refl
use-sum k (free ∷ us) = omega (arith, use-sum (suc k) us)
use-sum k (mapped n a ∷ us) = omega (arith, use-sum (suc k) us)
use-sum k (awaiting n a ∷ us) = omega (arith, use-sum (suc k) us)

-- ---- trees

tree-parts : (t : Tree) → is_tree t ≡ true → Proper t × (is_empty t ≡ false)
unfolding is_tree is_name Proper
tree-parts t h =
    let a = both _ (not (is_empty t)) h in
    let b = both _ (all is_branch_label t.branches) a.0 in
    let d = both (is_name t.name) (eqb (length t.branches) neighbour_count) (unfold is_name in b.0) in
    ((eqb-true _ _ d.1, eqb-true _ _ (unfold is_name in d.0)), not-true _ a.1)

all-proper : (ts : List Tree) → all is_tree ts ≡ true → AllProper ts
unfolding AllProper
all-proper [] h = tt
all-proper (t ∷ ts) h = let p = all_cons is_tree t ts h in ((tree-parts t p.0).0, all-proper ts p.1)

-- ---- uses

use-real : (u : Use) → is_use u ≡ true → stray u ≡ false
unfolding is_use stray
use-real free h = refl
use-real (mapped n a) h = lt-leb neighbour_count n (ltb-true _ _ (both (ltb n neighbour_count) (is_name a) h).0)
use-real (awaiting n a) h = refl

carried-led : (c : Card) (a : List ℕ) (l : ℕ) (u : Use) → is_carried c l u ≡ true → is_mapped a u ≡ true → (tree_of a c).label ≡ l
unfolding is_carried is_mapped
carried-led c a l free h e = absurd (let z : ◌≡◌ {A = ℕ} 0 1 = cc in omega arith)
carried-led c a l (mapped n b) h e = subst (λ (x : List ℕ). (tree_of x c).label ≡ l) (same-eq b a e) (eqb-true _ _ h)
carried-led c a l (awaiting n b) h e = absurd (let z : ◌≡◌ {A = ℕ} 0 1 = cc in omega arith)

free-not : (a : List ℕ) (u : Use) → u ≡ free → is_mapped a u ≡ true → ⊥
unfolding is_mapped
free-not a u z e = let k : false ≡ true = sym (ap (is_mapped a) z) ∙ e in let z' : ◌≡◌ {A = ℕ} 0 1 = cc in omega arith

-- ---- the last label given

last-spent : (c : Card) → last_right c ≡ true → Spent c
unfolding last_right
last-spent c h =
    by-test (eqb c.last 0)
    (λ e. let all-free : eqb (free_labels c) label_count ≡ true = unfold last_right in rw e at h in
    record { none = λ _. eqb-true _ _ all-free; block = λ z. absurd (z (eqb-true c.last 0 e)) })
    (λ e. let b = both (leb c.base c.last) (ltb c.last (c.base + label_count)) (unfold last_right in rw e at h) in
    record { none = λ z. absurd (eqb-false c.last 0 e z); block = λ _. (leb-true _ _ b.0, ltb-true _ _ b.1) })

module _ (c : Card) (R : Rules c) where
  -- a label's use: that of its place, or free
  use-is : (P : Use → Type 0) (l : ℕ) → P free → ((i : ℕ) → i < length c.labels → l ≡ c.base + i → P (get_or c.labels i free)) → P (use_of l c)
  unfolding use_of
  use-is P l f g =
      by-test (leb c.base l)
      (λ e. rw e (by-test (ltb (l - c.base) (length c.labels))
      (λ k. let low = leb-true c.base l e in g (l - c.base) (ltb-true _ _ k) (omega arith))
      (λ k. rw (get_d-out c.labels (l - c.base) free (ltb-false _ _ k)) f)))
      (λ e. rw e f)

  zero-free : use_of 0 c ≡ free
  zero-free = use-is (λ (u : Use). u ≡ free) 0 refl (λ i h e. absurd (let low = R.low in omega arith))

  own : (a : List ℕ) → ((tree_of a c).label ≡ 0 → ⊥) → is_mapped a (use_of (tree_of a c).label c) ≡ true
  own a nz =
      by-test (ltb (tree_place a c) (length c.trees))
      (λ e. let is : tree_of a c ≡ tree_at (tree_place a c) c = standing-at c a (ltb-true _ _ e) in
      let its = R.own (tree_place a c) (ltb-true _ _ e) in
      carries (tree_of a c) (tree-name a c) nz (rw (← is) at its))
      (λ e. absurd (nz (ap (λ (t : Tree). t.label) (not-standing c a (ltb-false _ _ e)) ∙ unfold bare in refl)))
    where
      carries : (t : Tree) → t.name ≡ a → (t.label ≡ 0 → ⊥) → carries_own c t ≡ true → is_mapped a (use_of t.label c) ≡ true
      carries t n nz h = unfold carries_own in
          let k : is_mapped_for t.name (use_of t.label c) ≡ true = unfold carries_own in rw (ne_eqb t.label 0 nz) at h in
          sym (mapped-same a (use_of t.label c)) ∙ rw n at k

  linked : Linked (λ a. (tree_of a c).label) (λ l. use_of l c)
  linked = record {
    zero-free = zero-free;
    real = λ l. use-is (λ (u : Use). stray u ≡ false) l (unfold stray in refl) (λ i h e. use-real _ (all-at is_use c.labels free R.uses i h));
    own = own;
    led = λ a l. use-is (λ (u : Use). is_mapped a u ≡ true → (tree_of a c).label ≡ l) l (λ e. absurd (free-not a free refl e)) (λ i h e k. carried-led c a (c.base + i) _ (R.carried i h) k ∙ sym e);
  }

  pub rules-sound : last_right c ≡ true → Sound c (in_use c.base c.labels)
  rules-sound right = record {
    tidy = record { once = R.names; proper = all-proper c.trees R.trees };
    low = R.low;
    high = R.high;
    many = R.many;
    linked = linked;
    books = unfold Books in λ l. only-use c.base c.labels l ∙ unfold use_from use_of in refl;
    sum = unfold free_labels in use-sum c.base c.labels ∙ R.many;
    last = last-spent c right;
  }

  pub rules-ruled : Ruled c
  rules-ruled = record {
    roots = R.roots;
    full = λ j h. (tree-parts (tree_at j c) (unfold tree_at in all-at is_tree c.trees (bare []) R.trees j h)).1;
    held = R.held;
    trees = R.few-trees;
    routes = R.few-routes;
    counts = right-counted c R.roots R.counts;
  }
