-- What tags tell: names whose tags differ are not the same. Assumes nothing.
use Prim.Native.Nat.{ℕ, suc, ◌+◌, ◌-◌, ◌%◌, ◌≤◌, ◌<◌, suc-le-suc, zero-le}
use native.Mathlib.Omega.{arith}
use mathlib.Core.Path.{◌≡◌, refl, sym, ap, ◌∙◌}
use mathlib.Core.Bool.{Bool, true, false}
use mathlib.Core.List.{List, [], ◌∷◌}
use lib.ListN.{length, drop, get_or, set, length-drop}
use lib.Seq.{get_or-set_same, get_or-set_other, get_or-drop}
use lib.Dec.{eqb, ltb}
use borrow.Author.Tests.{eqb-true, eqb-false, ltb-true, ltb-false}
use Rattle.meaning.specs.Octets.{place, any, same}
use Rattle.meaning.specs.Lists.{by-test, same-eq, same_refl, same-flip, place-finds, place-skips}
use Rattle.meaning.specs.Card.{Tree, Card, bare, named, tree_place}
use Rattle.meaning_save.specs.Save.{once_each, same_name}
use Rattle.octets.specs.Part.{tab}
use Rattle.memory.specs.Memory.{card_of, tree_count, tree_in, tree_name}
use Rattle.memory.proofs.Memory.{trees-length}
use Rattle.memory.proofs.Trees.{named-at}
use Rattle.octets.proofs.Tab.{tab-get}
use Rattle.save_rules_rows.proofs.RowRules.{place-once}
use Rattle.save_tags.specs.Tags.{tag_of, Tagged, hint_count, hinted, Alone}

pub tagged-more : (tags os : List ℕ) (i v : ℕ) → Tagged tags i os → i < length tags → v ≡ tag_of (tree_name os i) → Tagged (set tags i v) (i + 1) os
tagged-more tags os i v t h e j k =
    by-test (eqb j i)
    (λ x. let q : j ≡ i = eqb-true j i x in rw q (get_or-set_same tags i v 0 h ∙ e))
    (λ x. let ne = eqb-false j i x in get_or-set_other tags i j v 0 ne ∙ t j (by-test (ltb j i) (λ y. ltb-true j i y) (λ y. absurd (ne (omega (arith, ltb-false j i y))))))

pub tag-tells : (a n : List ℕ) (t u : ℕ) → u ≡ tag_of n → t ≡ tag_of a → (u ≡ t → ⊥) → same n a ≡ false
tag-tells a n t u eu et ne = by-test (same n a) (λ x. absurd (ne (eu ∙ ap tag_of (same-eq n a x) ∙ sym et))) (λ x. x)

pub trees-from : (a ns os : List ℕ) (from n : ℕ) → n ≡ tree_count ns → from + place (named a) (drop from (card_of ns os).trees) ≡ from + place (named a) (drop from (tab n (tree_in ns os)))
unfolding card_of
trees-from a ns os from n e = rw e refl

-- ---- the tree of a name, where no two trees have it

-- sought from the front
pub from_front : (a : List ℕ) (c : Card) (i : ℕ) → i ≡ 0 + place (named a) (drop 0 c.trees) → i ≡ tree_place a c
unfolding tree_place
from_front a c i e = omega arith

pub named-there : (a ns os : List ℕ) (i : ℕ) → i < tree_count ns → once_each same_name (card_of ns os).trees ≡ true → same (tree_name os i) a ≡ true → i ≡ tree_place a (card_of ns os)
unfolding tree_place
named-there a ns os i h once e =
    let its : named a (get_or (card_of ns os).trees i (bare [])) ≡ true = unfold card_of in rw (tab-get (tree_count ns) (tree_in ns os) i (bare []) h) (named-at a ns os i _ refl ∙ e) in
    sym (place-once a (card_of ns os).trees i (bare []) once (rw trees-length h) its)

-- ---- no two trees of one name

none_any {ℓ} : {A : Type ℓ} (t : A → Bool) (l : List A) (d : A) → ((j : ℕ) → j < length l → t (get_or l j d) ≡ false) → any t l ≡ false
unfolding any
none_any t [] d h = refl
none_any t (x ∷ l) d h = rw (h 0 (suc-le-suc zero-le)) (none_any t l d (λ j k. h (suc j) (suc-le-suc k)))

once-of : (ts : List Tree) (d : Tree) → ((i j : ℕ) → i < j → j < length ts → same_name (get_or ts i d) (get_or ts j d) ≡ false) → once_each same_name ts ≡ true
unfolding once_each
once-of [] d h = refl
once-of (t ∷ ts) d h =
    rw (none_any (same_name t) ts d (λ j k. h 0 (suc j) (suc-le-suc zero-le) (suc-le-suc k)))
    (once-of ts d (λ i j lt k. h (suc i) (suc j) (suc-le-suc lt) (suc-le-suc k)))

module _ (ns os : List ℕ) where
  name_of : (i : ℕ) → i < tree_count ns → (get_or (card_of ns os).trees i (bare [])).name ≡ tree_name os i
  unfolding card_of tree_in
  name_of i h = ap (λ (t : Tree). t.name) (tab-get (tree_count ns) (tree_in ns os) i (bare []) h)

  -- two trees that their hints name have not one name, since names of one tag have one place in the hints
  apart : (tags hints : List ℕ) → Tagged tags (tree_count ns) os → ((k : ℕ) → k < tree_count ns → hinted tags hints k ≡ false → Alone os (tree_count ns) k)
      → (i j : ℕ) → i < j → j < tree_count ns → same (tree_name os j) (tree_name os i) ≡ false
  unfolding hinted
  apart tags hints tagged told i j lt jn =
      by-test (hinted tags hints i)
      (λ hi. by-test (hinted tags hints j)
      (λ hj. by-test (same (tree_name os j) (tree_name os i))
      (λ e.
      let tag : get_or tags j 0 ≡ get_or tags i 0 = tagged j jn ∙ ap tag_of (same-eq (tree_name os j) (tree_name os i) e) ∙ sym (tagged i (omega arith)) in
      let one : j ≡ i = sym (eqb-true _ j hj) ∙ ap (λ (t : ℕ). get_or hints (t % hint_count) 0) tag ∙ eqb-true _ i hi in
      absurd (omega arith))
      (λ e. e))
      (λ hj. same-flip (tree_name os i) (tree_name os j) (told j jn hj i (omega arith) (λ e. omega arith))))
      (λ hi. told i (omega arith) hi j jn (λ e. omega arith))

  pub all_told : (tags hints : List ℕ) → Tagged tags (tree_count ns) os → ((k : ℕ) → k < tree_count ns → hinted tags hints k ≡ false → Alone os (tree_count ns) k)
      → once_each same_name (card_of ns os).trees ≡ true
  all_told tags hints tagged told =
      once-of (card_of ns os).trees (bare []) (λ i j lt k.
      let jn : j < tree_count ns = rw trees-length at k in
      unfold same_name named in rw (name_of i (omega arith), name_of j jn) (apart tags hints tagged told i j lt jn))

  module _ (i : ℕ) (h : i < tree_count ns) (a : List ℕ) (ea : a ≡ tree_name os i) where
    own : named a (get_or (card_of ns os).trees i (bare [])) ≡ true
    unfolding named
    own = rw (name_of i h, ea) (same_refl (tree_name os i))

    inside : i < length (card_of ns os).trees
    inside = rw trees-length h

    pub double-before : (r : ℕ) → r ≡ 0 + place (named a) (drop 0 (card_of ns os).trees) → r < i → once_each same_name (card_of ns os).trees ≡ false
    double-before r er lt =
        by-test (once_each same_name (card_of ns os).trees)
        (λ once. let e = place-once a (card_of ns os).trees i (bare []) once inside own in absurd (omega arith))
        (λ e. e)

    pub double-behind : (r : ℕ) → r ≡ i + 1 + place (named a) (drop (i + 1) (card_of ns os).trees) → r < tree_count ns → once_each same_name (card_of ns os).trees ≡ false
    double-behind r er lt =
        let ts : List Tree = (card_of ns os).trees in
        let q : ℕ = place (named a) (drop (i + 1) ts) in
        let long : length ts ≡ tree_count ns = trees-length ns os in
        by-test (once_each same_name ts)
        (λ once.
        let found : named a (get_or ts (i + 1 + q) (bare [])) ≡ true =
        ap (named a) (sym (get_or-drop (i + 1) ts q (bare []))) ∙ place-finds (named a) (drop (i + 1) ts) (bare []) (simp length-drop (omega arith)) in
        let here = place-once a ts i (bare []) once inside own in
        let there = place-once a ts (i + 1 + q) (bare []) once (omega arith) found in
        absurd (omega arith))
        (λ e. e)

    skipped : (j : ℕ) → j < tree_count ns → named a (get_or (card_of ns os).trees j (bare [])) ≡ false → same (tree_name os j) (tree_name os i) ≡ false
    unfolding named
    skipped j jn e = rw (name_of j jn, ea) at e

    pub alone : (r q : ℕ) → r ≡ 0 + place (named a) (drop 0 (card_of ns os).trees) → i ≤ r → q ≡ i + 1 + place (named a) (drop (i + 1) (card_of ns os).trees) → tree_count ns ≤ q → Alone os (tree_count ns) i
    alone r q er lr eq lq j jn ne =
        let ts : List Tree = (card_of ns os).trees in
        by-test (ltb j i)
        (λ t. let lt = ltb-true j i t in skipped j jn (place-skips (named a) ts (bare []) j (omega arith)))
        (λ t. by-test (ltb i j)
        (λ u.
        let lt = ltb-true i j u in
        let at : i + 1 + (j - (i + 1)) ≡ j = omega arith in
        skipped j jn
        (ap (λ (k : ℕ). named a (get_or ts k (bare []))) (sym at)
        ∙ ap (named a) (sym (get_or-drop (i + 1) ts (j - (i + 1)) (bare [])))
        ∙ place-skips (named a) (drop (i + 1) ts) (bare []) (j - (i + 1)) (omega arith)))
        (λ u. absurd (ne (omega (arith, ltb-false j i t, ltb-false i j u)))))

-- one tree more that is told from the others
pub told_more : (tags hints os : List ℕ) (n i : ℕ) → ((k : ℕ) → k < i → hinted tags hints k ≡ false → Alone os n k) → (hinted tags hints i ≡ false → Alone os n i) → (k : ℕ) → k < i + 1 → hinted tags hints k ≡ false → Alone os n k
told_more tags hints os n i before this k lt =
    by-test (eqb k i)
    (λ e. let q : k ≡ i = eqb-true k i e in rw q this)
    (λ e. let ne = eqb-false k i e in before k (by-test (ltb k i) (λ y. ltb-true k i y) (λ y. absurd (ne (omega (arith, ltb-false k i y))))))
