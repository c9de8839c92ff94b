-- What the stores of `Events` do to the table, read back: uses by label, trees by name.
-- Assumes nothing.
use Prim.Native.Nat.{ℕ, zero, suc, ◌-◌, ◌≤◌, ◌<◌, suc-le-suc}
use Rattle.std.proofs.Common.{le_of_suc-le-suc, not-suc-le-zero, ap₂, ◌∙◌, get_or-set_same, get_or-set_other}
use Rattle.std.proofs.Math.Nat.{le_trans, add-sub_cancel_left}
use native.Mathlib.Omega.{arith}
use Rattle.std.specs.Prelude.{◌≡◌, Bool, false, length, set, replicate, eqb, leb, ltb}
use Rattle.std.proofs.Math.Path.{refl, sym, ap, subst}
use Rattle.std.proofs.Math.Bool.{true}
use mathlib.Core.List.{List, [], ◌∷◌}
use Rattle.std.proofs.Math.ListN.{get_or}
use Rattle.std.proofs.Math.Seq.{set_split}
use borrow.Author.Tests.{eqb-true, eqb-false, ltb-true, ltb-false, leb-true, le-leb, not-true}
use Rattle.meaning.specs.Octets.{pick, place, place_from, count, any, same, put, cut}
use Rattle.meaning.specs.Card.{Tree, Use, free, Card, with_trees, with_labels, with_label, named, bare, tree_place, tree_of, tree_at, is_branch, is_empty, is_free, use_of, turn, next_free, free_labels, with_last, neighbour_count}
use Rattle.meaning.specs.Events.{set_use, set_label, entered, swept}
use Rattle.meaning.specs.Lists.{get_d-same, by-test, picked, place-finds, get_d-out, same-eq, same_refl, found-put, found-cut, count-put, count_cut, other-put, other_cut, count-other-put, place-only, from-within, from-passes}
use Rattle.promise.specs.Promise.{trees_but, use_but, Untouched}
use Rattle.promise.specs.LiveLaws.{free-eq, upd}
use Rattle.promise.specs.CardLaws.{Proper, AllProper, Tidy}

-- ---- uses

module _ (c : Card) (m : ℕ) (u : Use) (from : c.base ≤ m) (within : m - c.base < length c.labels) where
  pub use-after : (l : ℕ) → use_of l (set_use m u c) ≡ upd (λ (x : ℕ). use_of x c) m u l
  unfolding use_of set_use with_labels
  use-after l =
      by-test (eqb m l)
      (λ e. rw (e, ← eqb-true m l e, le-leb c.base m from) (get_or-set_same c.labels (m - c.base) u free within))
      (λ e. rw e (by-test (leb c.base l)
      (λ k. let low = leb-true c.base l k in
      rw k (get_or-set_other c.labels (m - c.base) (l - c.base) u free (λ z. eqb-false m l e (omega arith))))
      (λ k. rw k refl)))

-- a label in use is of the block
pub in_block : (c : Card) (m : ℕ) → is_free (use_of m c) ≡ false → (c.base ≤ m) × (m - c.base < length c.labels)
unfolding use_of is_free
in_block c m e =
    by-test (leb c.base m)
    (λ k. (
      leb-true _ _ k,
      by-test (ltb (m - c.base) (length c.labels))
          (λ h. ltb-true _ _ h)
          (λ h. let z : true ≡ false = sym (ap is_free (get_d-out c.labels (m - c.base) free (ltb-false _ _ h))) ∙ (rw k at e) in absurd (let z' : ◌≡◌ {A = ℕ} 0 1 = cc in omega arith)),
    ))
    (λ k. absurd (let z : true ≡ false = rw k at e in let z' : ◌≡◌ {A = ℕ} 0 1 = cc in omega arith))

-- the next free label is of the block, and free
module _ (c : Card) (some-free : 0 < free_labels c) where
  pub next-within : next_free c - c.base < length c.labels
  unfolding next_free free_labels
  next-within = rw (add-sub_cancel_left c.base (place_from is_free (turn c) c.labels)) (from-within is_free (turn c) c.labels some-free)

  pub next-use : is_free (get_or c.labels (next_free c - c.base) free) ≡ true
  unfolding next_free free_labels
  next-use = rw (add-sub_cancel_left c.base (place_from is_free (turn c) c.labels)) (from-passes is_free (turn c) c.labels some-free free)

  pub next-from : c.base ≤ next_free c
  unfolding next_free
  next-from = omega arith

  pub next-free : use_of (next_free c) c ≡ free
  unfolding use_of
  next-free = rw (le-leb c.base (next_free c) next-from) (free-eq _ next-use)

proper-at : (l : List Tree) (i : ℕ) (d : Tree) → AllProper l → i < length l → Proper (get_or l i d)
unfolding AllProper
proper-at [] i d p h = absurd (not-suc-le-zero h)
proper-at (t ∷ l) zero d p h = p.0
proper-at (t ∷ l) (suc i) d p h = proper-at l i d p.1 (le_of_suc-le-suc h)

sized-get_d : (l : List Tree) (i : ℕ) (d : Tree) → AllProper l → length d.branches ≡ neighbour_count → length (get_or l i d).branches ≡ neighbour_count
unfolding AllProper Proper
sized-get_d [] i d s h = h
sized-get_d (t ∷ l) zero d s h = s.0.0
sized-get_d (t ∷ l) (suc i) d s h = sized-get_d l i d s.1 h

proper-put : (l : List Tree) (i : ℕ) (t : Tree) → AllProper l → Proper t → AllProper (put l i t)
unfolding AllProper put
proper-put [] zero t s h = (h, tt)
proper-put [] (suc i) t s h = (h, tt)
proper-put (y ∷ l) zero t s h = (h, s.1)
proper-put (y ∷ l) (suc i) t s h = (s.0, proper-put l i t s.1 h)

proper-cut : (l : List Tree) (i : ℕ) → AllProper l → AllProper (cut l i)
unfolding AllProper cut
proper-cut [] zero s = tt
proper-cut [] (suc i) s = tt
proper-cut (y ∷ l) zero s = s.1
proper-cut (y ∷ l) (suc i) s = (s.0, proper-cut l i s.1)

pub tree-sized : (a : List ℕ) (c : Card) → Tidy c.trees → length (tree_of a c).branches ≡ neighbour_count
unfolding tree_of bare
tree-sized a c d = sized-get_d c.trees (tree_place a c) (bare a) d.proper refl

pub at-proper : (c : Card) (i : ℕ) → Tidy c.trees → i < length c.trees → Proper (tree_at i c)
unfolding tree_at
at-proper c i d h = proper-at c.trees i (bare []) d.proper h

pub tree-name : (a : List ℕ) (c : Card) → (tree_of a c).name ≡ a
unfolding tree_of tree_place bare named
tree-name a c =
    by-test (ltb (tree_place a c) (length c.trees))
    (λ e. same-eq _ a (place-finds (named a) c.trees (bare a) (ltb-true _ _ e)))
    (λ e. ap (λ (x : Tree). x.name) (get_d-out c.trees (tree_place a c) (bare a) (ltb-false _ _ e)))

named-apart : (a b : List ℕ) → same a b ≡ false → (x : Tree) → named a x ≡ true → named b x ≡ false
unfolding named
named-apart a b d x e = rw (same-eq x.name a e) d

-- a tree t put in the place of the tree of its name
module _ (ts : List Tree) (d : Tidy ts) (a : List ℕ) (t : Tree) (its : t.name ≡ a) where
  own-test : named a t ≡ true
  unfolding named
  own-test = rw its (same_refl a)

  abbrev after : List Tree
  after = put ts (place (named a) ts) t

  put-tidy : Proper t → Tidy (put ts (place (named a) ts) t)
  put-tidy ok = record {
    once = λ b. by-test (same a b)
        (λ k. subst (λ (x : List ℕ). count (named x) (put ts (place (named a) ts) t) ≤ 1) (same-eq a b k) (count-put (named a) ts t (d.once a)))
        (λ k. rw (count-other-put (named a) (named b) (named-apart a b k) ts t (named-apart a b k t own-test)) (d.once b));
    proper = proper-put ts (place (named a) ts) t d.proper ok;
  }

  put-own : get_or after (place (named a) after) (bare a) ≡ t
  put-own = found-put (named a) ts t (bare a) own-test

  put_other : (b : List ℕ) → same a b ≡ false → get_or after (place (named b) after) (bare b) ≡ get_or ts (place (named b) ts) (bare b)
  put_other b n = other-put (named a) (named b) (named-apart a b n) ts t (bare b) (named-apart a b n t own-test)

-- by name, the trees after it
pub entered-is : (c : Card) (d : Tidy c.trees) (t : Tree) (b : List ℕ) → tree_of b (entered c t) ≡ pick (same t.name b) t (tree_of b c)
unfolding tree_of tree_place entered with_trees
entered-is c d t b =
    let a : List ℕ = t.name in
    by-test (same a b)
    (λ k. rw k (subst (λ (x : List ℕ). get_or (put c.trees (place (named a) c.trees) t) (place (named x) (put c.trees (place (named a) c.trees) t)) (bare x) ≡ t) (same-eq a b k) (put-own c.trees d a t refl)))
    (λ k. rw k (put_other c.trees d a t refl b k))

pub entered-tidy : (c : Card) (d : Tidy c.trees) (t : Tree) → Proper t → Tidy (entered c t).trees
unfolding entered with_trees tree_place
entered-tidy c d t h = put-tidy c.trees d t.name t refl h

pub put-within {ℓ} : {A : Type ℓ} (t : A → Bool) (l : List A) (x : A) → place t l < length (put l (place t l) x)
unfolding place put
put-within t [] x = omega arith
put-within t (y ∷ l) x = by-test (t y) (λ e. rw e (omega arith)) (λ e. rw e (suc-le-suc (put-within t l x)))

-- the tree at a place is that of its name
module _ (c : Card) (d : Tidy c.trees) (i : ℕ) (h : i < length c.trees) where
  pub at_place : tree_place (tree_at i c).name c ≡ i
  unfolding tree_place tree_at named
  at_place = place-only (named (tree_at i c).name) c.trees i (bare []) h (same_refl _) (d.once (tree_at i c).name)

  pub at_named : tree_of (tree_at i c).name c ≡ tree_at i c
  unfolding tree_of
  at_named = rw at_place (unfold tree_at in get_d-same c.trees i (bare (tree_at i c).name) (bare []) h)

  set-is-put : (t : Tree) → set c.trees i t ≡ put c.trees (place (named (tree_at i c).name) c.trees) t
  unfolding put
  set-is-put t =
      let p : place (named (tree_at i c).name) c.trees ≡ i = unfold tree_place in at_place in
      set_split c.trees i t h ∙ ap (λ (k : ℕ). put c.trees k t) (sym p)

  -- by name, the trees after the label of this one has changed
  pub labelled-is : (x : ℕ) (b : List ℕ) → tree_of b (set_label i x c) ≡ pick (same (tree_at i c).name b) (with_label x (tree_of b c)) (tree_of b c)
  labelled-is x b =
      let step : tree_of b (entered c (with_label x (tree_at i c))) ≡ pick (same (tree_at i c).name b) (with_label x (tree_at i c)) (tree_of b c) = unfold with_label in entered-is c d (with_label x (tree_at i c)) b in
      entry
      ∙ step
      ∙ by-test (same (tree_at i c).name b)
      (λ k. rw k (ap (with_label x) (sym at_named ∙ ap (λ (y : List ℕ). tree_of y c) (same-eq _ b k))))
      (λ k. rw k refl)
    where
      entry : tree_of b (set_label i x c) ≡ tree_of b (entered c (with_label x (tree_at i c)))
      entry = unfold tree_of tree_place set_label entered with_trees with_label in rw (set-is-put (with_label x (tree_at i c)))

  pub labelled-tidy : (x : ℕ) → Tidy (set_label i x c).trees
  unfolding set_label with_trees with_label
  labelled-tidy x = rw (set-is-put (with_label x (tree_at i c))) (put-tidy c.trees d (tree_at i c).name _ refl (unfold Proper with_label in at-proper c i d h))

  -- and by place
  pub labelled-at : (x j : ℕ) → tree_at j (set_label i x c) ≡ pick (eqb i j) (with_label x (tree_at j c)) (tree_at j c)
  unfolding tree_at set_label with_trees
  labelled-at x j =
      by-test (eqb i j)
      (λ e. rw (e, ← eqb-true i j e) (get_or-set_same c.trees i _ (bare []) h))
      (λ e. rw e (get_or-set_other c.trees i j _ (bare []) (λ z. eqb-false i j e (sym z))))

-- ---- an empty tree goes

zeros : (bs : List ℕ) → any is_branch bs ≡ false → bs ≡ replicate (length bs) 0
unfolding any is_branch
zeros [] h = refl
zeros (b ∷ bs) h =
    by-test (ltb 0 b)
    (λ e. let z : true ≡ false = rw e at h in cc)
    (λ e. ap₂ ◌∷◌ (let k = ltb-false 0 b e in omega arith) (zeros bs (rw e at h)))

-- an empty tree without a label is a bare one
pub empty-bare : (t : Tree) → length t.branches ≡ neighbour_count → is_empty t ≡ true → t.label ≡ 0 → t ≡ bare t.name
unfolding is_empty bare
empty-bare t h e z =
    by-test (any is_branch t.branches)
    (λ k. let z : false ≡ true = rw k at e in cc)
    (λ k. let none : t.branches ≡ replicate neighbour_count 0 = zeros t.branches k ∙ ap (λ (n : ℕ). replicate n 0) h in
    let no-leaf : t.leaf ≡ false = not-true t.leaf (rw k at e) in
    λ i. record { name = t.name; branches = none i; leaf = no-leaf i; label = z i })

module _ (c : Card) (d : Tidy c.trees) (i : ℕ) (h : i < length c.trees) (bare-label : is_empty (tree_at i c) ≡ true → (tree_at i c).label ≡ 0) where
  cut-is : (b : List ℕ) → is_empty (tree_at i c) ≡ true → tree_of b (with_trees (cut c.trees i) c) ≡ tree_of b c
  unfolding tree_of tree_place with_trees
  cut-is b e =
      let a : List ℕ = (tree_at i c).name in
      let p : i ≡ place (named a) c.trees = sym (unfold tree_place in at_place c d i h) in
      let t-is : tree_of a c ≡ bare a = at_named c d i h ∙ empty-bare (tree_at i c) (unfold Proper in (at-proper c i d h).0) e (bare-label e) in
      rw p (by-test (same a b)
      (λ k. subst (λ (x : List ℕ). get_or (cut c.trees (place (named a) c.trees)) (place (named x) (cut c.trees (place (named a) c.trees))) (bare x) ≡ get_or c.trees (place (named x) c.trees) (bare x)) (same-eq a b k)
      (found-cut (named a) c.trees (bare a) (d.once a) ∙ sym t-is))
      (λ k. other_cut (named a) (named b) (named-apart a b k) c.trees (bare b)))

  -- by name, no tree changes
  pub swept-is : (b : List ℕ) → tree_of b (swept i c) ≡ tree_of b c
  unfolding swept
  swept-is b = picked (λ (x : Card). tree_of b x ≡ tree_of b c) (is_empty (tree_at i c)) (cut-is b) (λ _. refl)

  pub swept-tidy : Tidy (swept i c).trees
  unfolding swept with_trees
  swept-tidy = picked (λ (x : Card). Tidy x.trees) (is_empty (tree_at i c)) (λ _. record { once = λ b. le_trans (count_cut (named b) c.trees i) (d.once b); proper = proper-cut c.trees i d.proper }) (λ _. d)

pub swept-use : (c : Card) (i l : ℕ) → use_of l (swept i c) ≡ use_of l c
unfolding use_of swept with_trees
swept-use c i l = picked (λ (x : Card). use_of l x ≡ use_of l c) (is_empty (tree_at i c)) (λ _. unfold use_of in refl) (λ _. refl)

pub swept-labels : (c : Card) (i : ℕ) → (swept i c).labels ≡ c.labels
unfolding swept with_trees
swept-labels c i = picked (λ (x : Card). x.labels ≡ c.labels) (is_empty (tree_at i c)) (λ _. refl) (λ _. refl)

pub swept-base : (c : Card) (i : ℕ) → (swept i c).base ≡ c.base
unfolding swept with_trees
swept-base c i = picked (λ (x : Card). x.base ≡ c.base) (is_empty (tree_at i c)) (λ _. refl) (λ _. refl)

pub swept-routes : (c : Card) (i : ℕ) → (swept i c).routes ≡ c.routes
unfolding swept with_trees
swept-routes c i = picked (λ (x : Card). x.routes ≡ c.routes) (is_empty (tree_at i c)) (λ _. refl) (λ _. refl)

pub swept-last : (c : Card) (i : ℕ) → (swept i c).last ≡ c.last
unfolding swept with_trees
swept-last c i = picked (λ (x : Card). x.last ≡ c.last) (is_empty (tree_at i c)) (λ _. refl) (λ _. refl)

-- ---- what is left alone

pub untouched-same : (a : List ℕ) (c : Card) → Untouched a c c
untouched-same a c = record { trees = refl; uses = λ l. refl }

pub untouched-then : (a : List ℕ) (c d e : Card) → Untouched a c d → Untouched a d e → Untouched a c e
untouched-then a c d e p q = record { trees = q.trees ∙ p.trees; uses = λ l. q.uses l ∙ p.uses l }

pub untouched-last : (a : List ℕ) (c d : Card) (l : ℕ) → Untouched a c d → Untouched a c (with_last l d)
unfolding with_last use_of
untouched-last a c d l u = record { trees = u.trees; uses = λ k. unfold use_of in u.uses k }

-- a tree named a comes, changes, or goes
but-put : (a : List ℕ) (ts : List Tree) (t : Tree) → named a t ≡ true → trees_but a (put ts (place (named a) ts) t) ≡ trees_but a ts
unfolding trees_but place put
but-put a [] t h = rw h refl
but-put a (x ∷ ts) t h =
    by-test (named a x)
    (λ e. rw e (rw h refl))
    (λ e. rw e (rw e (ap (λ (l : List Tree). x ∷ l) (but-put a ts t h))))

but-set : (a : List ℕ) (ts : List Tree) (i : ℕ) (d t : Tree) → named a (get_or ts i d) ≡ true → named a t ≡ true → trees_but a (set ts i t) ≡ trees_but a ts
unfolding trees_but
but-set a [] i d t h k = refl
but-set a (x ∷ ts) zero d t h k = rw (h, k) refl
but-set a (x ∷ ts) (suc i) d t h k = rw (but-set a ts i d t h k) refl

but-cut : (a : List ℕ) (ts : List Tree) (i : ℕ) (d : Tree) → named a (get_or ts i d) ≡ true → trees_but a (cut ts i) ≡ trees_but a ts
unfolding trees_but cut
but-cut a [] zero d h = refl
but-cut a [] (suc i) d h = refl
but-cut a (x ∷ ts) zero d h = rw h refl
but-cut a (x ∷ ts) (suc i) d h = rw (but-cut a ts i d h) refl

own_name : (a : List ℕ) (t : Tree) → t.name ≡ a → named a t ≡ true
unfolding named
own_name a t e = rw e (same_refl a)

found-but : (a b : List ℕ) → same a b ≡ false → (ts : List Tree) → get_or (trees_but a ts) (place (named b) (trees_but a ts)) (bare b) ≡ get_or ts (place (named b) ts) (bare b)
unfolding trees_but place
found-but a b n [] = refl
found-but a b n (t ∷ ts) =
    by-test (named a t)
    (λ e. rw (e, named-apart a b n t e) (found-but a b n ts))
    (λ e. rw e (by-test (named b t) (λ k. rw k refl) (λ k. rw k (found-but a b n ts))))

pub entered-untouched : (c : Card) (t : Tree) → Untouched t.name c (entered c t)
unfolding entered with_trees tree_place use_of
entered-untouched c t = record { trees = but-put t.name c.trees t (own_name t.name t refl); uses = λ l. refl }

pub labelled-untouched : (c : Card) (i x : ℕ) → Untouched (tree_at i c).name c (set_label i x c)
unfolding set_label with_trees use_of
labelled-untouched c i x = record { trees = but-set (tree_at i c).name c.trees i (bare []) (with_label x (tree_at i c)) (own_name _ _ (unfold tree_at in refl)) (labelled-own (tree_at i c)); uses = λ l. refl }
  where
    labelled-own : (t : Tree) → named t.name (with_label x t) ≡ true
    labelled-own t = unfold with_label in own_name t.name (with_label x t) refl

pub swept-untouched : (c : Card) (i : ℕ) → Untouched (tree_at i c).name c (swept i c)
unfolding swept
swept-untouched c i =
    picked (Untouched (tree_at i c).name c) (is_empty (tree_at i c))
    (λ _. unfold with_trees use_of in record { trees = but-cut (tree_at i c).name c.trees i (bare []) (own_name _ _ (unfold tree_at in refl)); uses = λ l. refl })
    (λ _. untouched-same _ c)

-- a label of a's changes its use
pub used-untouched : (a : List ℕ) (c : Card) (m : ℕ) (u : Use) → c.base ≤ m → m - c.base < length c.labels → use_but a u ≡ use_but a (use_of m c) → Untouched a c (set_use m u c)
used-untouched a c m u from within e = record {
  trees = unfold set_use with_labels in refl;
  uses = λ l. ap (use_but a) (use-after c m u from within l) ∙ by-test (eqb m l)
      (λ k. rw k (e ∙ ap (λ (x : ℕ). use_but a (use_of x c)) (eqb-true m l k)))
      (λ k. rw k refl);
}

-- by name: every other tree's entry is as it was
pub untouched-tree : (a : List ℕ) (c d : Card) → Untouched a c d → (b : List ℕ) → same a b ≡ false → tree_of b d ≡ tree_of b c
unfolding tree_of tree_place
untouched-tree a c d u b n = sym (found-but a b n d.trees) ∙ ap (λ (ts : List Tree). get_or ts (place (named b) ts) (bare b)) u.trees ∙ found-but a b n c.trees
