-- The table's rules: a tree stands while it has a branch or a leaf, and holds a label exactly while its root's route is a neighbour and it has a leaf or a branch from another; its sizes.
-- Assumes nothing.
use Rattle.std.specs.Prelude.{ℕ, zero, suc, ◌≤◌, ◌<◌, ◌≡◌, Bool, true, false, get_or, length, set, eqb, ltb}
use Rattle.std.proofs.Common.{suc-le-suc, zero-le, le_of_suc-le-suc, not-suc-le-zero, le_trans, arith, ◌∙◌, ap₂, length-append, length-take, length-drop}
use Rattle.std.proofs.Math.Path.{refl, sym, ap, subst}
use mathlib.Core.List.{List, [], ◌∷◌}
use borrow.Author.Tests.{eqb-true, eqb-false, ltb-true, ltb-false, leb-false}
use Rattle.meaning.specs.Octets.{pick, place, count, any, same, put, cut}
use Rattle.meaning.specs.Wire.{root_in}
use Rattle.meaning.specs.Card.{Tree, Route, free, Card, no_route, nobody, with_routes, with_trees, with_label, route_limit, is_for, route_place, route_of, bare, tree_place, tree_of, tree_at, is_branch, is_empty, not_held, leads_on, mapped_to, use_of, held_for, free_labels, no_entry, neighbour_count}
use Rattle.meaning.specs.Events.{upstream, holder, holder_of, swept, of_root, move_all, need_all, routes_with, routes_full, total, in_root, worked_out, entry_with}
use Rattle.meaning_laws.specs.Standing.{standing-at, not-standing}
use Rattle.promise.specs.Promise.{Given}
use Rattle.meaning.specs.Lists.{by-test, same-eq, same_refl, same-flip, get_d-out, found-put, found-cut, other-put, other_cut, count-put, count_cut, count-other-put}
use Rattle.meaning_laws.specs.Counts.{any-set-zero, empty-leads, plains, plain-route}
use Rattle.promise.specs.CardLaws.{shape}
use Rattle.promise.specs.CountLaws.{Tally, found}
use Rattle.promise.proofs.CountLaws.{same-shapes, routed-true, counted_of}
use Rattle.promise.specs.LabelLaws.{Sound, Kept}
use Rattle.promise.proofs.LabelLaws.{all-kept, all_held, shape-name}
use Rattle.promise.specs.RuleLaws.{Ruled}

pub shape-empty : (t s : Tree) → shape t ≡ shape s → is_empty t ≡ is_empty s
unfolding is_empty shape with_label
shape-empty t s e = ap (λ (x : Tree). is_empty x) e

pub shape-holder : (u : ℕ) (t s : Tree) → shape t ≡ shape s → holder u t ≡ holder u s
unfolding holder leads_on not_held shape with_label
shape-holder u t s e = ap (λ (x : Tree). holder u x) e

-- for whom a tree is to hold a label depends on the routes, not on their counts, and on all of the tree but its label
pub holder-same : (c d : Card) (t s : Tree) → plains c.routes ≡ plains d.routes → shape t ≡ shape s → holder_of c t ≡ holder_of d s
unfolding holder_of
holder-same c d t s e k = ap₂ (λ (a : List ℕ) (x : Tree). holder (upstream (route_of (root_in a) c)) x) (shape-name t s k) refl ∙ ap (λ (v : ℕ). holder (upstream v) t) (plain-route c d e (root_in s.name)) ∙ shape-holder _ t s k

pub bare-empty : (a : List ℕ) → is_empty (bare a) ≡ true
unfolding is_empty bare any is_branch
bare-empty a = refl

bare-held : (c : Card) (a : List ℕ) → use_of 0 c ≡ free → held_for c (bare a) ≡ nobody
unfolding held_for bare mapped_to
bare-held c a z = ap mapped_to z

-- ---- an empty tree leads nowhere, and holds no label

pub any-set-two : (bs : List ℕ) (n u : ℕ) → any is_branch (set bs u 0) ≡ false → any is_branch (set (set bs n 0) u 0) ≡ false
unfolding any is_branch
any-set-two [] n u h = refl
any-set-two (b ∷ bs) zero zero h = h
any-set-two (b ∷ bs) zero (suc u) h = by-test (ltb 0 b) (λ e. let z : true ≡ false = rw e at h in cc) (λ e. rw e at h)
any-set-two (b ∷ bs) (suc n) zero h = any-set-zero bs n h
any-set-two (b ∷ bs) (suc n) (suc u) h = by-test (ltb 0 b) (λ e. let z : true ≡ false = rw e at h in cc) (λ e. rw e (any-set-two bs n u (rw e at h)))

pub empty-asked : (c : Card) (t : Tree) → is_empty t ≡ true → holder_of c t ≡ nobody
unfolding holder_of holder
empty-asked c t e = rw (empty-leads _ t e) refl

bare-asked : (c : Card) (a : List ℕ) → holder_of c (bare a) ≡ nobody
bare-asked c a = empty-asked c (bare a) (bare-empty a)

-- by name
pub held-named : (c : Card) (gs : List Given) → Sound c gs → Ruled c → (a : List ℕ) → held_for c (tree_of a c) ≡ holder_of c (tree_of a c)
held-named c gs S R a =
    by-test (ltb (tree_place a c) (length c.trees))
    (λ e. rw (standing-at c a (ltb-true _ _ e)) (R.held (tree_place a c) (ltb-true _ _ e)))
    (λ e. rw (not-standing c a (ltb-false _ _ e)) (bare-held c a S.linked.zero-free ∙ sym (bare-asked c a)))

-- ---- sizes after `put` and `cut`

pub put_in {ℓ} : {A : Type ℓ} (l : List A) (i : ℕ) (x : A) → i < length l → length (put l i x) ≡ length l
unfolding put
put_in l i x h = simp (length-append, length-take, length-drop) (omega arith)

pub put-more {ℓ} : {A : Type ℓ} (l : List A) (i : ℕ) (x : A) → length (put l i x) ≤ suc (length l)
unfolding put
put-more l i x = simp (length-append, length-take, length-drop) (omega arith)

pub cut_in {ℓ} : {A : Type ℓ} (l : List A) (i : ℕ) → i < length l → suc (length (cut l i)) ≡ length l
unfolding cut
cut_in l i h = simp (length-append, length-take, length-drop) (omega arith)

cut-less {ℓ} : {A : Type ℓ} (l : List A) (i : ℕ) → length (cut l i) ≤ length l
unfolding cut
cut-less l i = simp (length-append, length-take, length-drop) (omega arith)

-- ---- the route order

root-apart : (r q : List ℕ) → same r q ≡ false → (x : Route) → is_for r x ≡ true → is_for q x ≡ false
unfolding is_for
root-apart r q n x e = rw (same-eq x.root r e) n

own-for : (c : Card) (r : List ℕ) (via : ℕ) → is_for r (entry_with c r via) ≡ true
unfolding is_for entry_with
own-for c r via = same_refl r

module _ (c : Card) (gs : List Given) (S : Sound c gs) (R : Ruled c) (r : List ℕ) (via : ℕ) (near : eqb (upstream via) nobody ≡ false → upstream via < neighbour_count) (enough : need_all r (upstream via) c ≤ free_labels c) where
  abbrev pub routed : Card
  routed = with_routes (routes_with c r via) (move_all r (upstream via) c).card

  pub own-route : route_of r routed ≡ via
  unfolding route_of route_place routes_with entry_with with_routes
  own-route =
      by-test (eqb via no_route)
      (λ e. rw e (ap (λ (x : Route). x.via) (found-cut (is_for r) c.routes (no_entry r) (R.roots r)) ∙ sym (eqb-true via no_route e)))
      (λ e. rw e (ap (λ (x : Route). x.via) (found-put (is_for r) c.routes (entry_with c r via) (no_entry r) (own-for c r via))))

  pub other-route : (q : List ℕ) → same r q ≡ false → route_of q routed ≡ route_of q c
  unfolding route_of route_place routes_with with_routes
  other-route q n =
      by-test (eqb via no_route)
      (λ e. rw e (ap (λ (x : Route). x.via) (other_cut (is_for r) (is_for q) (root-apart r q n) c.routes (no_entry q))))
      (λ e. rw e (ap (λ (x : Route). x.via) (other-put (is_for r) (is_for q) (root-apart r q n) c.routes (entry_with c r via) (no_entry q) (root-apart r q n _ (own-for c r via)))))

  new-roots : (q : List ℕ) → count (is_for q) (routes_with c r via) ≤ 1
  unfolding routes_with route_place
  new-roots q =
      by-test (eqb via no_route)
      (λ e. rw e (le_trans (count_cut (is_for q) c.routes _) (R.roots q)))
      (λ e. rw e (by-test (same r q)
      (λ k. subst (λ (x : List ℕ). count (is_for x) (put c.routes (place (is_for r) c.routes) (entry_with c r via)) ≤ 1) (same-eq r q k) (count-put (is_for r) c.routes _ (R.roots r)))
      (λ k. rw (count-other-put (is_for r) (is_for q) (root-apart r q k) c.routes (entry_with c r via) (root-apart r q k _ (own-for c r via))) (R.roots q))))

  -- a root with a route has its place
  placed : eqb (route_of r c) no_route ≡ false → route_place r c < length c.routes
  unfolding route_of
  placed e =
      by-test (ltb (route_place r c) (length c.routes))
      (λ k. ltb-true _ _ k)
      (λ k. absurd (eqb-false _ _ e (ap (λ (x : Route). x.via) (get_d-out c.routes (route_place r c) (no_entry r) (ltb-false _ _ k)))))

  few-routes : routes_full c r via ≡ false → length (routes_with c r via) ≤ route_limit
  unfolding routes_full routes_with
  few-routes full =
      by-test (eqb via no_route)
      (λ e. rw e (omega (arith, cut-less c.routes (route_place r c), R.routes)))
      (λ e. rw e (by-test (eqb (route_of r c) no_route)
      (λ k. let left = leb-false route_limit (length c.routes) (rw (k, e) at full) in omega (arith, put-more c.routes (route_place r c) (entry_with c r via)))
      (λ k. rw (put_in c.routes (route_place r c) (entry_with c r via) (placed k)) R.routes)))

  moved-now : Kept c gs (move_all r (upstream via) c)
  moved-now = all-kept r (upstream via) near c gs S enough

  asked : (j : ℕ) → j < length c.trees → pick (of_root r (tree_at j c)) (holder (upstream via) (tree_at j c)) (held_for c (tree_at j c)) ≡ holder_of routed (tree_at j c)
  unfolding holder_of of_root
  asked j k =
      by-test (same (root_in (tree_at j c).name) r)
      (λ e. rw e (ap (λ (q : ℕ). holder (upstream q) (tree_at j c)) (sym (ap (λ (q : List ℕ). route_of q routed) (same-eq _ r e) ∙ own-route))))
      (λ e. rw e (R.held j k ∙ unfold holder_of in ap (λ (q : ℕ). holder (upstream q) (tree_at j c)) (sym (other-route _ (same-flip _ r e)))))

  within : (j : ℕ) → j < length routed.trees → j < length c.trees
  unfolding with_routes
  within j h = rw moved-now.size at h

  at_same : (j : ℕ) → shape (tree_at j routed) ≡ shape (tree_at j c)
  unfolding with_routes tree_at
  at_same j = moved-now.at j

  held_same : (j : ℕ) → held_for routed (tree_at j routed) ≡ held_for (move_all r (upstream via) c).card (tree_at j (move_all r (upstream via) c).card)
  unfolding held_for with_routes tree_at use_of
  held_same j = refl

  pub route-ruled : routes_full c r via ≡ false → Ruled routed
  route-ruled full = record {
    roots = unfold with_routes in new-roots;
    full = λ j h. shape-empty _ _ (at_same j) ∙ R.full j (within j h);
    held = λ j h. held_same j ∙ all_held r (upstream via) near c gs S enough j (within j h) ∙ asked j (within j h) ∙ holder-same routed routed (tree_at j c) (tree_at j routed) refl (sym (at_same j));
    trees = unfold with_routes in rw moved-now.size R.trees;
    routes = unfold with_routes in few-routes full;
    counts = counted_of routed true-now;
  }
    where
      true-now : (get : Route → ℕ) (w : Tree → ℕ) → Tally get w → (q : List ℕ) → get (found q (worked_out routed.trees (no_entry q)) routed.routes) ≡ total (in_root q w) routed.trees
      true-now get w T q = unfold with_routes in routed-true get w T c r via (R.roots r) (move_all r (upstream via) c).card.trees (λ x. same-shapes get w T x _ c.trees moved-now.size (unfold tree_at in moved-now.at)) (λ x. T.counted c x (R.counts x)) q

-- ---- places after `put` and `cut`

pub put-other-at {ℓ} : {A : Type ℓ} (t : A → Bool) (l : List A) (x d : A) (k : ℕ) → (place t l ≡ k → ⊥) → k < length (put l (place t l) x) → (get_or (put l (place t l) x) k d ≡ get_or l k d) × (k < length l)
unfolding place put
put-other-at t [] x d zero n h = absurd (n refl)
put-other-at t [] x d (suc k) n h = absurd (not-suc-le-zero (le_of_suc-le-suc h))
put-other-at t (y ∷ l) x d zero n h =
    by-test (t y)
    (λ e. absurd ((rw e at n) refl))
    (λ e. rw e (refl, suc-le-suc zero-le))
put-other-at t (y ∷ l) x d (suc k) n h =
    by-test (t y)
    (λ e. rw e (refl, rw e at h))
    (λ e. let n' : suc (place t l) ≡ suc k → ⊥ = rw e at n in
    let r = put-other-at t l x d k (λ z. n' (ap suc z)) (le_of_suc-le-suc (rw e at h)) in
    rw e (r.0, suc-le-suc r.1))

-- what stands after a cut stood before it, at another place
pub cut_at {ℓ} : {A : Type ℓ} (l : List A) (i j : ℕ) (d : A) → j < length (cut l i) → (k : ℕ) × (i ≡ k → ⊥) × (k < length l) × (get_or (cut l i) j d ≡ get_or l k d)
unfolding cut
cut_at [] zero j d h = absurd (not-suc-le-zero h)
cut_at [] (suc i) j d h = absurd (not-suc-le-zero h)
cut_at (y ∷ l) zero j d h = (suc j, (λ e. omega arith), suc-le-suc h, refl)
cut_at (y ∷ l) (suc i) zero d h = (0, (λ e. omega arith), suc-le-suc zero-le, refl)
cut_at (y ∷ l) (suc i) (suc j) d h = let r = cut_at l i j d (le_of_suc-le-suc h) in (suc r.0, (λ e. r.1 (omega arith)), suc-le-suc r.2, r.3)

-- ---- an empty tree goes

-- every place after the sweep was a place before it; and the swept place itself is only left where its tree is not empty
pub swept_at : (c : Card) (i j : ℕ) → j < length (swept i c).trees
    → (k : ℕ) × (k < length c.trees) × (tree_at j (swept i c) ≡ tree_at k c) × (i ≡ k → is_empty (tree_at k c) ≡ false)
unfolding swept tree_at with_trees
swept_at c i j h =
    by-test (is_empty (get_or c.trees i (bare [])))
    (λ e. let h' : j < length (cut c.trees i) = rw e at h in
    let r = cut_at c.trees i j (bare []) h' in
    rw e (r.0, r.2, r.3, (λ z. absurd (r.1 z))))
    (λ e. rw e (j, (rw e at h), refl, (λ z. subst (λ (x : ℕ). is_empty (get_or c.trees x (bare [])) ≡ false) z e)))
