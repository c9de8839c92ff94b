-- The table without all that a lost neighbour had: its labels' uses, the trees, the routes, and the live labels with them.
-- Assumes nothing.
use Prim.Native.Nat.{ℕ, suc, ◌+◌, ◌-◌, ◌≤◌, ◌<◌, zero-le}
use Rattle.std.proofs.Math.Nat.{le_of_suc-le-suc}
use Rattle.std.proofs.Common.{le_refl, le_trans, sym, ◌∙◌, subst}
use native.Mathlib.Omega.{arith}
use Rattle.std.specs.Prelude.{◌≡◌, Bool, get_or, eqb, leb}
use Rattle.std.proofs.Math.Path.{refl, ap}
use Rattle.std.proofs.Math.Bool.{true, false}
use mathlib.Core.List.{List, [], ◌∷◌}
use Rattle.std.proofs.Math.ListN.{length}
use borrow.Author.Tests.{eqb-true, eqb-false, eq-eqb, ne_eqb, le-leb, lt-leb, leb-true, leb-false}
use Rattle.meaning.specs.Octets.{pick, place, count}
use Rattle.meaning.specs.Wire.{element_refusal}
use Rattle.meaning.specs.Card.{Tree, Route, Use, free, mapped, awaiting, Card, no_route, no_entry, with_routes, with_trees, with_labels, with_branch, with_label, is_for, route_place, route_of, tree_of, is_free, mapped_to, use_of, held_for, free_labels, neighbour_count, nobody}
use Rattle.meaning.specs.Events.{is_of, freed_of, tree_without, trees_without, recounted_without, routes_without, parted}
use Rattle.meaning.specs.Lists.{by-test, picked, found_none, never}
use Rattle.meaning_laws.specs.Losses.{freed-free, uses-length, parted-use, without-name, without-size, trees-count, parted-tree}
use Rattle.meaning_laws.specs.Counts.{plains, plain-count, plain-route, without-plain}
use Rattle.promise.specs.Promise.{Given, of_label, without}
use Rattle.promise.specs.LiveLaws.{is_mapped, stray, Linked, linked-eq, only, givens, Books, books-eq}
use Rattle.promise.specs.CardLaws.{shape, Proper, AllProper, Tidy}
use Rattle.promise.specs.LabelLaws.{Sound}
use Rattle.promise.proofs.LabelLaws.{spent-eq}
use Rattle.promise.specs.PartedLaws.{besides, use_in}

-- ---- one use

module _ (n : ℕ) where
  -- a label that is still mapped was mapped, and not to n
  freed-mapped : (a : List ℕ) (u : Use) → is_mapped a (freed_of n u) ≡ true → (is_mapped a u ≡ true) × (mapped_to u ≡ n → ⊥)
  unfolding is_mapped freed_of is_of mapped_to
  freed-mapped a free e = absurd (never e)
  freed-mapped a (mapped k b) e = by-test (eqb k n) (λ t. absurd (never (rw t at e))) (λ t. ((rw t at e), eqb-false k n t))
  freed-mapped a (awaiting k b) e = by-test (eqb k n) (λ t. absurd (never (rw t at e))) (λ t. absurd (never (rw t at e)))

  -- one that is mapped to another stays as it is
  freed-stays : (a : List ℕ) (u : Use) → (mapped_to u ≡ n → ⊥) → is_mapped a u ≡ true → is_mapped a (freed_of n u) ≡ true
  unfolding is_mapped freed_of is_of mapped_to
  freed-stays a free d e = absurd (never e)
  freed-stays a (mapped k b) d e = rw (ne_eqb k n d) e
  freed-stays a (awaiting k b) d e = absurd (never e)

  -- none is mapped to n
  pub freed-none : n < neighbour_count → (u : Use) → mapped_to (freed_of n u) ≡ n → ⊥
  unfolding freed_of is_of mapped_to
  freed-none near free z = omega arith
  freed-none near (mapped k b) z = by-test (eqb k n) (λ t. let z' : nobody ≡ n = rw t at z in omega arith) (λ t. eqb-false k n t (rw t at z))
  freed-none near (awaiting k b) z = by-test (eqb k n) (λ t. let z' : nobody ≡ n = rw t at z in omega arith) (λ t. let z' : nobody ≡ n = rw t at z in omega arith)

  freed-real : (u : Use) → stray u ≡ false → stray (freed_of n u) ≡ false
  unfolding freed_of stray
  freed-real u e = picked (λ (x : Use). stray x ≡ false) (is_of n u) (λ _. refl) (λ _. e)

-- ---- trees and labels

pub parted-linked : (lab : List ℕ → ℕ) (U : ℕ → Use) → Linked lab U → (n : ℕ) → Linked (λ a. pick (eqb (mapped_to (U (lab a))) n) 0 (lab a)) (λ l. freed_of n (U l))
parted-linked lab U L n = record {
  zero-free = ap (freed_of n) L.zero-free ∙ freed-free n;
  real = λ l. freed-real n (U l) (L.real l);
  own = λ a nz. by-test (eqb (mapped_to (U (lab a))) n)
      (λ e. absurd ((rw e at nz) refl))
      (λ e. rw e (freed-stays n a (U (lab a)) (eqb-false _ _ e) (L.own a (rw e at nz))));
  led = λ a l e. let m = freed-mapped n a (U l) e in
      let its : lab a ≡ l = L.led a l m.0 in
      rw (ne_eqb (mapped_to (U (lab a))) n (λ z. m.1 (ap (λ (k : ℕ). mapped_to (U k)) (sym its) ∙ z))) its;
}

-- ---- live labels

only-without : (n l : ℕ) (gs : List Given) → only l (without n gs) ≡ without n (only l gs)
unfolding only without of_label
only-without n l [] = refl
only-without n l (g ∷ gs) =
    by-test (eqb g.to n)
    (λ k. by-test (eqb g.label l) (λ e. rw (k, e) (rw k (only-without n l gs))) (λ e. rw (k, e) (only-without n l gs)))
    (λ k. by-test (eqb g.label l) (λ e. rw (k, e) (rw k (ap (λ (x : List Given). g ∷ x) (only-without n l gs)))) (λ e. rw (k, e) (only-without n l gs)))

without-givens : (n l : ℕ) (u : Use) → without n (givens l u) ≡ givens l (freed_of n u)
unfolding without givens freed_of is_of
without-givens n l free = refl
without-givens n l (mapped k a) = by-test (eqb k n) (λ e. rw e refl) (λ e. rw e refl)
without-givens n l (awaiting k a) = by-test (eqb k n) (λ e. rw e refl) (λ e. rw e refl)

pub parted-books : (U : ℕ → Use) (gs : List Given) → Books U gs → (n : ℕ) → Books (λ l. freed_of n (U l)) (without n gs)
unfolding Books
parted-books U gs B n l = only-without n l gs ∙ ap (without n) (B l) ∙ without-givens n l (U l)

both-parts : (l : ℕ) (gs : List Given) → length (only l gs) + length (besides l gs) ≡ length gs
unfolding only besides
both-parts l [] = refl
both-parts l (g ∷ gs) = let n = both-parts l gs in by-test (of_label l g) (λ e. rw e (omega arith)) (λ e. rw e (omega arith))

only-besides : (b l : ℕ) (gs : List Given) → only l (besides b gs) ≡ pick (eqb b l) [] (only l gs)
unfolding only besides of_label
only-besides b l [] = picked (λ (x : List Given). [] ≡ x) (eqb b l) (λ _. refl) (λ _. refl)
only-besides b l (g ∷ gs) =
    let later : only l (besides b gs) ≡ pick (eqb b l) [] (only l gs) = only-besides b l gs in
    by-test (eqb g.label b)
    (λ e. by-test (eqb b l)
    (λ k. rw (e, k) (rw k at later))
    (λ k. rw (e, k, ne_eqb g.label l (λ z. eqb-false b l k (sym (eqb-true _ _ e) ∙ z))) (rw k at later)))
    (λ e. by-test (eqb b l)
    (λ k. rw (e, k, ne_eqb g.label l (λ z. eqb-false g.label b e (z ∙ sym (eqb-true _ _ k)))) (rw k at later))
    (λ k. by-test (eqb g.label l) (λ i. rw (e, k, i) (ap (λ (x : List Given). g ∷ x) (rw k at later))) (λ i. rw (e, k, i) (rw k at later))))

use-later : (b : ℕ) (u : Use) (us : List Use) (l : ℕ) → eqb b l ≡ false → use_in b (u ∷ us) l ≡ use_in (suc b) us l
unfolding use_in
use-later b u us l d =
    by-test (leb b l)
    (λ e. let low = leb-true b l e in
    let more : suc b ≤ l = above b l low (eqb-false b l d) in
    let at : l - b ≡ suc (l - suc b) = omega arith in
    rw (e, le-leb (suc b) l more, at) refl)
    (λ e. let high = leb-false b l e in rw (e, lt-leb (suc b) l (omega arith)) refl)
  where
    above : (b l : ℕ) → b ≤ l → (b ≡ l → ⊥) → suc b ≤ l
    above b l h d = omega arith

use-first : (b : ℕ) (u : Use) (us : List Use) → use_in b (u ∷ us) b ≡ u
unfolding use_in
use-first b u us = let at : b - b ≡ 0 = omega arith in rw (le-leb b b (le_refl b), at) refl

use-none : (b : ℕ) (us : List Use) → use_in (suc b) us b ≡ free
unfolding use_in
use-none b us = rw (lt-leb (suc b) b (omega arith)) refl

one-or-none : (l : ℕ) (u : Use) → length (givens l u) + pick (is_free u) 1 0 ≡ 1
unfolding givens is_free
one-or-none l free = refl
one-or-none l (mapped n a) = refl
one-or-none l (awaiting n a) = refl

none_at_all : (gs : List Given) → ((l : ℕ) → only l gs ≡ []) → gs ≡ []
unfolding only of_label
none_at_all [] h = refl
none_at_all (g ∷ gs) h = let z : g ∷ only g.label gs ≡ [] = rw (eq-eqb g.label g.label refl) at (h g.label) in absurd (let z' = ap length z in omega arith)

block-sum : (b : ℕ) (us : List Use) (gs : List Given) → ((l : ℕ) → only l gs ≡ givens l (use_in b us l)) → length gs + count is_free us ≡ length us
unfolding count
block-sum b [] gs h = rw (none_at_all gs (λ l. h l ∙ ap (givens l) (empty l) ∙ nothing-given l)) refl
  where
    empty : (l : ℕ) → use_in b [] l ≡ free
    empty l = unfold use_in in picked (λ (x : Use). x ≡ free) (leb b l) (λ _. refl) (λ _. refl)

    nothing-given : (l : ℕ) → givens l free ≡ []
    nothing-given l = unfold givens in refl
block-sum b (u ∷ us) gs h =
    let rest : length (besides b gs) + count is_free us ≡ length us = block-sum (suc b) us (besides b gs) (λ l. only-besides b l gs ∙ by-test (eqb b l)
    (λ e. rw e (sym (ap (givens l) (subst (λ (x : ℕ). use_in (suc b) us x ≡ free) (eqb-true b l e) (use-none b us)) ∙ unfold givens in refl)))
    (λ e. rw e (h l ∙ ap (givens l) (use-later b u us l e)))) in
    let first : length (only b gs) ≡ length (givens b u) = ap length (h b ∙ ap (givens b) (use-first b u us)) in
    let one : length (givens b u) + pick (is_free u) 1 0 ≡ 1 = one-or-none b u in
    let all : length (only b gs) + length (besides b gs) ≡ length gs = both-parts b gs in
    by-test (is_free u) (λ e. let one' : length (givens b u) + 1 ≡ 1 = rw e at one in rw e (omega arith)) (λ e. let one' : length (givens b u) + 0 ≡ 1 = rw e at one in rw e (omega arith))

pub books-sum : (c : Card) (gs : List Given) → Books (λ l. use_of l c) gs → length gs + free_labels c ≡ length c.labels
unfolding Books use_of free_labels
books-sum c gs B = block-sum c.base c.labels gs (unfold use_in in B)

-- ---- trees

pub without-shape : (n : ℕ) (c : Card) (t : Tree) → shape (tree_without n c t) ≡ shape (with_branch n 0 t)
unfolding tree_without shape with_label with_branch
without-shape n c t = refl

module _ (n : ℕ) (c : Card) where
  trees-proper : (ts : List Tree) → AllProper ts → AllProper (trees_without n c ts)
  unfolding AllProper trees_without Proper
  trees-proper [] p = tt
  trees-proper (t ∷ ts) p = ((without-size n c t ∙ p.0.0, ap element_refusal (without-name n c t) ∙ p.0.1), trees-proper ts p.1)

  parted-tidy : Tidy c.trees → Tidy (parted n c).trees
  unfolding parted with_routes with_trees with_labels
  parted-tidy d = record { once = λ a. rw (trees-count n c a c.trees) (d.once a); proper = trees-proper c.trees d.proper }

-- ---- the table is sound without n

pub parted-sound : (n : ℕ) (c : Card) (gs : List Given) → Sound c gs → Sound (parted n c) (without n gs)
parted-sound n c gs S = record {
  tidy = parted-tidy n c S.tidy;
  low = unfold parted with_routes with_trees with_labels in S.low;
  high = unfold parted with_routes with_trees with_labels in S.high;
  many = many;
  linked = linked-eq _ _ _ _ label_is (parted-use n c) (parted-linked _ _ S.linked n);
  books = books;
  sum = sum;
  last = spent-eq c (parted n c) (unfold parted with_routes with_trees with_labels in refl) (unfold parted with_routes with_trees with_labels in refl) all-free S.last;
}
  where
    many : length (parted n c).labels ≡ 256
    many = unfold parted with_routes with_trees with_labels in uses-length n c.labels ∙ S.many

    label_is : (a : List ℕ) → (tree_of a (parted n c)).label ≡ pick (eqb (mapped_to (use_of (tree_of a c).label c)) n) 0 (tree_of a c).label
    label_is a = ap (λ (t : Tree). t.label) (parted-tree n c a) ∙ unfold tree_without with_label with_branch held_for in refl

    books : Books (λ l. use_of l (parted n c)) (without n gs)
    books = books-eq _ _ _ (parted-use n c) (parted-books _ gs S.books n)

    sum : length (without n gs) + free_labels (parted n c) ≡ 256
    sum = books-sum (parted n c) (without n gs) books ∙ many

    none_left : (gs : List Given) → length gs ≡ 0 → length (without n gs) ≡ 0
    none_left [] z = unfold without in refl
    none_left (g ∷ gs) z = absurd (omega arith)

    all-free : free_labels c ≡ 256 → free_labels (parted n c) ≡ 256
    all-free e = let none = none_left gs (omega (arith, S.sum)) in omega (arith, sum)

-- ---- routes

module _ (n : ℕ) where
  pub routes-fewer : (rs : List Route) → length (routes_without n rs) ≤ length rs
  unfolding routes_without
  routes-fewer [] = zero-le
  routes-fewer (r ∷ rs) = picked (λ (x : List Route). length x ≤ suc (length rs)) (eqb r.via n) (λ _. omega (arith, routes-fewer rs)) (λ _. omega (arith, routes-fewer rs))

  pub roots-fewer : (q : List ℕ) (rs : List Route) → count (is_for q) (routes_without n rs) ≤ count (is_for q) rs
  unfolding count routes_without
  roots-fewer q [] = zero-le
  roots-fewer q (r ∷ rs) =
      let rest = roots-fewer q rs in
      by-test (eqb r.via n)
      (λ e. rw e (le_trans rest (picked (λ (k : ℕ). count (is_for q) rs ≤ k) (is_for q r) (λ _. omega arith) (λ _. omega arith))))
      (λ e. rw e (by-test (is_for q r) (λ k. rw k (omega arith)) (λ k. rw k rest)))

  -- a root's entry without n; where there is none, d
  pub route-found : (q : List ℕ) (d : Route) (rs : List Route) → count (is_for q) rs ≤ 1
      → get_or (routes_without n rs) (place (is_for q) (routes_without n rs)) d ≡ pick (eqb (get_or rs (place (is_for q) rs) d).via n) d (get_or rs (place (is_for q) rs) d)
  unfolding routes_without place count
  route-found q d [] once = picked (λ (x : Route). d ≡ x) (eqb d.via n) (λ _. refl) (λ _. refl)
  route-found q d (r ∷ rs) once =
      by-test (is_for q r)
      (λ f. let none : count (is_for q) rs ≤ 0 = le_of_suc-le-suc (rw f at once) in
      by-test (eqb r.via n)
      (λ e. rw (f, e) (found_none (is_for q) (routes_without n rs) d (le_trans (roots-fewer q rs) none)))
      (λ e. rw (f, e) (rw f refl)))
      (λ f. by-test (eqb r.via n)
      (λ e. rw (f, e) (route-found q d rs (rw f at once)))
      (λ e. rw (f, e) (rw f (route-found q d rs (rw f at once)))))

  -- its routes are those of c without n, but for the counts
  pub parted-route : (c : Card) (q : List ℕ) → count (is_for q) c.routes ≤ 1 → route_of q (parted n c) ≡ pick (eqb (route_of q c) n) no_route (route_of q c)
  unfolding route_of route_place parted with_routes with_trees with_labels
  parted-route c q once =
      let rs : List Route = recounted_without n c.trees c.routes in
      let but : plains rs ≡ plains c.routes = without-plain n c.trees c.routes in
      let via-same : route_of q (with_routes rs c) ≡ route_of q c = plain-route (with_routes rs c) c (unfold with_routes in but) q in
      ap (λ (x : Route). x.via) (route-found q (no_entry q) rs (rw (plain-count rs c.routes but q) once))
      ∙ either (eqb (route_of q (with_routes rs c)) n) (get_or rs (place (is_for q) rs) (no_entry q))
      ∙ ap (λ (v : ℕ). pick (eqb v n) no_route v) via-same
    where
      either : (b : Bool) (x : Route) → (pick b (no_entry q) x).via ≡ pick b no_route x.via
      either true x = refl
      either false x = refl
