-- Labels: those of the lost neighbour are free, and the trees that carried one have none. Assumes nothing.
use Prim.Native.Nat.{ℕ, zero, suc, ◌+◌, ◌*◌, ◌-◌, ◌≤◌, ◌<◌}
use native.Mathlib.Omega.{arith}
use mathlib.Core.Path.{◌≡◌, refl, sym, ap, ◌∙◌}
use mathlib.Core.Bool.{Bool, true, false}
use mathlib.Core.List.{List, ◌∷◌}
use lib.Dec.{eqb, ltb}
use borrow.Author.Tests.{ltb-true, ltb-false, eq-eqb, ne_eqb, eqb-true, eqb-false}
use Rattle.meaning.specs.Octets.{pick}
use Rattle.meaning.specs.Lists.{by-test, never}
use Rattle.meaning.specs.Card.{Tree, Use, Card, with_trees, with_labels, with_label, tree_at, mapped_to, held_for, label_count, neighbour_count}
use Rattle.meaning.specs.Events.{is_of, freed_of, uses_without}
use Rattle.octets.specs.Part.{tab}
use Rattle.octets.proofs.Tab.{tab-ext}
use Rattle.memory.specs.Sizes.{name_space, root_octets, root_names, own_column}
use Rattle.memory.specs.Memory.{tree_count, is_free_at, mark_at, mark_use, label_in, own_place, carries_at, own_label, tree_in, card_of, Relabelled}
use Rattle.memory.proofs.Memory.{tree_count-le, own_same, tree_with, tree-at, but-rows, agree_refl}
use Rattle.memory.proofs.Marks.{mapped-use, unmapped-free, label-free, label-mapped, label-awaiting, carried-out, not-far, not-mapped, own-none}
use Rattle.memory.proofs.Trees.{held-some}
use Rattle.event_parted.specs.Parted.{labels_without, is_of_at, Freed}

-- ---- whose a label is

module _ (n : ℕ) (ns : List ℕ) (p : ℕ) where
  pub of-free : is_free_at ns p ≡ true → is_of_at n ns p ≡ false
  unfolding is_of_at
  of-free e = rw e refl

  pub of-mapped : is_free_at ns p ≡ false → mark_use (mark_at ns p) ≡ n → is_of_at n ns p ≡ true
  unfolding is_of_at
  of-mapped f e = rw (f, eq-eqb _ _ e) refl

  pub of_other : is_free_at ns p ≡ false → (mark_use (mark_at ns p) ≡ n → ⊥) → eqb (mark_use (mark_at ns p)) (neighbour_count + n) ≡ is_of_at n ns p
  unfolding is_of_at
  of_other f ne = rw (f, ne_eqb _ _ ne) refl

  -- the same of the use that the card says
  of-use : n < neighbour_count → (os : List ℕ) → is_of n (label_in ns os p) ≡ is_of_at n ns p
  of-use h os =
      by-test (is_free_at ns p)
      (λ e. rw (label-free ns p os e, of-free e) (unfold is_of in refl))
      (λ e. by-test (ltb (mark_use (mark_at ns p)) neighbour_count)
      (λ t. let low = ltb-true _ _ t in rw (label-mapped ns p os e low) (unfold is_of in by-test (eqb (mark_use (mark_at ns p)) n)
      (λ k. rw (k, of-mapped e (eqb-true _ _ k)) refl)
      (λ k. rw k (sym (ne_eqb (mark_use (mark_at ns p)) (neighbour_count + n) (λ z. omega arith)) ∙ of_other e (eqb-false _ _ k)))))
      (λ t. let high = ltb-false _ _ t in rw (label-awaiting ns p os e high) (unfold is_of in by-test (eqb (mark_use (mark_at ns p) - neighbour_count) n)
      (λ k. let q = eqb-true (mark_use (mark_at ns p) - neighbour_count) n k in rw k (sym (eq-eqb (mark_use (mark_at ns p)) (neighbour_count + n) (omega arith)) ∙ of_other e (λ z. omega arith)))
      (λ k. let q = eqb-false (mark_use (mark_at ns p) - neighbour_count) n k in rw k (sym (ne_eqb (mark_use (mark_at ns p)) (neighbour_count + n) (λ z. q (omega arith))) ∙ of_other e (λ z. omega arith))))))

-- ---- the labels from one place to another

module _ (n : ℕ) where
  pub freed-none : (a : ℕ) (ns : List ℕ) → Freed n a a ns ns
  freed-none a ns = record { long = refl; rest = λ k h. refl; gone = λ q h x y o. absurd (omega arith); kept = λ q h o. (refl, refl) }

  -- where all are free, nothing changes
  pub freed-whole : (a e : ℕ) (ns : List ℕ) → ((q : ℕ) → a ≤ q → q < e → is_free_at ns q ≡ true) → Freed n a e ns ns
  freed-whole a e ns f = record { long = refl; rest = λ k h. refl; gone = λ q h x y o. f q x y; kept = λ q h o. (refl, refl) }

  -- one
  pub freed-this : (p : ℕ) (ns ms : List ℕ) → Relabelled p ns ms → is_free_at ms p ≡ true → is_of_at n ns p ≡ true → Freed n p (p + 1) ns ms
  freed-this p ns ms r f o = record {
    long = r.long;
    rest = r.rest;
    gone = λ q h x y _. let e : q ≡ p = omega arith in rw e f;
    kept = λ q h g. let ne : q ≡ p → ⊥ = λ e. never (sym (g (omega arith) (omega arith)) ∙ rw e o) in (r.frees q h ne, r.marks q h ne);
  }

  pub freed-other : (p : ℕ) (ns : List ℕ) → is_of_at n ns p ≡ false → Freed n p (p + 1) ns ns
  freed-other p ns o = record {
    long = refl;
    rest = λ k h. refl;
    gone = λ q h x y g. let e : q ≡ p = omega arith in absurd (never (sym o ∙ rw e at g));
    kept = λ q h g. (refl, refl);
  }

  same_of : (q : ℕ) (ns ms : List ℕ) → (is_free_at ms q ≡ is_free_at ns q) × (mark_at ms q ≡ mark_at ns q) → is_of_at n ms q ≡ is_of_at n ns q
  unfolding is_of_at
  same_of q ns ms e = rw (e.0, e.1) refl

  -- one part after the other
  pub freed-then : (a b e : ℕ) (ns ks ms : List ℕ) → a ≤ b → b ≤ e → Freed n a b ns ks → Freed n b e ks ms → Freed n a e ns ms
  freed-then a b e ns ks ms ab be p r = record {
    long = r.long ∙ p.long;
    rest = λ k h. r.rest k h ∙ p.rest k h;
    gone = λ q h x y o. by-test (ltb q b)
        (λ t. let f = p.gone q h x (ltb-true q b t) o in (r.kept q h (λ _ _. of-free n ks q f)).0 ∙ f)
        (λ t. let far : b ≤ q = ltb-false q b t in r.gone q h far y (same_of q ns ks (p.kept q h (λ _ z. absurd (omega arith))) ∙ o));
    kept = λ q h o.
        let first = p.kept q h (λ x y. o x (omega arith)) in
        let second = r.kept q h (λ x y. same_of q ns ks first ∙ o (omega arith) y) in
        (second.0 ∙ first.0, second.1 ∙ first.1);
  }

-- ---- all of them: the card

uses-tab : (n k : ℕ) (f : ℕ → Use) → uses_without n (tab k f) ≡ tab k (λ i. freed_of n (f i))
unfolding uses_without tab
uses-tab n zero f = refl
uses-tab n (suc k) f = ap (λ (l : List Use). freed_of n (f 0) ∷ l) (uses-tab n k (λ i. f (suc i)))

trees-tab : (n : ℕ) (c : Card) (k : ℕ) (f : ℕ → Tree) → labels_without n c (tab k f) ≡ tab k (λ i. with_label (pick (eqb (held_for c (f i)) n) 0 (f i).label) (f i))
unfolding labels_without tab
trees-tab n c zero f = refl
trees-tab n c (suc k) f = ap (λ (l : List Tree). with_label (pick (eqb (held_for c (f 0)) n) 0 (f 0).label) (f 0) ∷ l) (trees-tab n c k (λ i. f (suc i)))

module _ (n : ℕ) (near : n < neighbour_count) (ns ms : List ℕ) (r : Freed n 0 label_count ns ms) (os : List ℕ) where
  freed-label : (q : ℕ) → q < label_count → label_in ms os q ≡ freed_of n (label_in ns os q)
  unfolding freed_of
  freed-label q h =
      by-test (is_of_at n ns q)
      (λ o. rw (of-use n ns q near os ∙ o) (label-free ms q os (r.gone q h (omega arith) h o)))
      (λ o. let e = r.kept q h (λ _ _. o) in rw (of-use n ns q near os ∙ o) (unfold label_in in rw (e.0, e.1) refl))

  -- the label of a tree, by the place that it has for its own
  freed-own : (i : ℕ) → i < tree_count ns → own_label ms i (own_place ns i) ≡ pick (eqb (held_for (card_of ns os) (tree_at i (card_of ns os))) n) 0 (own_label ns i (own_place ns i))
  freed-own i h =
      by-test (carries_at ns i p)
      (λ c.
      let out = carried-out ns i p c in
      let its = mapped-use ns p out.1 in
      let held : mark_use (mark_at ns p) ≡ held_for (card_of ns os) (tree_at i (card_of ns os)) =
      held-some ns os i h (mark_use (mark_at ns p)) c (sym (ap mapped_to (label-mapped ns p os its.0 its.1) ∙ unfold mapped_to in refl)) in
      rw (← held) (by-test (eqb (mark_use (mark_at ns p)) n)
      (λ k. rw k (own-none ms i p (not-mapped ms i p (unmapped-free ms p (r.gone p out.0 (omega arith) out.0 (of-mapped n ns p its.0 (eqb-true _ _ k)))))))
      (λ k. rw k (same-own out.0 (sym (of_other n ns p its.0 (eqb-false _ _ k)) ∙ ne_eqb (mark_use (mark_at ns p)) (neighbour_count + n) (λ z. omega (arith, its.1)))))))
      (λ c. rw (own-none ns i p c) (none-own c ∙ sym (no_label (eqb (held_for (card_of ns os) (tree_at i (card_of ns os))) n))))
    where
      p : ℕ
      p = own_place ns i

      no_label : (b : Bool) → pick {X = ℕ} b 0 0 ≡ 0
      no_label true = refl
      no_label false = refl

      same-own : p < label_count → is_of_at n ns p ≡ false → own_label ms i p ≡ own_label ns i p
      same-own lt o = let e = r.kept p lt (λ _ _. o) in own_same ns ms os os i p (λ j x y. r.rest j (omega arith)) (λ _. e.1) (λ _. e.0)

      none-own : carries_at ns i p ≡ false → own_label ms i p ≡ 0
      none-own c =
          by-test (ltb p label_count)
          (λ t. let lt = ltb-true p label_count t in by-test (is_of_at n ns p)
          (λ o. own-none ms i p (not-mapped ms i p (unmapped-free ms p (r.gone p lt (omega arith) lt o))))
          (λ o. same-own lt o ∙ own-none ns i p c))
          (λ t. own-none ms i p (not-far ms i p (ltb-false p label_count t)))

  freed-tree : (i : ℕ) → i < tree_count ns → tree_in ms os i ≡ with_label (pick (eqb (held_for (card_of ns os) (tree_in ns os i)) n) 0 (tree_in ns os i).label) (tree_in ns os i)
  freed-tree i h =
      let few = tree_count-le ns in
      let o : own_place ms i ≡ own_place ns i = r.rest (own_column + i) (omega arith) in
      tree_with ns ms os os i _
      (rw o (freed-own i h ∙ ap (λ (t : Tree). pick (eqb (held_for (card_of ns os) t) n) 0 (own_label ns i (own_place ns i))) (tree-at ns os i h) ∙ unfold tree_in in refl))
      (λ k x y. r.rest k (omega arith))
      (agree_refl (i * name_space) name_space os)

  same_count : tree_count ms ≡ tree_count ns
  unfolding tree_count
  same_count = rw (r.rest 3 (omega arith)) refl

  pub freed-card : card_of ms os ≡ with_trees (labels_without n (card_of ns os) (card_of ns os).trees) (with_labels (uses_without n (card_of ns os).labels) (card_of ns os))
  freed-card =
      but-rows ns ms os os _ _
      (λ k x y. r.rest k (omega arith))
      (λ k x y. r.rest k (omega arith))
      (agree_refl root_names root_octets os)
      (unfold card_of in rw (same_count, trees-tab) (tab-ext (tree_count ns) _ _ freed-tree))
      (unfold card_of in rw uses-tab (tab-ext label_count _ _ freed-label))
