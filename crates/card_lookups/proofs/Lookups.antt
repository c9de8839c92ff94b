-- The laws by which the lookups follow the definitions. Assumes nothing.
use Prim.Native.Nat.{ℕ, zero, suc, ◌+◌, ◌-◌, ◌≤◌, ◌<◌}
use native.Mathlib.Omega.{arith}
use mathlib.Core.Path.{◌≡◌, refl, sym, ap, ◌∙◌}
use mathlib.Core.Bool.{Bool, false}
use mathlib.Core.List.{List, []}
use lib.ListN.{set, replicate}
use lib.Dec.{leb, ltb}
use borrow.Author.Tests.{eq-eqb, ne_eqb, leb-true, leb-false, ltb-true, ltb-false}
use Rattle.meaning.specs.Octets.{place}
use Rattle.meaning.specs.Lists.{by-test, get_d-out, set-replicate}
use Rattle.meaning.specs.Wire.{root_in, element_refusal}
use Rattle.meaning.specs.Card.{Card, Tree, Use, free, mapped, awaiting, Feed, no_route, bare, tree_place, tree_at, is_branch, not_held, mapped_to, use_of, route_of, Branch, nothing, branches_from, feed_of, carries, carrier, feed_of_use, lookup_label, lookup_name, label_count, neighbour_count, nobody}
use Rattle.meaning_laws.specs.Standing.{standing-at, not-standing}
use Rattle.octets.specs.Part.{tab}
use Rattle.octets.proofs.Tab.{tab-length}
use Rattle.memory.specs.Memory.{card_of, base_in, tree_count, mark_at, mark_use, is_free_at, label_in}
use Rattle.memory.proofs.Memory.{trees-length}
use Rattle.memory.proofs.Marks.{label-free, label-mapped, label-awaiting}
use Rattle.memory.proofs.Labels.{use-in}
use Rattle.meaning.specs.Calls.{feed_in}

pub empty-feed : feed_in (replicate neighbour_count 0) false ≡ nothing
unfolding nothing branches_from is_branch
empty-feed = refl

no-branches : (k n : ℕ) → branches_from k (replicate n 0) ≡ []
unfolding branches_from is_branch
no-branches k zero = refl
no-branches k (suc n) = no-branches (suc k) n

still-none : (k n u : ℕ) → branches_from k (set (replicate n 0) u 0) ≡ []
still-none k n u = ap (branches_from k) (set-replicate n u 0) ∙ no-branches k n

bare-feed : (u : ℕ) (a : List ℕ) → feed_of u (bare a) ≡ nothing
unfolding feed_of not_held bare nothing
bare-feed u a = ap (λ (bs : List Branch). record { branches = bs; leaf = false }) (still-none 0 16 u)

pub feed-is : (u : ℕ) (t : Tree) (bs : List ℕ) (leaf : Bool) → bs ≡ set t.branches u 0 → leaf ≡ t.leaf → feed_in bs leaf ≡ feed_of u t
unfolding feed_of not_held
feed-is u t bs leaf p q = rw (p, q) refl

-- a label that is mapped leads where its carrier does, any other nowhere
some-found : (l : ℕ) (c : Card) (u : Use) → (mapped_to u ≡ no_route → ⊥) → feed_of_use l c u ≡ feed_of (mapped_to u) (carrier l c)
unfolding feed_of_use mapped_to
some-found l c free h = absurd (h refl)
some-found l c (mapped n a) h = refl
some-found l c (awaiting n a) h = absurd (h refl)

none_in : (l : ℕ) (c : Card) (ns os : List ℕ) (p : ℕ) → mapped_to (label_in ns os p) ≡ no_route → feed_of_use l c (label_in ns os p) ≡ nothing
none_in l c ns os p e =
    by-test (is_free_at ns p)
    (λ x. rw (label-free ns p os x) (unfold feed_of_use in refl))
    (λ x.
    by-test (ltb (mark_use (mark_at ns p)) 16)
    (λ y.
    let q : mark_use (mark_at ns p) ≡ nobody = sym (ap mapped_to (label-mapped ns p os x (ltb-true _ _ y)) ∙ unfold mapped_to in refl) ∙ e in
    absurd (omega (arith, ltb-true (mark_use (mark_at ns p)) 16 y)))
    (λ y. rw (label-awaiting ns p os x (ltb-false _ _ y)) (unfold feed_of_use in refl)))

module _ (ns os : List ℕ) (l : ℕ) where
  outside : (base_in ns ≤ l → l < base_in ns + label_count → ⊥) → use_of l (card_of ns os) ≡ free
  unfolding use_of card_of
  outside h =
      by-test (leb (base_in ns) l)
      (λ e. rw e (get_d-out (tab label_count (label_in ns os)) (l - base_in ns) free (rw (tab-length 256 (label_in ns os)) (far-off (leb-true _ _ e)))))
      (λ e. rw e refl)
    where
      far-off : base_in ns ≤ l → label_count ≤ l - base_in ns
      far-off k = by-test (ltb l (base_in ns + label_count)) (λ e. absurd (h k (ltb-true _ _ e))) (λ e. omega (arith, ltb-false l (base_in ns + label_count) e))

  pub none_found : mapped_to (use_of l (card_of ns os)) ≡ no_route → nothing ≡ lookup_label l (card_of ns os)
  unfolding lookup_label
  none_found e =
      by-test (leb (base_in ns) l)
      (λ x. by-test (ltb l (base_in ns + label_count))
      (λ y. let u : use_of l (card_of ns os) ≡ label_in ns os (l - base_in ns) = use-in ns os l (l - base_in ns) (omega (arith, leb-true (base_in ns) l x)) (omega (arith, leb-true (base_in ns) l x, ltb-true l (base_in ns + label_count) y)) in
      sym (ap (feed_of_use l (card_of ns os)) u ∙ none_in l (card_of ns os) ns os (l - base_in ns) (sym (ap mapped_to u) ∙ e)))
      (λ y. sym (ap (feed_of_use l (card_of ns os)) (outside (λ _ k. omega (arith, ltb-false l (base_in ns + label_count) y))) ∙ unfold feed_of_use in refl)))
      (λ x. sym (ap (feed_of_use l (card_of ns os)) (outside (λ k _. omega (arith, leb-false (base_in ns) l x))) ∙ unfold feed_of_use in refl))

  module _ (h : mapped_to (use_of l (card_of ns os)) ≡ no_route → ⊥) (i : ℕ) (ei : i ≡ place (carries l) (card_of ns os).trees) where
    leads : lookup_label l (card_of ns os) ≡ feed_of (mapped_to (use_of l (card_of ns os))) (tree_at i (card_of ns os))
    unfolding lookup_label
    leads = some-found l (card_of ns os) (use_of l (card_of ns os)) h ∙ ap (feed_of (mapped_to (use_of l (card_of ns os)))) (unfold carrier in rw (← ei) refl)

    pub carrier-found : (f : Feed) (n : ℕ) → n ≡ mapped_to (use_of l (card_of ns os)) → f ≡ feed_of n (tree_at i (card_of ns os)) → f ≡ lookup_label l (card_of ns os)
    carrier-found f n en e = e ∙ ap (λ (x : ℕ). feed_of x (tree_at i (card_of ns os))) en ∙ sym leads

    pub carrier-none : (f : Feed) → f ≡ nothing → tree_count ns ≤ i → f ≡ lookup_label l (card_of ns os)
    carrier-none f e k =
        e ∙ sym (leads ∙ ap (feed_of (mapped_to (use_of l (card_of ns os)))) no-tree ∙ bare-feed _ [])
      where
        no-tree : tree_at i (card_of ns os) ≡ bare []
        no-tree = unfold tree_at in get_d-out (card_of ns os).trees i (bare []) (rw (trees-length ns os) k)

module _ (ns os : List ℕ) (e : List ℕ) where
  pub name-refused : (f : Feed) (k : ℕ) → f ≡ nothing → k ≡ element_refusal e → (k ≡ 0 → ⊥) → f ≡ lookup_name e (card_of ns os)
  unfolding lookup_name
  name-refused f k q ek h = rw (ne_eqb (element_refusal e) 0 (λ z. h (ek ∙ z))) q

  pub name-found : (f : Feed) (k i : ℕ) → k ≡ element_refusal e → k ≡ 0 → i ≡ tree_place e (card_of ns os) → i < tree_count ns → (via : ℕ) → via ≡ route_of (root_in e) (card_of ns os) → f ≡ feed_of via (tree_at i (card_of ns os)) → f ≡ lookup_name e (card_of ns os)
  unfolding lookup_name
  name-found f k i ek z ei h via ev q =
      rw (eq-eqb (element_refusal e) 0 (sym ek ∙ z)) (q ∙ ap (λ (x : ℕ). feed_of x (tree_at i (card_of ns os))) ev ∙ ap (feed_of (route_of (root_in e) (card_of ns os))) (sym (standing-at (card_of ns os) e (rw (← ei, trees-length ns os) h) ∙ ap (λ (j : ℕ). tree_at j (card_of ns os)) (sym ei))))

  pub name-unknown : (f : Feed) (k i : ℕ) → k ≡ element_refusal e → k ≡ 0 → i ≡ tree_place e (card_of ns os) → tree_count ns ≤ i → f ≡ nothing → f ≡ lookup_name e (card_of ns os)
  unfolding lookup_name
  name-unknown f k i ek z ei h q =
      rw (eq-eqb (element_refusal e) 0 (sym ek ∙ z)) (q ∙ sym (ap (feed_of (route_of (root_in e) (card_of ns os))) (not-standing (card_of ns os) e (rw (← ei, trees-length ns os) h)) ∙ bare-feed _ e))
