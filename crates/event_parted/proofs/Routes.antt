-- Routes: those through the lost neighbour go, the last first; and all that is its own has gone. Assumes nothing.
use Prim.Native.Nat.{ℕ, zero, suc, ◌-◌, ◌≤◌, ◌<◌}
use native.Mathlib.Omega.{arith}
use mathlib.Core.Path.{◌≡◌, refl, sym, ap, ap₂, ◌∙◌}
use mathlib.Core.List.{List, [], ◌∷◌}
use lib.ListN.{length, get_or, length-append, length-take, length-drop}
use lib.Dec.{eqb}
use borrow.Author.Tests.{eq-eqb, ne_eqb}
use Rattle.meaning.specs.Octets.{pick, cut}
use Rattle.meaning.specs.Lists.{by-test}
use Rattle.meaning.specs.Card.{Route, Tree, Card, no_entry, with_routes, with_trees, with_labels, with_branch, with_label, held_for, use_of}
use Rattle.meaning.specs.Events.{uses_without, tree_without, trees_without, recounted_without, routes_without, parted}
use Rattle.meaning_laws.specs.Losses.{routes_below, routes-below}
use Rattle.octets.proofs.Tab.{tab-get}
use Rattle.memory.specs.Memory.{card_of, route_count, route_in}
use Rattle.memory.proofs.Memory.{routes-length}
use Rattle.event_parted.specs.Parted.{branches_without, labels_without}

-- the routes, without that at place k if it is through n
abbrev pub Less : ℕ → ℕ → List Route → List Route
Less n k rs = pick (eqb (get_or rs k (no_entry [])).via n) (cut rs k) rs

-- ---- one entry

module _ (ns os : List ℕ) (k : ℕ) (h : k < route_count ns) where
  pub via-at : (r : ℕ) → r ≡ (route_in ns os k).via → (get_or (card_of ns os).routes k (no_entry [])).via ≡ r
  unfolding card_of
  via-at r e = ap (λ (x : Route). x.via) (tab-get (route_count ns) (route_in ns os) k _ h) ∙ sym e

  pub less-gone : (r n : ℕ) → r ≡ (route_in ns os k).via → r ≡ n → (d : Card) → d ≡ with_routes (cut (card_of ns os).routes k) (card_of ns os) → d ≡ with_routes (Less n k (card_of ns os).routes) (card_of ns os)
  less-gone r n e q d g = g ∙ rw (eq-eqb _ n (via-at r e ∙ q)) refl

  pub less-stays : (r n : ℕ) → r ≡ (route_in ns os k).via → (r ≡ n → ⊥) → card_of ns os ≡ with_routes (Less n k (card_of ns os).routes) (card_of ns os)
  less-stays r n e q = rw (ne_eqb _ n (λ z. q (sym (via-at r e) ∙ z))) (unfold with_routes in refl)

-- ---- from the last down

cut-long {ℓ} : {A : Type ℓ} (l : List A) (k : ℕ) → k < length l → k ≤ length (cut l k)
unfolding cut
cut-long l k h = simp (length-append, length-take, length-drop) (omega arith)

-- what is left to do makes of the card as it is the card that is to be
abbrev pub Going : ℕ → ℕ → List ℕ → List ℕ → List ℕ → List ℕ → Type 0
Going n k ns₀ os₀ ns os = (k ≤ route_count ns)
    × (with_routes (routes_below n k (card_of ns os).routes) (card_of ns os) ≡ with_routes (routes_without n (card_of ns₀ os₀).routes) (card_of ns₀ os₀))

pub going-none : (n k : ℕ) (ns os : List ℕ) → k ≡ route_count ns → Going n k ns os ns os
going-none n k ns os e =
    let q : k ≡ length (card_of ns os).routes = e ∙ sym (routes-length ns os) in
    (omega arith, ap (λ (rs : List Route). with_routes rs (card_of ns os)) (ap (λ (j : ℕ). routes_below n j (card_of ns os).routes) q ∙ routes-below n (card_of ns os).routes))

below_next : (n k : ℕ) (rs : List Route) → 0 < k → routes_below n k rs ≡ routes_below n (k - 1) (Less n (k - 1) rs)
below_next n zero rs h = absurd (omega arith)
below_next n (suc k) rs h = let e : suc k - 1 ≡ k = omega arith in rw e (unfold routes_below in refl)

pub going_more : (n k : ℕ) (ns₀ os₀ ns os ns' os' : List ℕ) → 0 < k → Going n k ns₀ os₀ ns os
    → card_of ns' os' ≡ with_routes (Less n (k - 1) (card_of ns os).routes) (card_of ns os) → Going n (k - 1) ns₀ os₀ ns' os'
going_more n k ns₀ os₀ ns os ns' os' some g e =
    let long : length (card_of ns' os').routes ≡ length (Less n (k - 1) (card_of ns os).routes) = ap (λ (c : Card). length c.routes) e ∙ unfold with_routes in refl in
    let in-it : k - 1 < length (card_of ns os).routes = rw routes-length (omega (arith, g.0)) in (
      rw (← (routes-length ns' os'), long) (by-test (eqb (get_or (card_of ns os).routes (k - 1) (no_entry [])).via n) (λ t. rw t (cut-long (card_of ns os).routes (k - 1) in-it)) (λ t. rw t (omega arith))),
      ap (λ (c : Card). with_routes (routes_below n (k - 1) c.routes) c) e ∙ unfold with_routes in
          ap (λ (rs : List Route). with_routes rs (card_of ns os)) (sym (below_next n k (card_of ns os).routes some)) ∙ g.1,
    )

pub going-all : (n k : ℕ) (ns₀ os₀ ns os : List ℕ) → k ≤ 0 → Going n k ns₀ os₀ ns os → card_of ns os ≡ with_routes (routes_without n (card_of ns₀ os₀).routes) (card_of ns₀ os₀)
going-all n k ns₀ os₀ ns os z g =
    let e : k ≡ 0 = omega arith in
    sym (ap (λ (j : ℕ). with_routes (routes_below n j (card_of ns os).routes) (card_of ns os)) e ∙ unfold routes_below with_routes in refl) ∙ g.1

-- ---- branches, labels and routes are all that is n's

both-without : (n : ℕ) (c : Card) (rs : List Route) (us ts : List Tree) → labels_without n (with_routes rs (with_trees us c)) (branches_without n ts) ≡ trees_without n c ts
unfolding labels_without branches_without trees_without
both-without n c rs us [] = refl
both-without n c rs us (t ∷ ts) =
    ap₂ (λ (x : Tree) (l : List Tree). x ∷ l) (unfold tree_without held_for use_of with_routes with_trees with_branch with_label in refl) (both-without n c rs us ts)

pub all-gone : (n : ℕ) (c c₁ c₂ c₃ : Card) → c₁ ≡ with_routes (recounted_without n c.trees c.routes) (with_trees (branches_without n c.trees) c)
    → c₂ ≡ with_trees (labels_without n c₁ c₁.trees) (with_labels (uses_without n c₁.labels) c₁)
    → c₃ ≡ with_routes (routes_without n c₂.routes) c₂ → c₃ ≡ parted n c
unfolding parted with_routes with_trees with_labels
all-gone n c c₁ c₂ c₃ e₁ e₂ e₃ =
    e₃ ∙ ap (λ (d : Card). with_routes (routes_without n d.routes) d) (e₂ ∙ ap (λ (d : Card). with_trees (labels_without n d d.trees) (with_labels (uses_without n d.labels) d)) e₁)
    ∙ ap (λ (ts : List Tree). with_routes (routes_without n (recounted_without n c.trees c.routes)) (with_trees ts (with_labels (uses_without n c.labels) c))) (both-without n c (recounted_without n c.trees c.routes) (branches_without n c.trees) c.trees)
    ∙ unfold with_routes with_trees with_labels in refl
