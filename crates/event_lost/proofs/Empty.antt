-- Empty trees go, the newest first. Assumes nothing.
use Prim.Native.Nat.{ℕ, zero, suc, ◌-◌, ◌≤◌, ◌<◌}
use native.Mathlib.Omega.{arith}
use mathlib.Core.Path.{◌≡◌, refl, sym, ap, ◌∙◌}
use mathlib.Core.Bool.{Bool, true, false}
use mathlib.Core.List.{List}
use lib.ListN.{length, length-append, length-take, length-drop}
use Rattle.meaning.specs.Octets.{cut}
use Rattle.meaning.specs.Lists.{by-test}
use Rattle.meaning.specs.Card.{Card, with_trees, tree_at, is_empty}
use Rattle.meaning.specs.Events.{swept, swept_below}
use Rattle.memory.specs.Memory.{card_of, tree_count}
use Rattle.memory.proofs.Memory.{trees-length}

-- ---- one tree

pub swept-goes : (i : ℕ) (c : Card) (r : Bool) → r ≡ is_empty (tree_at i c) → r ≡ true → (d : Card) → d ≡ with_trees (cut c.trees i) c → d ≡ swept i c
unfolding swept
swept-goes i c r e z d g = g ∙ rw (sym e ∙ z) refl

pub swept-stays : (i : ℕ) (c : Card) (r : Bool) → r ≡ is_empty (tree_at i c) → r ≡ false → c ≡ swept i c
unfolding swept
swept-stays i c r e z = rw (sym e ∙ z) refl

-- ---- from the newest down

cut-long {ℓ} : {A : Type ℓ} (l : List A) (k : ℕ) → k < length l → k ≤ length (cut l k)
unfolding cut
cut-long l k h = simp (length-append, length-take, length-drop) (omega arith)

-- what is left to do makes of the card as it is the card that is to be
abbrev pub Sweeping : ℕ → List ℕ → List ℕ → List ℕ → List ℕ → Type 0
Sweeping k ns₀ os₀ ns os = (k ≤ tree_count ns) × (swept_below k (card_of ns os) ≡ swept_below (length (card_of ns₀ os₀).trees) (card_of ns₀ os₀))

pub sweeping-none : (k : ℕ) (ns os : List ℕ) → k ≡ tree_count ns → Sweeping k ns os ns os
sweeping-none k ns os e =
    let q : k ≡ length (card_of ns os).trees = e ∙ sym (trees-length ns os) in
    (omega arith, ap (λ (j : ℕ). swept_below j (card_of ns os)) q)

below_next : (k : ℕ) (c : Card) → 0 < k → swept_below k c ≡ swept_below (k - 1) (swept (k - 1) c)
below_next zero c h = absurd (omega arith)
below_next (suc k) c h = let e : suc k - 1 ≡ k = omega arith in rw e (unfold swept_below in refl)

swept-long : (i : ℕ) (c : Card) → i < length c.trees → i ≤ length (swept i c).trees
unfolding swept with_trees
swept-long i c h = by-test (is_empty (tree_at i c)) (λ e. rw e (cut-long c.trees i h)) (λ e. rw e (omega arith))

pub sweeping-more : (k : ℕ) (ns₀ os₀ ns os ns' os' : List ℕ) → 0 < k → Sweeping k ns₀ os₀ ns os → card_of ns' os' ≡ swept (k - 1) (card_of ns os) → Sweeping (k - 1) ns₀ os₀ ns' os'
sweeping-more k ns₀ os₀ ns os ns' os' some g e =
    let long : length (card_of ns' os').trees ≡ length (swept (k - 1) (card_of ns os)).trees = ap (λ (c : Card). length c.trees) e in (
      omega (arith, trees-length ns' os', long, swept-long (k - 1) (card_of ns os) (rw trees-length (omega (arith, g.0)))),
      ap (swept_below (k - 1)) e ∙ sym (below_next k (card_of ns os) some) ∙ g.1,
    )

pub sweeping-all : (k : ℕ) (ns₀ os₀ ns os : List ℕ) → k ≤ 0 → Sweeping k ns₀ os₀ ns os → card_of ns os ≡ swept_below (length (card_of ns₀ os₀).trees) (card_of ns₀ os₀)
sweeping-all k ns₀ os₀ ns os z g =
    let e : k ≡ 0 = omega arith in
    sym (ap (λ (j : ℕ). swept_below j (card_of ns os)) e ∙ unfold swept_below in refl) ∙ g.1
