-- What a loss makes a tree write. Assumes nothing.
use Prim.Native.Nat.{ℕ, ◌<◌}
use native.Mathlib.Omega.{arith}
use mathlib.Core.Path.{◌≡◌, refl, sym, ap, ◌∙◌}
use mathlib.Core.Bool.{Bool, true, false}
use mathlib.Core.List.{List}
use borrow.Author.Tests.{eq-eqb, ne_eqb}
use Rattle.meaning.specs.Lists.{by-test}
use Rattle.meaning.specs.Wire.{record_size}
use Rattle.meaning.specs.Card.{Tree, Card, with_branch, with_leaf, tree_at, leads_on, mapped_to, held_for, neighbour_count, nobody}
use Rattle.meaning.specs.Events.{holder}
use Rattle.meaning_laws.specs.Losses.{loss_size}
use Rattle.memory.specs.Memory.{card_of, base_in, tree_count, carries_at, own_place, mark_at, mark_use}
use Rattle.memory.proofs.Memory.{base-range}
use Rattle.memory.proofs.Marks.{mapped-use, label-mapped, carried-out}
use Rattle.memory.proofs.Trees.{label-some, label-none, held-some, held_none}

-- ---- a tree of the memory has a label exactly where it holds one for a neighbour

module _ (ns os : List ℕ) (i : ℕ) (h : i < tree_count ns) where
  pub held-label : held_for (card_of ns os) (tree_at i (card_of ns os)) ≡ nobody → (tree_at i (card_of ns os)).label ≡ 0
  held-label e =
      by-test (carries_at ns i (own_place ns i))
      (λ c.
      let p : ℕ = own_place ns i in
      let its = mapped-use ns p (carried-out ns i p c).1 in
      let held : mark_use (mark_at ns p) ≡ held_for (card_of ns os) (tree_at i (card_of ns os)) = held-some ns os i h (mark_use (mark_at ns p)) c (sym (ap mapped_to (label-mapped ns p os its.0 its.1) ∙ unfold mapped_to in refl)) in
      absurd (omega (arith, held, e, its.1)))
      (λ c. sym (label-none ns os i h c))

  pub label-held : (held_for (card_of ns os) (tree_at i (card_of ns os)) ≡ nobody → ⊥) → (tree_at i (card_of ns os)).label ≡ 0 → ⊥
  label-held ne z =
      by-test (carries_at ns i (own_place ns i))
      (λ c. omega (arith, label-some ns os i h (base_in ns) refl c, base-range ns, z))
      (λ c. ne (sym (held_none ns os i h c)))

-- ---- whether it leads on

pub leads-some : (u : ℕ) (t : Tree) → (holder u t ≡ nobody → ⊥) → leads_on u t ≡ true
leads-some u t ne = by-test (leads_on u t) (λ e. e) (λ e. absurd (ne (unfold holder in rw e refl)))

pub leads-none : (u : ℕ) (t : Tree) → (u ≡ nobody → ⊥) → holder u t ≡ nobody → leads_on u t ≡ false
leads-none u t ne z = by-test (leads_on u t) (λ e. absurd (ne (sym (held e) ∙ z))) (λ e. e)
  where
    held : leads_on u t ≡ true → holder u t ≡ u
    held e = unfold holder in rw e refl

-- ---- its octets

own-leaf : (n : ℕ) (t : Tree) (leaf : Bool) → leaf ≡ t.leaf → with_leaf leaf (with_branch n 0 t) ≡ with_branch n 0 t
own-leaf n t leaf e = rw e (unfold with_leaf with_branch in refl)

module _ (n : ℕ) (c : Card) (t : Tree) (u : ℕ) (eu : u ≡ held_for c t) where
  pub loss-bare : n < neighbour_count → u ≡ nobody → t.label ≡ 0 → 0 ≡ loss_size n c t
  unfolding loss_size
  loss-bare near z l =
      rw (← eu, ne_eqb u n (λ k. omega arith), eq-eqb t.label 0 l)
      (by-test (leads_on u (with_branch n 0 t)) (λ e. rw e refl) (λ e. rw e refl))

  pub loss-own : u ≡ n → 0 ≡ loss_size n c t
  unfolding loss_size
  loss-own e = rw (← eu, eq-eqb u n e) refl

  module _ (leaf : Bool) (el : leaf ≡ t.leaf) (r : ℕ) (er : r ≡ holder u (with_leaf leaf (with_branch n 0 t))) (ne : u ≡ n → ⊥) (some : u ≡ nobody → ⊥) where
    led : r ≡ holder u (with_branch n 0 t)
    led = er ∙ ap (holder u) (own-leaf n t leaf el)

    pub loss-ends : r ≡ nobody → (t.label ≡ 0 → ⊥) → (a : List ℕ) → a ≡ t.name → record_size a ≡ loss_size n c t
    unfolding loss_size
    loss-ends z l a ea = rw (← eu, ne_eqb u n ne, leads-none u (with_branch n 0 t) some (sym led ∙ z), ne_eqb t.label 0 l, ea) refl

    pub loss-stays : (r ≡ nobody → ⊥) → 0 ≡ loss_size n c t
    unfolding loss_size
    loss-stays z = rw (← eu, ne_eqb u n ne, leads-some u (with_branch n 0 t) (λ k. z (led ∙ k))) refl
