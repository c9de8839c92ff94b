-- No two trees of the card that the memory denotes carry one label. Assumes nothing.
use Prim.Native.Nat.{ℕ, ◌+◌, ◌≤◌, ◌<◌}
use native.Mathlib.Omega.{arith}
use mathlib.Core.Path.{◌≡◌, refl, sym, ap, ◌∙◌}
use mathlib.Core.Bool.{true, false, ◌&&◌}
use mathlib.Core.List.{List}
use lib.ListN.{length}
use lib.Dec.{eqb, ltb}
use borrow.Author.Tests.{eqb-true}
use Rattle.meaning.specs.Lists.{by-test}
use Rattle.meaning_laws.specs.RoundTrip.{both}
use Rattle.meaning.specs.Card.{Tree, tree_at, label_count}
use Rattle.meaning_laws.specs.Losses.{Apart}
use Rattle.octets.proofs.Tab.{tab-length, tab-get}
use Rattle.memory.specs.Memory.{base_in, tree_count, is_mapped_at, mark_at, mark_place, own_place, carries_at, own_label, tree_in, card_of}
use Rattle.memory.proofs.Memory.{base-range}

base-is : (ns os : List ℕ) → (card_of ns os).base ≡ base_in ns
unfolding card_of
base-is ns os = refl

label_at : (ns os : List ℕ) (i : ℕ) → i < length (card_of ns os).trees → (tree_at i (card_of ns os)).label ≡ own_label ns i (own_place ns i)
unfolding card_of tree_at tree_in
label_at ns os i h = ap (λ (t : Tree). t.label) (tab-get (tree_count ns) (tree_in ns os) i _ (rw (tab-length (tree_count ns) (tree_in ns os)) at h))

own_is : (ns : List ℕ) (i : ℕ) → (own_label ns i (own_place ns i) ≡ 0 → ⊥) → (mark_place (mark_at ns (own_place ns i)) ≡ i) × (own_label ns i (own_place ns i) ≡ base_in ns + own_place ns i)
unfolding own_label carries_at
own_is ns i nz =
    by-test (carries_at ns i (own_place ns i))
    (λ e. let b = both (ltb (own_place ns i) label_count) (is_mapped_at ns (own_place ns i) && eqb (mark_place (mark_at ns (own_place ns i))) i) (unfold carries_at in e) in
    (eqb-true _ _ (both (is_mapped_at ns (own_place ns i)) (eqb (mark_place (mark_at ns (own_place ns i))) i) b.1).1, (unfold own_label in rw e refl)))
    (λ e. absurd (nz (unfold own_label in rw e refl)))

pub memory-apart : (ns os : List ℕ) → Apart (card_of ns os)
unfolding base_in tree_at
memory-apart ns os = record {
  some = rw (base-is ns os) (omega (arith, base-range ns));
  block = λ i h nz. block i h nz;
  once = λ i j h k d e. by-test (eqb (tree_at i (card_of ns os)).label 0)
      (λ z. eqb-true _ _ z)
      (λ z. absurd (d (one i j h k e (λ y. eqb_no i z y))));
}
  where
    eqb_no : (i : ℕ) → eqb (tree_at i (card_of ns os)).label 0 ≡ false → (tree_at i (card_of ns os)).label ≡ 0 → ⊥
    eqb_no i z y = let t : true ≡ false = sym (ap (λ (k : ℕ). eqb k 0) y) ∙ z in let t' : ◌≡◌ {A = ℕ} 0 1 = cc in omega arith

    block : (i : ℕ) → i < length (card_of ns os).trees → ((tree_at i (card_of ns os)).label ≡ 0 → ⊥) → (card_of ns os).base ≤ (tree_at i (card_of ns os)).label
    block i h nz =
        let its = label_at ns os i h in
        let own = own_is ns i (λ y. nz (its ∙ y)) in
        rw (base-is ns os, its, own.1) (omega arith)

    one : (i j : ℕ) → i < length (card_of ns os).trees → j < length (card_of ns os).trees → (tree_at i (card_of ns os)).label ≡ (tree_at j (card_of ns os)).label → ((tree_at i (card_of ns os)).label ≡ 0 → ⊥) → i ≡ j
    one i j h k e nz =
        let a = own_is ns i (λ y. nz (label_at ns os i h ∙ y)) in
        let b = own_is ns j (λ y. nz (e ∙ label_at ns os j k ∙ y)) in
        let same_place : own_place ns i ≡ own_place ns j = omega (arith, a.1, b.1, sym (label_at ns os i h) ∙ e ∙ label_at ns os j k) in
        sym a.0 ∙ ap (λ (p : ℕ). mark_place (mark_at ns p)) same_place ∙ b.0
