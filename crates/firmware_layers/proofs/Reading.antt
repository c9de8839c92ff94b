-- The laws by which the calls on layers follow the definitions: each return of the code is one of them. Assumes nothing.
use Prim.Native.Nat.{ℕ, suc, ◌-◌, ◌≤◌, ◌<◌}
use native.Mathlib.Omega.{arith}
use mathlib.Core.Path.{◌≡◌, refl, sym, ap, ◌∙◌}
use mathlib.Core.List.{List, [], ◌∷◌}
use lib.ListN.{length, take, drop, length-drop}
use lib.Seq.{take_all}
use borrow.Author.Tests.{eq-eqb, ne_eqb, lt-ltb, le-ltb}
use Rattle.meaning.specs.Octets.{◌when◌else◌}
use Rattle.meaning.specs.Wire.{root_in, opaque_in, element_refusal}
use Rattle.meaning_layers.specs.Layers.{eight_in, layer_of, peel, refused, peeled, read}
use Rattle.meaning_layers.specs.InnerStart.{inner_start, layer_count, layer_start}
use Rattle.meaning_layers.proofs.InnerStart.{start_none, start-not, start-below}
use Rattle.firmware_layers.specs.Fields.{answer_of, count_of, layer_answer, layer_fields, fields_of}

-- ---- by the refusal n of the octets

module _ (e : List ℕ) (n : ℕ) (q : n ≡ element_refusal e) where
  read-refused : (n ≡ 0 → ⊥) → read e ≡ refused n
  unfolding read
  read-refused d = rw (ne_eqb (element_refusal e) 0 (λ z. d (q ∙ z))) (ap refused (sym q))

  read-peeled : n ≡ 0 → read e ≡ peeled (peel e)
  unfolding read
  read-peeled z = rw (eq-eqb (element_refusal e) 0 (sym q ∙ z)) refl

  pub layers-refused : (n ≡ 0 → ⊥) → (n ≡ answer_of (read e)) × (0 ≡ count_of (read e))
  unfolding answer_of count_of
  layers-refused d = rw (read-refused d) (refl, refl)

  pub layers-counted : n ≡ 0 → (k : ℕ) → k ≡ layer_count e → (n ≡ answer_of (read e)) × (k ≡ count_of (read e))
  unfolding answer_of count_of layer_count
  layers-counted z k h = rw (read-peeled z) (z, h)

  module _ (down : ℕ) where
    pub answer-refused : (n ≡ 0 → ⊥) → (n ≡ layer_answer down (read e)) × (n ≡ 0 → down < layer_count e)
    answer-refused d = (unfold layer_answer in rw (read-refused d) refl, λ z. absurd (d z))

    module _ (z : n ≡ 0) (k : ℕ) (h : k ≡ layer_count e) where
      count-is : k ≡ suc (length (peel e).outer)
      count-is = h ∙ unfold layer_count in refl

      pub answer-none : k ≤ down → (22 ≡ layer_answer down (read e)) × (◌≡◌ {A = ℕ} 22 0 → down < layer_count e)
      answer-none b = (
        unfold layer_answer ◌when◌else◌ in rw (read-peeled z, lt-ltb (length (peel e).outer) down (omega (arith, count-is))) refl,
        λ y. omega (arith, y),
      )

      pub answer-there : down < k → (0 ≡ layer_answer down (read e)) × (◌≡◌ {A = ℕ} 0 0 → down < layer_count e)
      answer-there b = (
        unfold layer_answer ◌when◌else◌ in rw (read-peeled z, le-ltb (length (peel e).outer) down (omega (arith, count-is))) refl,
        λ _. omega (arith, h),
      )

-- ---- the fields of a layer, by the start k of the name inside

module _ (e root : List ℕ) (start k : ℕ) (p : root ≡ root_in e) (s : k ≡ inner_start e) where
  pub fields-last : k ≡ 0 → start ∷ length root ∷ 0 ∷ 0 ∷ [] ≡ start ∷ layer_fields e
  unfolding layer_fields layer_of
  fields-last z = rw (start_none e (sym s ∙ z), ← s, z, p) refl

  pub fields-more : (k ≡ 0 → ⊥) → (eight : List ℕ) → eight ≡ eight_in (opaque_in e) → start ∷ length root ∷ length eight ∷ k ∷ [] ≡ start ∷ layer_fields e
  unfolding layer_fields layer_of
  fields-more d eight h = rw (start-not e (λ z. d (s ∙ z)), ← s, p, h) refl

-- ---- the call

module _ (e before : List ℕ) (down r : ℕ) (q : r ≡ layer_answer down (read e)) where
  pub layer-refused : (r ≡ 0 → ⊥) → (r ≡ layer_answer down (read e)) × (before ≡ fields_of down e before)
  unfolding fields_of
  layer-refused d = (q, rw (ne_eqb (layer_answer down (read e)) 0 (λ z. d (q ∙ z))) refl)

  pub layer-told : r ≡ 0 → down < layer_count e → (start : ℕ) → start ≡ layer_start down e → (fields : List ℕ)
      → fields ≡ start ∷ layer_fields (take (length e - start) (drop start e)) → (0 ≡ layer_answer down (read e)) × (fields ≡ fields_of down e before)
  unfolding fields_of
  layer-told z there start s fields f =
      let part = take_all (length e - start) (drop start e) (omega (arith, length-drop start e)) in
      (sym z ∙ q, f ∙ rw (eq-eqb (layer_answer down (read e)) 0 (sym q ∙ z), part, s, start-below down e there) refl)
