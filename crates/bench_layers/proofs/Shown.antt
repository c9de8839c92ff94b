-- Laws of the text of layers. Assumes nothing.
use Prim.Native.Nat.{ℕ, ◌+◌, ◌-◌, ◌≤◌}
use native.Mathlib.Omega.{arith}
use mathlib.Core.Path.{◌≡◌, refl, sym, ap, ◌∙◌}
use mathlib.Core.List.{List, [], ◌∷◌, ◌++◌, append_assoc}
use lib.ListN.{length, take, drop, length-drop, length-take}
use lib.Seq.{take_all}
use borrow.Author.Tests.{eq-eqb, ne_eqb}
use Rattle.meaning.specs.Wire.{root_length, root_in, opaque_in, element_refusal}
use Rattle.meaning_laws.specs.RoundTrip.{whole}
use Rattle.meaning_layers.specs.Layers.{before_inner, eight_in, inner_of, layer_of, under, peel, read}
use Rattle.meaning_layers.proofs.LayerLaws.{inner-named}
use Rattle.meaning_layers.specs.InnerStart.{inner_start}
use Rattle.meaning_layers.proofs.InnerStart.{start-not, start-more, start-inner, peel-end, peel-part}
use Rattle.bench_words.specs.Words.{ascii, hex_of}
use Rattle.bench_lines.specs.Text.{count_line}
use Rattle.bench_layers.specs.LayerText.{eight_text, layer_text, outer_text, innermost_text, peeled_text, layers_line, or_dash}

pub eight-none : (l : List ℕ) → length l ≡ 0 → eight_text l ≡ []
unfolding eight_text
eight-none [] e = refl
eight-none (o ∷ os) e = absurd (omega arith)

pub eight-some : (l : List ℕ) → (length l ≡ 0 → ⊥) → eight_text l ≡ 47 ∷ hex_of l
unfolding eight_text
eight-some [] e = absurd (e refl)
eight-some (o ∷ os) e = refl

pub dash-none : (l : List ℕ) → length l ≡ 0 → or_dash l ≡ 45 ∷ []
unfolding or_dash
dash-none [] e = refl
dash-none (o ∷ os) e = absurd (omega arith)

pub dash-some : (l : List ℕ) → (length l ≡ 0 → ⊥) → or_dash l ≡ hex_of l
unfolding or_dash
dash-some [] e = absurd (e refl)
dash-some (o ∷ os) e = refl

-- how much of a name its root and its eight octets can be
pub root-most : (e : List ℕ) → length (root_in e) ≤ root_length e
unfolding root_in
root-most e = omega (arith, length-take (root_length e) (drop 4 e))

pub eight-most : (e : List ℕ) → length (eight_in (opaque_in e)) ≤ before_inner (opaque_in e)
unfolding eight_in
eight-most e = omega (arith, length-take (before_inner (opaque_in e)) (drop 3 (opaque_in e)))

-- a name's parts, as long as they are
pub name-sizes : (e : List ℕ) → element_refusal e ≡ 0 → 6 + root_length e ≤ length e
name-sizes e ok = omega (arith, (whole e ok).fills)

pub root-sized : (e r : List ℕ) → r ≡ root_in e → length r ≤ root_length e
root-sized e r q = rw q (root-most e)

pub eight-sized : (e r : List ℕ) → r ≡ eight_in (opaque_in e) → length r ≤ before_inner (opaque_in e)
eight-sized e r q = rw q (eight-most e)

pub rest-sized : (e : List ℕ) (k : ℕ) → length (take (length e - k) (drop k e)) ≤ length e - k
rest-sized e k = omega (arith, length-take (length e - k) (drop k e))

pub opaque-part : (e : List ℕ) (n : ℕ) → n ≡ root_length e → take (length e - (6 + n)) (drop (6 + n) e) ≡ opaque_in e
unfolding opaque_in
opaque-part e n p = take_all (length e - (6 + n)) (drop (6 + n) e) (omega (arith, length-drop (6 + n) e)) ∙ ap (λ (i : ℕ). drop (6 + i) e) p

-- ---- the two cases of the reader

pub shown-end : (e : List ℕ) (k : ℕ) → k ≡ inner_start e → k ≡ 0 → innermost_text e ≡ peeled_text (peel e)
shown-end e k s z = sym (ap peeled_text (peel-end e (sym s ∙ z)) ∙ unfold peeled_text outer_text in refl)

module _ (e : List ℕ) (k : ℕ) (s : k ≡ inner_start e) (d : k ≡ 0 → ⊥) where
  pub shown-part : layer_text (layer_of e) ++ peeled_text (peel (take (length e - k) (drop k e))) ≡ peeled_text (peel e)
  shown-part = sym (ap peeled_text (peel-part e k s d) ∙ joined)
    where
      joined : peeled_text (under (layer_of e) (peel (take (length e - k) (drop k e)))) ≡ layer_text (layer_of e) ++ peeled_text (peel (take (length e - k) (drop k e)))
      joined = unfold peeled_text under outer_text in append_assoc (layer_text (layer_of e)) _ _

  -- the layer's text is no longer than three for each of its octets
  pub part-start : k ≡ 9 + root_length e + before_inner (opaque_in e)
  part-start = s ∙ start-more e (start-not e (λ z. d (s ∙ z)))

  pub part-named : element_refusal e ≡ 0 → element_refusal (take (length e - k) (drop k e)) ≡ 0
  part-named ok =
      let l = start-not e (λ z. d (s ∙ z)) in
      let all : take (length e - k) (drop k e) ≡ inner_of e = take_all (length e - k) (drop k e) (omega (arith, length-drop k e)) ∙ ap (λ (i : ℕ). drop i e) s ∙ start-inner e l in
      ap element_refusal all ∙ inner-named e ok l

-- ---- the line

pub line_refused : (e : List ℕ) (n : ℕ) → n ≡ element_refusal e → (n ≡ 0 → ⊥) → count_line (ascii "layers") n ≡ layers_line (read e)
unfolding read layers_line
line_refused e n q d = rw (ne_eqb (element_refusal e) 0 (λ z. d (q ∙ z))) (ap (count_line (ascii "layers")) q)

pub line-shown : (e : List ℕ) (n : ℕ) → n ≡ element_refusal e → n ≡ 0 → ascii "layers 0 " ++ (peeled_text (peel e) ++ (10 ∷ [])) ≡ layers_line (read e)
unfolding read layers_line
line-shown e n q z = rw (eq-eqb (element_refusal e) 0 (sym q ∙ z)) refl
