-- THE LAYERS OF A NAME: the equations of `peel` with no count in them, the layers of a wrapped name, the way back from the layers to the name, and how many there can be.
-- Assumes nothing.
use Rattle.std.specs.Prelude.{ℕ, zero, suc, ◌+◌, ◌*◌, ◌≤◌, ◌<◌, ◌≡◌, true, false, length}
use Rattle.std.proofs.Common.{le_refl, arith, ap₂, ◌∙◌, length-drop}
use Rattle.std.proofs.Math.Path.{refl, ap}
use mathlib.Core.List.{List, [], ◌∷◌, ◌++◌}
use Rattle.std.proofs.lemmas.Bool.{not-false}
use Rattle.meaning.specs.Wire.{root_length, root_in, opaque_in, element_refusal, opaque_limit}
use Rattle.meaning.specs.Lists.{by-test}
use Rattle.meaning_laws.specs.RoundTrip.{whole}
use Rattle.meaning_layers.specs.Layers.{before_inner, eight_in, inner_in, is_last, inner_of, Layer, layer_of, Peeled, under, peel_f, peel, wrapped, wrap, wrap_all}
use Rattle.meaning_layers.specs.ElementLaws.{root-cases}
use Rattle.meaning_layers.specs.LayerLaws.{least_name}
use Rattle.meaning_layers.proofs.LayerLaws.{name-long, wrapped-not-last, wrapped-inner, wrapped-layer, wraps-so, inner-named, wrapped-back, wrap-taken}
use Rattle.meaning_layers.specs.PeelLaws.{Fits, layer_limit}

-- ---- the name inside is shorter

inner-less : (o : List ℕ) → 3 ≤ length o → length (inner_in o) + 3 ≤ length o
unfolding inner_in
inner-less o h = omega (arith, length-drop (3 + before_inner o) o)

-- by the layer's own octets: three before what it holds
pub inner-three : (e : List ℕ) → is_last e ≡ false → length (inner_of e) + 3 ≤ length (opaque_in e)
unfolding is_last inner_of
inner-three e more =
    let w = wraps-so (opaque_in e) (not-false _ more) in
    inner-less (opaque_in e) (omega (arith, w.alone))

opaque-less : (e : List ℕ) → length (opaque_in e) ≤ length e
unfolding opaque_in
opaque-less e = omega (arith, length-drop (6 + root_length e) e)

pub inner-shorter : (e : List ℕ) → is_last e ≡ false → length (inner_of e) < length e
inner-shorter e more = omega (arith, inner-three e more, opaque-less e)

-- ---- equations of `peel`

peel-same : (f g : ℕ) (e : List ℕ) → length e ≤ f → length e ≤ g → peel_f f e ≡ peel_f g e
unfolding peel_f
peel-same zero zero e h k = refl
peel-same zero (suc g) e h k =
    by-test (is_last e)
    (λ l. rw l refl)
    (λ l. absurd (omega (arith, inner-shorter e l)))
peel-same (suc f) zero e h k =
    by-test (is_last e)
    (λ l. rw l refl)
    (λ l. absurd (omega (arith, inner-shorter e l)))
peel-same (suc f) (suc g) e h k =
    by-test (is_last e)
    (λ l. rw l refl)
    (λ l. rw (l, peel-same f g (inner_of e) (omega (arith, inner-shorter e l)) (omega (arith, inner-shorter e l))) refl)

-- a last layer is the innermost name
pub peel-last : (e : List ℕ) → is_last e ≡ true → peel e ≡ record { outer = []; core = e }
unfolding peel
peel-last e l = peel-same (length e) (suc (length e)) e (le_refl _) (omega arith) ∙ unfold peel_f in rw l refl

-- any other comes before the layers of the name inside
pub peel-more : (e : List ℕ) → is_last e ≡ false → peel e ≡ under (layer_of e) (peel (inner_of e))
unfolding peel
peel-more e l =
    peel-same (length e) (suc (length (inner_of e) + length e)) e (le_refl _) (omega arith)
    ∙ stepped (length (inner_of e) + length e)
    ∙ ap (under (layer_of e)) (peel-same (length (inner_of e) + length e) (length (inner_of e)) (inner_of e) (omega arith) (le_refl _))
  where
    stepped : (f : ℕ) → peel_f (suc f) e ≡ under (layer_of e) (peel_f f (inner_of e))
    stepped f = unfold peel_f in rw l refl

-- THE LAYERS OF A WRAPPED NAME: its own, and then those of the name inside.
pub peel-wrap : (room : ℕ) (root eight name : List ℕ) → (wrap room root eight name).answer ≡ 0 → peel (wrap room root eight name).octets ≡ under (record { root = root; eight = eight }) (peel name)
peel-wrap room root eight name h =
    let t = wrap-taken room root eight name h in
    let w = t.0 in
    rw t.1 (peel-more (wrapped root eight name) (wrapped-not-last room root eight name w)
    ∙ ap₂ (λ (l : Layer) (a : List ℕ). under l (peel a)) (wrapped-layer room root eight name w) (wrapped-inner room root eight name w))

-- ---- down to the innermost: by induction on the layers

module _ (P : List ℕ → Type 0) (last : (e : List ℕ) → element_refusal e ≡ 0 → is_last e ≡ true → P e) (more : (e : List ℕ) → element_refusal e ≡ 0 → is_last e ≡ false → element_refusal (inner_of e) ≡ 0 → P (inner_of e) → P e) where
  by_layers_f : (f : ℕ) (e : List ℕ) → length e ≤ f → element_refusal e ≡ 0 → P e
  by_layers_f zero e h n = absurd (omega (arith, name-long e n))
  by_layers_f (suc f) e h n =
      by-test (is_last e)
      (λ l. last e n l)
      (λ l. more e n l (inner-named e n l) (by_layers_f f (inner_of e) (omega (arith, inner-shorter e l)) (inner-named e n l)))

  pub by-layers : (e : List ℕ) → element_refusal e ≡ 0 → P e
  by-layers e ok = by_layers_f (length e) e (le_refl _) ok

-- The layers round the innermost name make the name: reading is exact.
pub wrap-peel : (e : List ℕ) → element_refusal e ≡ 0 → wrap_all (peel e).outer (peel e).core ≡ e
wrap-peel =
    by-layers (λ (e : List ℕ). wrap_all (peel e).outer (peel e).core ≡ e)
    (λ e n l. rw (peel-last e l) (unfold wrap_all in refl))
    (λ e n l i p. rw (peel-more e l) (outside e (peel (inner_of e)) p ∙ wrapped-back e n l))
  where
    outside : (e : List ℕ) (p : Peeled) → wrap_all p.outer p.core ≡ inner_of e → wrap_all (under (layer_of e) p).outer (under (layer_of e) p).core ≡ wrapped (root_in e) (eight_in (opaque_in e)) (inner_of e)
    outside e p h = unfold under wrap_all layer_of in ap (wrapped (root_in e) (eight_in (opaque_in e))) h

-- The innermost name is a name, and a last layer.
pub core-last : (e : List ℕ) → element_refusal e ≡ 0 → (element_refusal (peel e).core ≡ 0) × (is_last (peel e).core ≡ true)
core-last =
    by-layers (λ (e : List ℕ). (element_refusal (peel e).core ≡ 0) × (is_last (peel e).core ≡ true))
    (λ e n l. rw (peel-last e l) (n, l))
    (λ e n l i p. rw (peel-more e l) (unfold under in p))

-- Put round a name they are read before its own: writing is exact.
pub peel-wraps : (ls : List Layer) (a : List ℕ) → Fits ls a → peel (wrap_all ls a) ≡ record { outer = ls ++ (peel a).outer; core = (peel a).core }
unfolding wrap_all Fits
peel-wraps [] a p = refl
peel-wraps (l ∷ ls) a p =
    peel-more (wrapped l.root l.eight (wrap_all ls a)) (wrapped-not-last _ _ _ _ p.0)
    ∙ ap₂ (λ (x : Layer) (b : List ℕ). under x (peel b)) (wrapped-layer _ _ _ _ p.0) (wrapped-inner _ _ _ _ p.0)
    ∙ ap (under l) (peel-wraps ls a p.1)
    ∙ unfold under in refl

-- ---- how many layers

-- each layer takes thirteen octets at least
pub layers-long : (e : List ℕ) → element_refusal e ≡ 0 → least_name * suc (length (peel e).outer) ≤ length e
unfolding under
layers-long =
    by-layers (λ (e : List ℕ). least_name * suc (length (peel e).outer) ≤ length e)
    (λ e n l. rw (peel-last e l) (name-long e n))
    (λ e n l i p. rw (peel-more e l) (longer e n l (length (peel (inner_of e)).outer) p))
  where
    longer : (e : List ℕ) → element_refusal e ≡ 0 → is_last e ≡ false → (k : ℕ) → least_name * suc k ≤ length (inner_of e) → least_name * suc (suc k) ≤ length e
    longer e n l k h =
        let w = whole e n in
        let r : 4 ≤ root_length e = root-cases e n (λ _ a. omega arith) (λ _ a. omega arith) in
        omega (arith, w.fills, w.opaque, inner-three e l)

-- AT MOST TEN LAYERS: nine outer ones and the innermost.
pub layers-few : (e : List ℕ) → element_refusal e ≡ 0 → suc (length (peel e).outer) ≤ layer_limit
unfolding under
layers-few e ok =
    by-test (is_last e)
    (λ l. rw (peel-last e l) (omega arith))
    (λ l. let deep = layers-long (inner_of e) (inner-named e ok l) in
    rw (peel-more e l) (few (length (peel (inner_of e)).outer) _ _ deep (inner-three e l) (whole e ok).fits))
  where
    few : (k a o : ℕ) → least_name * suc k ≤ a → a + 3 ≤ o → o ≤ opaque_limit → suc (suc k) ≤ layer_limit
    few k a o h i j = omega arith
