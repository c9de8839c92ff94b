-- Laws of the wire's definitions: the equations of `tlvs` that a reader expects, with no count in them.
-- Assumes nothing.
use Rattle.std.specs.Prelude.{ℕ, zero, suc, ◌+◌, ◌*◌, ◌-◌, ◌≤◌, ◌<◌, ◌≡◌, true, false, List, [], ◌∷◌, take, drop, get_or, length, eqb, leb}
use Rattle.std.proofs.Common.{not-suc-le-zero, ap, ◌∙◌, drop-drop}
use native.Mathlib.Omega.{arith}
use Rattle.std.proofs.Math.Path.{refl}
use Rattle.std.proofs.Math.Bool.{and-false, false-and}
use Rattle.std.proofs.Math.ListN.{length-drop}
use Rattle.std.proofs.Math.Seq.{get_or-drop}
use borrow.Author.Tests.{eqb-false, leb-true, leb-false, eq-eqb, ne_eqb, lt-leb, le-leb, lt-ltb}
use Rattle.meaning.specs.Octets.{pick, two_at, ◌when◌else◌}
use Rattle.meaning.specs.Wire.{framed, overrun, after, tlvs_f, tlvs, root_length, opaque_length, opaque_in, is_element, is_opaque, head_length, first_end, is_filled_f, is_filled, element_refusal, opaque_limit}
use Rattle.meaning.specs.Lists.{by-test, positive}

-- every element has a head
pub end_more : (o : List ℕ) → 3 ≤ first_end o
unfolding first_end head_length
end_more o = by-test (eqb (get_or o 0 0) 255) (λ e. rw e (omega arith)) (λ e. rw e (omega arith))

-- any count above the length gives the same
tlvs-same : (f g : ℕ) (s : List ℕ) → length s < f → length s < g → tlvs_f f s ≡ tlvs_f g s
unfolding tlvs_f
tlvs-same zero g s h k = absurd (not-suc-le-zero h)
tlvs-same (suc f) zero s h k = absurd (not-suc-le-zero k)
tlvs-same (suc f) (suc g) [] h k = refl
tlvs-same (suc f) (suc g) (a ∷ []) h k = refl
tlvs-same (suc f) (suc g) (a ∷ b ∷ []) h k = refl
tlvs-same (suc f) (suc g) (a ∷ b ∷ c ∷ []) h k = refl
tlvs-same (suc f) (suc g) (a ∷ b ∷ c ∷ d ∷ rest) h k =
    let n = c * 256 + d in
    let shorter = length-drop n rest in
    rw (tlvs-same f g (drop n rest) (omega arith) (omega arith))

pub tlvs-end : tlvs [] ≡ framed []
unfolding tlvs tlvs_f
tlvs-end = refl

pub tlvs-step : (a b c d : ℕ) (rest : List ℕ)
    → tlvs (a ∷ b ∷ c ∷ d ∷ rest)
    ≡ pick (leb (c * 256 + d) (length rest))
    (after (record { type_field = a * 256 + b; value = take (c * 256 + d) rest }) (tlvs (drop (c * 256 + d) rest)))
    overrun
unfolding tlvs tlvs_f
tlvs-step a b c d rest =
    let n = c * 256 + d in
    let shorter = length-drop n rest in
    rw (tlvs-same (suc (suc (suc (suc (length rest))))) (suc (length (drop n rest))) (drop n rest) (omega arith) (omega arith))

pub tlvs-short : (s : List ℕ) → 0 < length s → length s < 4 → tlvs s ≡ overrun
unfolding tlvs tlvs_f
tlvs-short [] h k = absurd (not-suc-le-zero h)
tlvs-short (a ∷ []) h k = refl
tlvs-short (a ∷ b ∷ []) h k = refl
tlvs-short (a ∷ b ∷ c ∷ []) h k = refl
tlvs-short (a ∷ b ∷ c ∷ d ∷ rest) h k = absurd (omega arith)

-- ---- the elements of an opaque value, with no count in them

filled-same : (f g : ℕ) (o : List ℕ) → length o < f → length o < g → is_filled_f f o ≡ is_filled_f g o
unfolding is_filled_f
filled-same zero g o h k = absurd (not-suc-le-zero h)
filled-same (suc f) zero o h k = absurd (not-suc-le-zero k)
filled-same (suc f) (suc g) o h k =
    by-test (eqb (length o) 0)
    (λ e. rw e refl)
    (λ e. let some : length o ≡ 0 → ⊥ = eqb-false (length o) 0 e in
    let first = end_more o in
    let shorter = length-drop (first_end o) o in
    rw (filled-same f g (drop (first_end o) o) (omega (arith, positive (length o) some)) (omega (arith, positive (length o) some))) refl)

pub filled-end : is_filled [] ≡ true
unfolding is_filled is_filled_f
filled-end = refl

-- an element that fits, and then others
pub filled-step : (o : List ℕ) → 0 < length o → is_filled o ≡ pick (leb (first_end o) (length o)) (is_filled (drop (first_end o) o)) false
unfolding is_filled is_filled_f
filled-step o h =
    let first = end_more o in
    let shorter = length-drop (first_end o) o in
    rw (ne_eqb (length o) 0 (λ z. omega arith), filled-same (length o) (suc (length (drop (first_end o) o))) (drop (first_end o) o) (omega arith) (omega arith)) refl

-- the same from a place on, as a reader with a place has it
module _ (o : List ℕ) (at : ℕ) where
  pub two-there : (i : ℕ) → two_at (drop at o) i ≡ two_at o (at + i)
  unfolding two_at
  two-there i =
      let next : at + (i + 1) ≡ at + i + 1 = omega arith in
      rw (get_or-drop at o i 0, get_or-drop at o (i + 1) 0, next) refl

  first-there : get_or (drop at o) 0 0 ≡ get_or o at 0
  first-there = let here : at + 0 ≡ at = omega arith in get_or-drop at o 0 0 ∙ ap (λ (i : ℕ). get_or o i 0) here

  pub end-there : first_end (drop at o) ≡ pick (eqb (get_or o at 0) 255) (5 + two_at o (at + 3)) (3 + two_at o (at + 1))
  unfolding first_end head_length
  end-there =
      rw first-there (by-test (eqb (get_or o at 0) 255)
      (λ e. rw e (ap (λ (k : ℕ). 5 + k) (two-there 3)))
      (λ e. rw e (ap (λ (k : ℕ). 3 + k) (two-there 1))))

  pub filled-there : at < length o → is_filled (drop at o) ≡ pick (leb (at + first_end (drop at o)) (length o)) (is_filled (drop (at + first_end (drop at o)) o)) false
  filled-there h =
      let left : length (drop at o) ≡ length o - at = length-drop at o in
      filled-step (drop at o) (omega arith)
      ∙ by-test (leb (at + first_end (drop at o)) (length o))
      (λ e. let fits = leb-true (at + first_end (drop at o)) (length o) e in
      let more : drop (first_end (drop at o)) (drop at o) ≡ drop (at + first_end (drop at o)) o = drop-drop (first_end (drop at o)) at o in
      rw (e, le-leb (first_end (drop at o)) (length (drop at o)) (omega arith), more) refl)
      (λ e. let over = leb-false (at + first_end (drop at o)) (length o) e in rw (e, lt-leb (first_end (drop at o)) (length (drop at o)) (omega arith)) refl)

-- ---- an element: what each test tells

module _ (e : List ℕ) where
  -- the refusal by its three tests
  pub element-6 : is_element e ≡ false → element_refusal e ≡ 6
  unfolding element_refusal ◌when◌else◌
  element-6 h = rw h refl

  pub element-kind : (get_or e 0 0 ≡ 6 → ⊥) → element_refusal e ≡ 6
  unfolding is_element
  element-kind h = element-6 (simp (ne_eqb _ _ h, false-and))

  pub element-family : root_length e ≡ 0 → element_refusal e ≡ 6
  unfolding is_element
  element-family h = element-6 (simp (h, and-false, false-and))

  pub element-length : (get_or e 3 0 ≡ root_length e → ⊥) → element_refusal e ≡ 6
  unfolding is_element
  element-length h = element-6 (simp (ne_eqb _ _ h, and-false, false-and))

  pub element-short : length e < 6 + root_length e → element_refusal e ≡ 6
  unfolding is_element
  element-short h = element-6 (simp (ne_eqb (length e) (6 + root_length e + opaque_length e) (λ k. omega arith), and-false))

  pub element-fill : (length e ≡ 6 + root_length e + opaque_length e → ⊥) → element_refusal e ≡ 6
  unfolding is_element
  element-fill h = element-6 (simp (ne_eqb _ _ h, and-false))

  -- all of it in order
  pub element-whole : get_or e 0 0 ≡ 6 → 0 < root_length e → get_or e 3 0 ≡ root_length e → length e ≡ 6 + root_length e + opaque_length e → is_element e ≡ true
  unfolding is_element
  element-whole a b c d = simp (eq-eqb _ _ a, lt-ltb _ _ b, eq-eqb _ _ c, eq-eqb _ _ d)

  pub opaque-length : length e ≡ 6 + root_length e + opaque_length e → length (opaque_in e) ≡ opaque_length e
  unfolding opaque_in
  opaque-length d = length-drop (6 + root_length e) e ∙ (omega arith)

  pub element-7 : is_element e ≡ true → is_opaque (opaque_in e) ≡ false → element_refusal e ≡ 7
  unfolding element_refusal ◌when◌else◌
  element-7 h k = rw (h, k) refl

  pub element-18 : is_element e ≡ true → is_opaque (opaque_in e) ≡ true → is_filled (opaque_in e) ≡ false → element_refusal e ≡ 18
  unfolding element_refusal ◌when◌else◌
  element-18 h k f = rw (h, k, f) refl

  pub element-0 : is_element e ≡ true → is_opaque (opaque_in e) ≡ true → is_filled (opaque_in e) ≡ true → element_refusal e ≡ 0
  unfolding element_refusal ◌when◌else◌
  element-0 h k f = rw (h, k, f) refl

  -- the opaque value's length, by the field that gives it
  module _ (k : ℕ) (long : length (opaque_in e) ≡ k) where
    pub opaque-none : k ≡ 0 → is_opaque (opaque_in e) ≡ false
    unfolding is_opaque
    opaque-none z = simp (long, z, false-and)

    pub opaque-long : opaque_limit < k → is_opaque (opaque_in e) ≡ false
    unfolding is_opaque
    opaque-long h = simp (long, lt-leb k opaque_limit h, and-false)

    pub opaque-right : 0 < k → k ≤ opaque_limit → is_opaque (opaque_in e) ≡ true
    unfolding is_opaque
    opaque-right h₁ h₂ = simp (long, lt-ltb 0 k h₁, le-leb k opaque_limit h₂)
