-- An element made of its parts is read back as these (`element-parts` of meaning's RoundTrip is the way back), and a name's root has 4 octets or 16.
-- Assumes nothing.
use Rattle.std.specs.Prelude.{ℕ, ◌+◌, ◌*◌, ◌/◌, ◌%◌, ◌<◌, ◌≡◌, true, ◌&&◌, eqb, ltb}
use native.Mathlib.Omega.{arith}
use Rattle.std.proofs.Math.Path.{refl, sym, ap, ap₂}
use Rattle.std.proofs.Common.{◌∙◌, drop-drop, get_or-drop, get_or-append-add, eqb-true, ltb-true}
use mathlib.Core.List.{List, ◌++◌}
use Rattle.std.proofs.Math.ListN.{take, drop, get_or, length, length-append}
use Rattle.std.proofs.Math.Seq.{take-append_seam, drop-append_seam}
use Rattle.meaning.specs.Octets.{two, two_at}
use Rattle.meaning.specs.Wire.{address_length, family_in, root_length, opaque_length, root_in, opaque_in, is_element, element_refusal, element}
use Rattle.meaning.specs.Lists.{by-test}
use Rattle.meaning_laws.specs.RoundTrip.{both, element-ok, two_back}
use Rattle.meaning_laws.specs.WireLaws.{element-whole}

-- ---- reading what was made

module _ (f : ℕ) (small : f < 65536) (root o : List ℕ) (right : address_length f ≡ length root) (short : length o < 65536) where
  abbrev e : List ℕ
  e = element f root o

  made-family : family_in e ≡ f
  unfolding family_in two_at element two
  made-family = two_back f small

  made-length : root_length e ≡ length root
  unfolding root_length
  made-length = ap address_length made-family ∙ right

  after-head : drop 4 e ≡ root ++ (two (length o) ++ o)
  unfolding element two
  after-head = refl

  pub made-root : root_in e ≡ root
  unfolding root_in
  made-root = ap₂ (λ (n : ℕ) (l : List ℕ). take n l) made-length after-head ∙ take-append_seam root (two (length o) ++ o)

  field : (i : ℕ) → get_or e (4 + (length root + i)) 0 ≡ get_or (two (length o) ++ o) i 0
  field i = sym (get_or-drop 4 e (length root + i) 0) ∙ ap (λ (l : List ℕ). get_or l (length root + i) 0) after-head ∙ get_or-append-add root (two (length o) ++ o) i 0

  made-field : opaque_length e ≡ length o
  unfolding opaque_length two_at
  made-field =
      let p : 4 + length root ≡ 4 + (length root + 0) = omega arith in
      let q : 4 + length root + 1 ≡ 4 + (length root + 1) = omega arith in
      let hi : get_or e (4 + root_length e) 0 ≡ length o / 256 % 256 = ap (λ (n : ℕ). get_or e (4 + n) 0) made-length ∙ ap (λ (n : ℕ). get_or e n 0) p ∙ field 0 ∙ unfold two in refl in
      let lo : get_or e (4 + root_length e + 1) 0 ≡ length o % 256 = ap (λ (n : ℕ). get_or e (4 + n + 1) 0) made-length ∙ ap (λ (n : ℕ). get_or e n 0) q ∙ field 1 ∙ unfold two in refl in
      ap₂ (λ (a b : ℕ). a * 256 + b) hi lo ∙ two_back (length o) short

  pub made-opaque : opaque_in e ≡ o
  unfolding opaque_in
  made-opaque =
      let p : 6 + length root ≡ 4 + (length root + 2) = omega arith in
      ap (λ (n : ℕ). drop (6 + n) e) made-length
      ∙ ap (λ (n : ℕ). drop n e) p
      ∙ sym (drop-drop (length root + 2) 4 e)
      ∙ ap (drop (length root + 2)) after-head
      ∙ sym (drop-drop 2 (length root) (root ++ (two (length o) ++ o)))
      ∙ ap (drop 2) (drop-append_seam root (two (length o) ++ o))
      ∙ unfold two in refl

  pub made-size : length e ≡ 6 + length root + length o
  unfolding element two
  made-size = omega (arith, length-append root (two (length o) ++ o))

  pub made-element : 0 < length root → is_element e ≡ true
  made-element some =
      element-whole e (unfold element in refl) (rw made-length some) (address ∙ sym made-length) (made-size ∙ ap₂ (λ (a b : ℕ). 6 + a + b) (sym made-length) (sym made-field))
    where
      address : get_or e 3 0 ≡ length root
      address = unfold element two in refl

-- ---- a root's family

-- of a known family, the root has 4 octets or 16
pub family-cases : {X : Type 0} (f : ℕ) → 0 < address_length f → (f ≡ 1 → address_length f ≡ 4 → X) → (f ≡ 2 → address_length f ≡ 16 → X) → X
unfolding address_length
family-cases f h one twice =
    by-test (eqb f 1)
    (λ e. one (eqb-true f 1 e) (rw e refl))
    (λ e. by-test (eqb f 2)
    (λ k. twice (eqb-true f 2 k) (rw (e, k) refl))
    (λ k. absurd (let z : 0 < 0 = rw (e, k) at h in omega arith)))

known-family : (e : List ℕ) → is_element e ≡ true → 0 < root_length e
unfolding is_element
known-family e h =
    let a = both (eqb (get_or e 0 0) 6 && ltb 0 (root_length e) && eqb (get_or e 3 0) (root_length e)) (eqb (length e) (6 + root_length e + opaque_length e)) h in
    let c = both (eqb (get_or e 0 0) 6 && ltb 0 (root_length e)) (eqb (get_or e 3 0) (root_length e)) a.0 in
    let d = both (eqb (get_or e 0 0) 6) (ltb 0 (root_length e)) c.0 in
    ltb-true _ _ d.1

-- and so it is in a name that 6, 7 and 18 pass
pub root-cases : {X : Type 0} (e : List ℕ) → element_refusal e ≡ 0 → (family_in e ≡ 1 → root_length e ≡ 4 → X) → (family_in e ≡ 2 → root_length e ≡ 16 → X) → X
unfolding root_length
root-cases e ok one twice = family-cases (family_in e) (unfold root_length in known-family e (element-ok e ok).0) one twice
