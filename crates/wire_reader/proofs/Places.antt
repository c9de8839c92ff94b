-- What stands at a place of a message, and the TLVs from there on; the label in a value. Assumes nothing.
use Prim.Native.Nat.{ℕ, suc, ◌+◌, ◌-◌, ◌≤◌, ◌<◌}
use native.Mathlib.Omega.{arith}
use mathlib.Core.Path.{◌≡◌, refl, sym, ap, ◌∙◌, subst}
use mathlib.Core.Bool.{true, false, and-false}
use mathlib.Core.List.{List, [], ◌∷◌}
use lib.ListN.{length, take, drop, get_or, length-drop, drop_of_length-le}
use lib.Seq.{drop-cons, drop-drop}
use lib.Dec.{ltb, leb, eqb}
use borrow.Author.Tests.{le-ltb, lt-ltb, ltb-true, ltb-false, le-leb, lt-leb, eqb-true, eq-eqb, ne_eqb}
use Rattle.std.specs.declared.option.Option.{Option}
use Rattle.std.specs.declared.option.Option.TheVariants.{None, Some}
use Rattle.meaning.specs.Octets.{pick, any, two_at, four_at}
use Rattle.meaning.specs.Lists.{by-test, picked}
use Rattle.meaning.specs.Wire as wire
use Rattle.meaning.specs.Wire.{Framed, framed, overrun, after, tlvs, is_overrun, found, must, absent, is_label, least_label, most_label}
use Rattle.meaning_laws.specs.WireLaws.{tlvs-end, tlvs-step, tlvs-short}
use Rattle.wire_reader.specs.Read.{tlv_at, end_of, label_in}
use Rattle.wire_reader.specs.declared.Tlv.{Tlv}
use Rattle.wire_reader.specs.declared.Tlv.TheVariants.{Whole, End, Past}

-- ---- which case of `tlv_at` holds, by the tests that `tlv_at` makes

module _ (m : List ℕ) (at : ℕ) (h : at < length m) where
  pub no-head : length m - at < 4 → Past ≡ tlv_at m at
  no-head g = simp (lt-ltb at (length m) h, lt-ltb (length m) (at + 4) (omega arith))

  pub no_value : (s : ℕ) → 4 ≤ length m - at → s ≡ two_at m (at + 2) → length m - at - 4 < s → Past ≡ tlv_at m at
  no_value s f e g =
      simp (lt-ltb at (length m) h, le-ltb (length m) (at + 4) (omega arith), lt-ltb (length m) (at + 4 + two_at m (at + 2)) (omega arith))

  pub is_whole : (n s : ℕ) → 4 ≤ length m - at → n ≡ two_at m at → s ≡ two_at m (at + 2) → s ≤ length m - at - 4 → Whole n (at + 4) (at + 4 + s) ≡ tlv_at m at
  is_whole n s f d e g =
      simp (d, e, lt-ltb at (length m) h, le-ltb (length m) (at + 4) (omega arith), le-ltb (length m) (at + 4 + two_at m (at + 2)) (omega arith))

-- ---- the TLVs from a place on

module _ (s : List ℕ) (at : ℕ) where
  head-drop : at + 4 ≤ length s → drop at s ≡ get_or s at 0 ∷ get_or s (at + 1) 0 ∷ get_or s (at + 2) 0 ∷ get_or s (at + 2 + 1) 0 ∷ drop (at + 4) s
  head-drop h =
      let p : suc at ≡ at + 1 = omega arith in
      let q : suc (at + 1) ≡ at + 2 = omega arith in
      let r : suc (at + 2) ≡ at + 2 + 1 = omega arith in
      let t : suc (at + 2 + 1) ≡ at + 4 = omega arith in
      rw (drop-cons s at 0 (omega arith), p, drop-cons s (at + 1) 0 (omega arith), q, drop-cons s (at + 2) 0 (omega arith), r, drop-cons s (at + 2 + 1) 0 (omega arith), t)

  tlvs-at : at + 4 ≤ length s
      → tlvs (drop at s)
      ≡ pick (leb (two_at s (at + 2)) (length s - (at + 4)))
      (after (record { type_field = two_at s at; value = take (two_at s (at + 2)) (drop (at + 4) s) }) (tlvs (drop (at + 4 + two_at s (at + 2)) s)))
      overrun
  unfolding two_at
  tlvs-at h =
      ap tlvs (head-drop h)
      ∙ tlvs-step (get_or s at 0) (get_or s (at + 1) 0) (get_or s (at + 2) 0) (get_or s (at + 2 + 1) 0) (drop (at + 4) s)
      ∙ rw (length-drop, drop-drop)

-- the TLVs from a place on, by what stands there
abbrev further : List ℕ → Tlv → Framed
further s (Whole k a e) = after (record { type_field = k; value = take (e - a) (drop a s) }) (tlvs (drop e s))
further s End = framed []
further s Past = overrun

abbrev Within : List ℕ → ℕ → Tlv → Type 0
Within s at (Whole k a e) = (a ≡ at + 4) × (a ≤ e) × (e ≤ length s)
Within s at End = Unit {0}
Within s at Past = Unit {0}

module _ (s : List ℕ) (at : ℕ) where
  goes_further : tlvs (drop at s) ≡ further s (tlv_at s at)
  goes_further =
      picked (λ (t : Tlv). tlvs (drop at s) ≡ further s t) (ltb at (length s))
      (λ h. let here = ltb-true at (length s) h in
      picked (λ (t : Tlv). tlvs (drop at s) ≡ further s t) (ltb (length s) (at + 4))
      (λ g. let short = ltb-true (length s) (at + 4) g in
      tlvs-short (drop at s) (simp length-drop (omega arith)) (simp length-drop (omega arith)))
      (λ g. let head = ltb-false (length s) (at + 4) g in
      picked (λ (t : Tlv). tlvs (drop at s) ≡ further s t) (ltb (length s) (at + 4 + two_at s (at + 2)))
      (λ f. let long = ltb-true (length s) (at + 4 + two_at s (at + 2)) f in
      tlvs-at s at head ∙ rw (lt-leb (two_at s (at + 2)) (length s - (at + 4)) (omega arith)))
      (λ f. let fits = ltb-false (length s) (at + 4 + two_at s (at + 2)) f in
      let size : at + 4 + two_at s (at + 2) - (at + 4) ≡ two_at s (at + 2) = omega arith in
      tlvs-at s at head ∙ rw (le-leb (two_at s (at + 2)) (length s - (at + 4)) (omega arith), size))))
      (λ h. ap tlvs (drop_of_length-le s {i = at} (ltb-false at (length s) h)) ∙ tlvs-end)

  within : Within s at (tlv_at s at)
  within =
      picked (Within s at) (ltb at (length s))
      (λ h. picked (Within s at) (ltb (length s) (at + 4)) (λ g. tt)
      (λ g. picked (Within s at) (ltb (length s) (at + 4 + two_at s (at + 2))) (λ f. tt)
      (λ f. let fits = ltb-false (length s) (at + 4 + two_at s (at + 2)) f in (refl, omega arith, omega arith))))
      (λ h. tt)

  pub end-next : tlv_at s at ≡ End → tlvs (drop at s) ≡ framed []
  end-next p = goes_further ∙ ap (further s) p

  pub past_next : tlv_at s at ≡ Past → tlvs (drop at s) ≡ overrun
  past_next p = goes_further ∙ ap (further s) p

  module _ (k a e : ℕ) (p : tlv_at s at ≡ Whole k a e) where
    pub whole-next : tlvs (drop at s) ≡ after (record { type_field = k; value = take (e - a) (drop a s) }) (tlvs (drop e s))
    whole-next = goes_further ∙ ap (further s) p

    pub whole-within : (a ≡ at + 4) × (a ≤ e) × (e ≤ length s)
    whole-within = subst (Within s at) p within

-- ---- framing

overrun-after : (t : wire.Tlv) (f : Framed) → is_overrun (after t f) ≡ is_overrun f
unfolding is_overrun after
overrun-after t (framed ts) = refl
overrun-after t overrun = refl

found_after : (t : wire.Tlv) (f : Framed) → is_overrun f ≡ false → found (after t f) ≡ t ∷ found f
unfolding is_overrun after found
found_after t (framed ts) e = refl
found_after t overrun e = absurd (let z : ◌≡◌ {A = ℕ} 0 1 = cc in omega arith)

module _ (s : List ℕ) (at : ℕ) where
  pub overrun-end : tlv_at s at ≡ End → is_overrun (tlvs (drop at s)) ≡ false
  unfolding is_overrun
  overrun-end p = ap is_overrun (end-next s at p)

  pub overrun-past : tlv_at s at ≡ Past → is_overrun (tlvs (drop at s)) ≡ true
  unfolding is_overrun
  overrun-past p = ap is_overrun (past_next s at p)

  pub must-end : tlv_at s at ≡ End → any must (found (tlvs (drop at s))) ≡ false
  unfolding found any
  must-end p = ap (λ (f : Framed). any must (found f)) (end-next s at p)

  pub must-past : tlv_at s at ≡ Past → any must (found (tlvs (drop at s))) ≡ false
  unfolding found any
  must-past p = ap (λ (f : Framed). any must (found f)) (past_next s at p)

  module _ (k a e : ℕ) (p : tlv_at s at ≡ Whole k a e) where
    pub overrun-on : is_overrun (tlvs (drop at s)) ≡ is_overrun (tlvs (drop e s))
    overrun-on = ap is_overrun (whole-next s at k a e p) ∙ overrun-after _ (tlvs (drop e s))

    module _ (fills : is_overrun (tlvs (drop at s)) ≡ false) where
      pub found-on : found (tlvs (drop at s)) ≡ record { type_field = k; value = take (e - a) (drop a s) } ∷ found (tlvs (drop e s))
      found-on = ap found (whole-next s at k a e p) ∙ found_after _ (tlvs (drop e s)) (sym overrun-on ∙ fills)

      pub must-here : k < 0x8000 → any must (found (tlvs (drop at s))) ≡ true
      unfolding any must
      must-here h = rw (found-on, lt-ltb k 0x8000 h)

      pub must-on : 0x8000 ≤ k → any must (found (tlvs (drop at s))) ≡ any must (found (tlvs (drop e s)))
      unfolding any must
      must-on h = rw (found-on, le-ltb k 0x8000 h)

-- ---- a TLV of a given type

module _ (s : List ℕ) (at k a e : ℕ) (p : tlv_at s at ≡ Whole k a e) (n : ℕ) where
  pub end-here : k ≡ n → Some e ≡ end_of n (tlv_at s at)
  end-here h = sym (ap (end_of n) p ∙ rw (eq-eqb k n h))

  pub end-other : (k ≡ n → ⊥) → None ≡ end_of n (tlv_at s at)
  end-other h = sym (ap (end_of n) p ∙ rw (ne_eqb k n h))

module _ (s : List ℕ) (at n : ℕ) where
  pub end-some : (e : ℕ) → end_of n (tlv_at s at) ≡ Some e → tlv_at s at ≡ Whole n (at + 4) e
  end-some e q = go (tlv_at s at) refl q
    where
      go : (t : Tlv) → tlv_at s at ≡ t → end_of n t ≡ Some e → tlv_at s at ≡ Whole n (at + 4) e
      go (Whole k a i) p q =
          let a' : a ≡ at + 4 = (whole-within s at k a i p).0 in
          by-test (eqb k n)
          (λ h. let k' : k ≡ n = eqb-true k n h in let i' : Some i ≡ Some e = rw h at q in cc)
          (λ h. let no : ◌≡◌ {A = Option ℕ} None (Some e) = rw h at q in cc)
      go End p q = cc
      go Past p q = cc

  pub end_none : 0 < n → end_of n (tlv_at s at) ≡ None → is_overrun (tlvs (drop at s)) ≡ false → eqb (get_or (found (tlvs (drop at s))) 0 absent).type_field n ≡ false
  unfolding absent found
  end_none some q fills = go (tlv_at s at) refl q
    where
      go : (t : Tlv) → tlv_at s at ≡ t → end_of n t ≡ None → eqb (get_or (found (tlvs (drop at s))) 0 absent).type_field n ≡ false
      go (Whole k a i) p q = rw (found-on s at k a i p fills) (
          by-test (eqb k n)
          (λ h. let no : ◌≡◌ {A = Option ℕ} (Some i) None = rw h at q in cc)
          (λ h. h))
      go End p q = rw (end-next s at p) (ne_eqb 0 n (λ h. omega arith))
      go Past p q = rw (past_next s at p) (ne_eqb 0 n (λ h. omega arith))

-- ---- the label in a value

module _ (v : List ℕ) where
  pub label-size : (length v ≡ 4 → ⊥) → None ≡ label_in v
  unfolding label_in is_label
  label-size h = simp (ne_eqb _ _ h)

  module _ (l : ℕ) (e : l ≡ four_at v 0) where
    pub label-low : l < 16 → None ≡ label_in v
    unfolding label_in is_label
    label-low h = simp (← e, lt-leb least_label l h, and-false)

    pub label-high : most_label < l → None ≡ label_in v
    unfolding label_in is_label
    label-high h = simp (← e, lt-leb l most_label h, and-false)

    pub label-right : length v ≡ 4 → least_label ≤ l → l ≤ most_label → Some l ≡ label_in v
    unfolding label_in is_label
    label-right h low high = simp (← e, eq-eqb _ _ h, le-leb least_label l low, le-leb l most_label high)

  pub label-none : label_in v ≡ None → is_label v ≡ false
  unfolding label_in
  label-none q =
      by-test (is_label v)
      (λ h. let no : ◌≡◌ {A = Option ℕ} (Some (four_at v 0)) None = rw h at q in cc)
      (λ h. h)

  pub label-some : (l : ℕ) → label_in v ≡ Some l → (is_label v ≡ true) × (l ≡ four_at v 0)
  unfolding label_in
  label-some l q =
      by-test (is_label v)
      (λ h. let same : Some (four_at v 0) ≡ Some l = rw h at q in (h, cc))
      (λ h. let no : ◌≡◌ {A = Option ℕ} None (Some l) = rw h at q in cc)
