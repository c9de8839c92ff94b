-- A message, by its refusals. Assumes nothing.
use Prim.Native.Nat.{ℕ, ◌+◌, ◌-◌, ◌≤◌, ◌<◌}
use native.Mathlib.Omega.{arith}
use mathlib.Core.Path.{◌≡◌, refl, sym, ap, ◌∙◌, subst}
use mathlib.Core.Bool.{Bool, true, false, not, and-false}
use mathlib.Core.List.{List, ◌∷◌}
use lib.ListN.{length, take, drop}
use lib.Dec.{eqb}
use borrow.Author.Tests.{le-leb, lt-leb, eqb-true, eq-eqb, ne_eqb, not-true, not-false}
use Rattle.std.specs.Option.{ok_or}
use Rattle.std.specs.declared.option.Option.{Option}
use Rattle.std.specs.declared.option.Option.TheVariants.{None, Some}
use Rattle.std.specs.declared.result.Result.TheVariants.{Ok, Err}
use Rattle.refusals.specs.declared.Refusal.{Refusal}
use Rattle.meaning.specs.Octets.{any, two_at, ◌when◌else◌}
use Rattle.meaning.specs.Lists.{no-when, picked}
use Rattle.meaning.specs.Wire as wire
use Rattle.meaning.specs.Wire.{tlvs, is_overrun, found, must, is_element, is_opaque, is_filled, opaque_in, element_refusal, is_sized, is_kind, body_of, fec_of, label_of, is_ordered, is_label, message_refusal, message_in, mapping, withdraw, release}
use Rattle.meaning_laws.specs.RoundTrip.{element-ok}
use Rattle.wire_reader.specs.Read.{tlv_at, end_of, label_in, type_of, kind_of, head_refusal, Ordered}
use Rattle.wire_reader.specs.declared.Kind.{Kind}
use Rattle.wire_reader.specs.declared.Tlv.TheVariants.{Whole}
use Rattle.wire_reader.proofs.Places.{whole-within, overrun-on, found-on, end-some, end_none, label-none, label-some}

-- a number that was given stays, whatever is tested after it
when-same : (n : ℕ) (b : Bool) (x y : ℕ) → (n when b else x ≡ 0 → ⊥) → ((x ≡ 0 → ⊥) → x ≡ y) → n when b else x ≡ n when b else y
unfolding ◌when◌else◌
when-same n true x y h k = refl
when-same n false x y h k = k h

-- what an `ok_or` was given that gave this
pub was-none : {A : Type 0} (o : Option A) (e f : Refusal) → Err e ≡ ok_or o f → (o ≡ None) × (e ≡ f)
was-none None e f q = (refl, cc)
was-none (Some a) e f q = cc

pub was-some : {A : Type 0} (o : Option A) (a : A) (f : Refusal) → Ok a ≡ ok_or o f → o ≡ Some a
was-some None a f q = cc
was-some (Some b) a f q = cc

-- what the kind of a message type says of the type
abbrev Kinds : ℕ → Option Kind → Type 0
Kinds k (Some kind) = (is_kind k ≡ true) × (type_of kind ≡ k)
Kinds k None = is_kind k ≡ false

kind-read : (k : ℕ) → Kinds k (kind_of k)
unfolding is_kind
kind-read k =
    picked (Kinds k) (eqb k mapping)
    (λ h. (rw h refl, sym (eqb-true k mapping h)))
    (λ h. picked (Kinds k) (eqb k withdraw)
    (λ g. (rw (h, g) refl, sym (eqb-true k withdraw g)))
    (λ g. picked (Kinds k) (eqb k release)
    (λ f. (rw (h, g, f) refl, sym (eqb-true k release f)))
    (λ f. rw (h, g, f) refl)))

module _ (s : List ℕ) where
  pub short-head : length s < 8 → is_sized s ≡ false
  unfolding is_sized
  short-head h = simp (lt-leb 8 (length s) h)

  pub other-size : (4 + two_at s 2 ≡ length s → ⊥) → is_sized s ≡ false
  unfolding is_sized
  other-size h = simp (ne_eqb (4 + two_at s 2) (length s) h, and-false)

  pub right-size : 8 ≤ length s → 4 + two_at s 2 ≡ length s → is_sized s ≡ true
  unfolding is_sized
  right-size h e = simp (le-leb 8 (length s) h, eq-eqb (4 + two_at s 2) (length s) e)

  pub kind-none : kind_of (two_at s 0) ≡ None → is_kind (two_at s 0) ≡ false
  kind-none q = subst (Kinds (two_at s 0)) q (kind-read (two_at s 0))

  pub kind-some : (kind : Kind) → kind_of (two_at s 0) ≡ Some kind → (is_kind (two_at s 0) ≡ true) × (type_of kind ≡ two_at s 0)
  kind-some kind q = subst (Kinds (two_at s 0)) q (kind-read (two_at s 0))

  pub head-2 : is_sized s ≡ false → 2 ≡ head_refusal s
  unfolding head_refusal ◌when◌else◌
  head-2 h = simp h

  module _ (sized : is_sized s ≡ true) where
    pub head-3 : is_kind (two_at s 0) ≡ false → 3 ≡ head_refusal s
    unfolding head_refusal ◌when◌else◌
    head-3 h = simp (sized, h)

    pub head-4 : is_kind (two_at s 0) ≡ true → not (is_overrun (tlvs (drop 8 s))) ≡ false → 4 ≡ head_refusal s
    unfolding head_refusal ◌when◌else◌
    head-4 h f = simp (sized, h, not-false (is_overrun (tlvs (drop 8 s))) f)

    pub head-0 : is_kind (two_at s 0) ≡ true → not (is_overrun (tlvs (drop 8 s))) ≡ true → 0 ≡ head_refusal s
    unfolding head_refusal ◌when◌else◌
    head-0 h f = simp (sized, h, not-true (is_overrun (tlvs (drop 8 s))) f)

  pub head-refused : (n : ℕ) → n ≡ head_refusal s → (n ≡ 0 → ⊥) → (n ≡ message_refusal s) × (0 < n)
  unfolding head_refusal message_refusal
  head-refused n e z = (
    e ∙ when-same 2 _ _ _ (λ h. z (e ∙ h)) (λ z. when-same 3 _ _ _ z (λ z. when-same 4 _ 0 _ z (λ z. absurd (z refl)))),
    omega arith,
  )

  module _ (head : head_refusal s ≡ 0) where
    headed : (is_sized s ≡ true) × (is_kind (two_at s 0) ≡ true) × (is_overrun (tlvs (drop 8 s)) ≡ false)
    unfolding head_refusal
    headed =
        let a = no-when 1 (not (is_sized s)) _ head in
        let b = no-when 2 (not (is_kind (two_at s 0))) _ a.1 in
        (not-false _ a.0, not-false _ b.0, (no-when 3 _ 0 b.1).0)

    other-order : is_ordered s ≡ false → message_refusal s ≡ 5
    unfolding message_refusal ◌when◌else◌
    other-order h = rw (headed.0, headed.1, headed.2, h)

    pub no-fec : end_of 0x0100 (tlv_at s 8) ≡ None → message_refusal s ≡ 5
    unfolding is_ordered fec_of body_of
    no-fec q = other-order (rw (end_none s 8 0x0100 (omega arith) q headed.2))

    module _ (e : ℕ) (q : end_of 0x0100 (tlv_at s 8) ≡ Some e) where
      fec : tlv_at s 8 ≡ Whole 0x0100 12 e
      fec = end-some s 8 0x0100 e q

      after-fec : body_of s ≡ record { type_field = 0x0100; value = take (e - 12) (drop 12 s) } ∷ found (tlvs (drop e s))
      unfolding body_of
      after-fec = found-on s 8 0x0100 12 e fec headed.2

      framed-fec : is_overrun (tlvs (drop e s)) ≡ false
      framed-fec = sym (overrun-on s 8 0x0100 12 e fec) ∙ headed.2

      pub no_label : end_of 0x0200 (tlv_at s e) ≡ None → message_refusal s ≡ 5
      unfolding is_ordered fec_of label_of
      no_label r = other-order (rw after-fec (end_none s e 0x0200 (omega arith) r framed-fec))

      module _ (l : ℕ) (r : end_of 0x0200 (tlv_at s e) ≡ Some l) where
        label : tlv_at s e ≡ Whole 0x0200 (e + 4) l
        label = end-some s e 0x0200 l r

        pub ordered : Ordered s e l
        ordered =
            let f = whole-within s 8 0x0100 12 e fec in
            let w = whole-within s e 0x0200 (e + 4) l label in
            record {
              head = head;
              body = after-fec ∙ ap (λ (ts : List wire.Tlv). record { type_field = 0x0100; value = take (e - 12) (drop 12 s) } ∷ ts) (found-on s e 0x0200 (e + 4) l label framed-fec);
              framed = sym (overrun-on s e 0x0200 (e + 4) l label) ∙ framed-fec;
              low = f.1;
              high = w.1;
              within = w.2;
            }

-- ---- the message behind its first two TLVs

module _ (s : List ℕ) (e l : ℕ) (o : Ordered s e l) where
  abbrev name_at : List ℕ
  name_at = take (e - 12) (drop 12 s)

  abbrev label_at : List ℕ
  label_at = take (l - (e + 4)) (drop (e + 4) s)

  refusal-after : message_refusal s ≡
      6 when not (is_element name_at) else
      7 when not (is_opaque (opaque_in name_at)) else
      18 when not (is_filled (opaque_in name_at)) else
      8 when not (is_label label_at) else
      9 when any must (found (tlvs (drop l s))) else 0
  unfolding message_refusal is_ordered fec_of label_of ◌when◌else◌
  refusal-after = let h = headed s o.head in rw (h.0, h.1, h.2, o.body)

  pub name-refused : (n : ℕ) → n ≡ element_refusal name_at → (n ≡ 0 → ⊥) → (n ≡ message_refusal s) × (0 < n)
  unfolding element_refusal
  name-refused n q z = (
    q ∙ when-same 6 _ _ _ (λ h. z (q ∙ h)) (λ z. when-same 7 _ _ _ z (λ z. when-same 18 _ 0 _ z (λ z. absurd (z refl)))) ∙ sym refusal-after,
    omega arith,
  )

  module _ (named : element_refusal name_at ≡ 0) where
    pub label-refused : label_in label_at ≡ None → 8 ≡ message_refusal s
    unfolding ◌when◌else◌
    label-refused q = let n = element-ok name_at named in sym (refusal-after ∙ rw (n.0, n.1, n.2, label-none label_at q))

    module _ (k : ℕ) (q : label_in label_at ≡ Some k) where
      refusal-last : message_refusal s ≡ 9 when any must (found (tlvs (drop l s))) else 0
      unfolding ◌when◌else◌
      refusal-last = let n = element-ok name_at named in refusal-after ∙ rw (n.0, n.1, n.2, (label-some label_at k q).0)

      pub must-refused : any must (found (tlvs (drop l s))) ≡ true → 9 ≡ message_refusal s
      unfolding ◌when◌else◌
      must-refused h = sym (refusal-last ∙ rw h)

      pub not-refused : any must (found (tlvs (drop l s))) ≡ false → message_refusal s ≡ 0
      unfolding ◌when◌else◌
      not-refused h = refusal-last ∙ rw h

      pub message-says : (t : ℕ) → t ≡ two_at s 0 → message_in s ≡ record { kind = t; name = name_at; label = k }
      unfolding message_in fec_of label_of
      message-says t w = rw (o.body, w, (label-some label_at k q).1)
