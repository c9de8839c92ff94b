-- A name is its family, root and opaque value; and what is written is read back.
-- Assumes nothing.
use Prim.Native.Nat.{ℕ, zero, suc, ◌+◌, ◌*◌, ◌/◌, ◌%◌, ◌≤◌, ◌<◌}
use Rattle.std.proofs.Common.{not-suc-le-zero, ◌∙◌}
use native.Mathlib.Omega.{arith}
use Rattle.std.specs.Prelude.{◌↔◌, ◌≡◌, Bool, true, false, not, ◌&&◌, eqb, leb}
use Rattle.std.proofs.Math.Path.{refl, sym, ap, ap₂}
use mathlib.Core.List.{List, [], ◌∷◌, ◌++◌}
use Rattle.std.proofs.Math.ListN.{take, drop, get_or, length, length-append, length-drop, length-take}
use Rattle.std.proofs.Math.Seq.{drop-cons, drop-drop, take-append_seam, drop-append_seam}
use borrow.Author.Tests.{eqb-true, ltb-true, leb-true, eq-eqb, ne_eqb, le-leb, not-false}
use Rattle.meaning.specs.Octets.{any, two, four, two_at, four_at, ◌when◌else◌}
use Rattle.meaning.specs.Wire.{address_length, family_in, root_length, opaque_length, root_in, opaque_in, is_element, opaque_limit, is_opaque, is_filled, element_refusal, element, framed, after, tlvs, tlv, Message, is_kind, is_sized, is_label, is_ordered, is_overrun, message_in, octets_of, message_refusal, fec_of, label_of, body_of, found, Sent, record_of, records, next_id, records_f, name_limit, least_label, most_label}
use Rattle.meaning_laws.specs.WireLaws.{tlvs-end, tlvs-step, element-0}
use Rattle.meaning.specs.Lists.{by-test, no-when}
use Rattle.meaning.specs.Card.{neighbour_count}

pub both : (a b : Bool) → (a && b) ≡ true → (a ≡ true) × (b ≡ true)
both true true e = (refl, refl)
both true false e = (refl, e)
both false true e = (e, refl)
both false false e = (e, e)

-- ---- names

-- what 6, 7 and 18 leave
pub record Whole (e : List ℕ) : Type 0 where
  pub kind : get_or e 0 0 ≡ 6
  pub family : (family_in e ≤ 2) × (root_length e ≤ 16)
  pub address : get_or e 3 0 ≡ root_length e
  pub fills : length e ≡ 6 + root_length e + opaque_length e
  pub some : 0 < length (opaque_in e)
  pub fits : length (opaque_in e) ≤ opaque_limit
  pub opaque : length (opaque_in e) ≡ opaque_length e
  pub filled : is_filled (opaque_in e) ≡ true

known : (f : ℕ) → 0 < address_length f → (f ≤ 2) × (address_length f ≤ 16)
unfolding address_length
known f h =
    by-test (eqb f 1)
    (λ e. let one = eqb-true f 1 e in (omega arith, rw e (omega arith)))
    (λ e. by-test (eqb f 2)
    (λ k. let two' = eqb-true f 2 k in (omega arith, rw (e, k) (omega arith)))
    (λ k. absurd (not-suc-le-zero (rw (e, k) at h))))

module _ (e : List ℕ) (ok : element_refusal e ≡ 0) where
  pub element-ok : (is_element e ≡ true) × (is_opaque (opaque_in e) ≡ true) × (is_filled (opaque_in e) ≡ true)
  unfolding element_refusal
  element-ok = let r = no-when 5 (not (is_element e)) _ ok in let o = no-when 6 (not (is_opaque (opaque_in e))) _ r.1 in (not-false _ r.0, not-false _ o.0, not-false _ (no-when 17 _ _ o.1).0)

  pub whole : Whole e
  unfolding is_element is_opaque root_length opaque_in
  whole =
      let a = both _ _ element-ok.0 in
      let c = both _ _ a.0 in
      let d = both _ _ c.0 in
      let o = both _ _ element-ok.1 in
      let fills : length e ≡ 6 + address_length (family_in e) + opaque_length e = eqb-true _ _ a.1 in
      record {
        kind = eqb-true _ _ d.0;
        family = known (family_in e) (ltb-true _ _ d.1);
        address = eqb-true _ _ c.1;
        fills = fills;
        some = ltb-true _ _ o.0;
        fits = leb-true _ _ o.1;
        opaque = length-drop (6 + address_length (family_in e)) e ∙ (omega arith);
        filled = element-ok.2;
      }

four-first : (e : List ℕ) → 4 ≤ length e → e ≡ get_or e 0 0 ∷ get_or e 1 0 ∷ get_or e 2 0 ∷ get_or e 3 0 ∷ drop 4 e
four-first [] h = absurd (omega arith)
four-first (a ∷ []) h = absurd (omega arith)
four-first (a ∷ b ∷ []) h = absurd (omega arith)
four-first (a ∷ b ∷ c ∷ []) h = absurd (omega arith)
four-first (a ∷ b ∷ c ∷ d ∷ e) h = refl

split : (n : ℕ) (l : List ℕ) → l ≡ take n l ++ drop n l
split zero l = refl
split (suc n) [] = refl
split (suc n) (x ∷ l) = ap (λ (k : List ℕ). x ∷ k) (split n l)

-- two octets whose number is small
two-small : (x y n : ℕ) → x * 256 + y ≡ n → n < 256 → (x ≡ n / 256 % 256) × (y ≡ n % 256)
two-small x y n e h = (omega arith, omega arith)

module _ (e : List ℕ) (long : 6 + root_length e ≤ length e) where
  pub root-size : length (root_in e) ≡ root_length e
  unfolding root_in
  root-size = length-take (root_length e) (drop 4 e) ∙ omega (arith, length-drop 4 e)

  opaque-tail : drop (root_length e) (drop 4 e) ≡ get_or e (4 + root_length e) 0 ∷ get_or e (4 + root_length e + 1) 0 ∷ opaque_in e
  unfolding opaque_in
  opaque-tail =
      let r : ℕ = root_length e in
      let p : suc (4 + r) ≡ 4 + r + 1 = omega arith in
      let q : suc (suc (4 + r)) ≡ 6 + r = omega arith in
      drop-drop r 4 e
      ∙ drop-cons e (4 + r) 0 (omega arith)
      ∙ ap (λ (l : List ℕ). get_or e (4 + r) 0 ∷ l) (drop-cons e (suc (4 + r)) 0 (omega arith) ∙ ap₂ (λ (i j : ℕ). get_or e i 0 ∷ drop j e) p q)

  after-four : drop 4 e ≡ root_in e ++ (get_or e (4 + root_length e) 0 ∷ get_or e (4 + root_length e + 1) 0 ∷ opaque_in e)
  unfolding root_in
  after-four = split (root_length e) (drop 4 e) ∙ ap (λ (l : List ℕ). take (root_length e) (drop 4 e) ++ l) opaque-tail

-- a name is its three parts
pub element-parts : (e : List ℕ) → element_refusal e ≡ 0 → e ≡ element (family_in e) (root_in e) (opaque_in e)
unfolding element two
element-parts e ok =
    let w : Whole e = whole e ok in
    let r : ℕ = root_length e in
    let long : 6 + r ≤ length e = omega (arith, w.fills) in
    let fam = two-small (get_or e 1 0) (get_or e 2 0) (family_in e) (unfold family_in two_at in refl) (omega (arith, w.family)) in
    let field : opaque_length e ≡ get_or e (4 + r) 0 * 256 + get_or e (4 + r + 1) 0 = unfold opaque_length two_at in refl in
    let opq = two-small (get_or e (4 + r) 0) (get_or e (4 + r + 1) 0) (length (opaque_in e)) (sym (w.opaque ∙ field)) (omega (arith, w.fits)) in
    four-first e (omega arith)
    ∙ ap₂ (λ (x : ℕ) (l : List ℕ). x ∷ get_or e 1 0 ∷ get_or e 2 0 ∷ get_or e 3 0 ∷ l) w.kind (after-four e long)
    ∙ ap₂ (λ (x y : ℕ). 6 ∷ x ∷ y ∷ get_or e 3 0 ∷ (root_in e ++ (get_or e (4 + r) 0 ∷ get_or e (4 + r + 1) 0 ∷ opaque_in e))) fam.0 fam.1
    ∙ ap (λ (x : ℕ). 6 ∷ family_in e / 256 % 256 ∷ family_in e % 256 ∷ x ∷ (root_in e ++ (get_or e (4 + r) 0 ∷ get_or e (4 + r + 1) 0 ∷ opaque_in e))) (w.address ∙ sym (root-size e long))
    ∙ ap₂ (λ (x y : ℕ). 6 ∷ family_in e / 256 % 256 ∷ family_in e % 256 ∷ length (root_in e) ∷ (root_in e ++ (x ∷ y ∷ opaque_in e))) opq.0 opq.1

-- Two names that 6, 7 and 18 pass are equal exactly where family, root and opaque value are.
pub same_parts : (a b : List ℕ) → element_refusal a ≡ 0 → element_refusal b ≡ 0
    → a ≡ b ↔ ((family_in a ≡ family_in b) × (root_in a ≡ root_in b) × (opaque_in a ≡ opaque_in b))
same_parts a b ok ok' = (
  (λ e. (ap family_in e, ap root_in e, ap opaque_in e)),
  (λ p. element-parts a ok
      ∙ ap₂ (λ (f : ℕ) (r : List ℕ). element f r (opaque_in a)) p.0 p.1
      ∙ ap (element (family_in b) (root_in b)) p.2
      ∙ sym (element-parts b ok')),
)

-- ---- TLVs

pub two_back : (n : ℕ) → n < 65536 → n / 256 % 256 * 256 + n % 256 ≡ n
two_back n h = omega arith

pub tlvs-write : (t : ℕ) (v rest : List ℕ) → t < 65536 → length v < 65536 → tlvs (tlv t v rest) ≡ after (record { type_field = t; value = v }) (tlvs rest)
unfolding tlv two
tlvs-write t v rest h k =
    tlvs-step (t / 256 % 256) (t % 256) (length v / 256 % 256) (length v % 256) (v ++ rest)
    ∙ rw (two_back t h, two_back (length v) k, le-leb (length v) (length (v ++ rest)) (rw length-append (omega arith)), take-append_seam, drop-append_seam) refl

-- ---- messages

pub record Sayable (m : Message) : Type 0 where
  pub kind : is_kind m.kind ≡ true
  pub kind_fits : m.kind < 65536
  pub name : element_refusal m.name ≡ 0
  pub low : least_label ≤ m.label
  pub high : m.label ≤ most_label

four-back : (l : ℕ) → l ≤ most_label → four_at (four l) 0 ≡ l
unfolding four_at two_at four
four-back l h = omega arith

module _ (id : ℕ) (m : Message) (g : Sayable m) where
  name-length : length m.name ≤ name_limit
  name-length = let w = whole m.name g.name in omega (arith, w.fills, w.family.1, w.fits, w.opaque)

  body_back : tlvs (drop 8 (octets_of id m)) ≡ framed (record { type_field = 0x0100; value = m.name } ∷ record { type_field = 0x0200; value = four m.label } ∷ [])
  unfolding octets_of two four after
  body_back =
      tlvs-write 0x0100 m.name _ (omega arith) (omega (arith, name-length))
      ∙ ap (after _) (tlvs-write 0x0200 (four m.label) [] (omega arith) (unfold four in omega arith) ∙ ap (after _) tlvs-end)

  kind-back : two_at (octets_of id m) 0 ≡ m.kind
  unfolding octets_of two two_at
  kind-back = two_back m.kind g.kind_fits

  pub message-back : message_in (octets_of id m) ≡ m
  unfolding message_in fec_of label_of body_of found
  message-back = rw body_back (λ i. record { kind = kind-back i; name = m.name; label = four-back m.label g.high i })

  after-length : ℕ
  after-length = length (four id ++ tlv 0x0100 m.name (tlv 0x0200 (four m.label) []))

  after_is : after-length ≡ 16 + length m.name
  unfolding after-length tlv two four
  after_is = omega (arith, length-append m.name (tlv 0x0200 (four m.label) []))

  -- a message for a name of n octets has 20 + n
  pub message-length : length (octets_of id m) ≡ 20 + length m.name
  unfolding octets_of two after-length
  message-length = let n = after_is in omega arith

  pub length-field : 4 + two_at (octets_of id m) 2 ≡ length (octets_of id m)
  unfolding octets_of two two_at after-length
  length-field = let n = after_is in omega (arith, name-length, two_back after-length (omega (arith, name-length)))

  sized-back : is_sized (octets_of id m) ≡ true
  unfolding is_sized
  sized-back = rw (le-leb 8 (length (octets_of id m)) (rw message-length (omega arith)), eq-eqb (4 + two_at (octets_of id m) 2) (length (octets_of id m)) length-field) refl

  label-back : is_label (four m.label) ≡ true
  unfolding is_label
  label-back = rw (four-back m.label g.high, le-leb least_label m.label g.low, le-leb m.label most_label g.high) (unfold four in refl)

  -- every reader takes what we write
  pub message-taken : message_refusal (octets_of id m) ≡ 0
  unfolding message_refusal fec_of label_of body_of found is_overrun is_ordered ◌when◌else◌ any
  message-taken =
      let ok = element-ok m.name g.name in
      rw (sized-back, kind-back, g.kind, body_back, ok.0, ok.1, ok.2, label-back) refl

-- ---- records: what is written is read back

pub record Sendable (m : Sent) : Type 0 where
  pub near : m.to < neighbour_count
  pub says : Sayable m.message

unfoldable pub AllSendable : List Sent → Type 0
AllSendable [] = Unit {0}
AllSendable (m ∷ ms) = Sendable m × AllSendable ms

pub sendable-append : (ms ns : List Sent) → AllSendable ms → AllSendable ns → AllSendable (ms ++ ns)
unfolding AllSendable
sendable-append [] ns p q = q
sendable-append (m ∷ ms) ns p q = (p.0, sendable-append ms ns p.1 q)

-- the first record of octets that begin with one
module _ (id : ℕ) (m : Sent) (g : Sendable m) (rest : List ℕ) where
  to_back : two_at (record_of id m ++ rest) 2 ≡ m.to
  unfolding record_of two two_at
  to_back = two_back m.to (omega (arith, g.near))

  field_back : two_at (record_of id m ++ rest) 6 ≡ two_at (octets_of id m.message) 2
  unfolding record_of octets_of two two_at
  field_back = refl

  size_back : 4 + two_at (record_of id m ++ rest) 6 ≡ length (octets_of id m.message)
  size_back = ap (λ (k : ℕ). 4 + k) field_back ∙ length-field id m.message g.says

  first_back : take (4 + two_at (record_of id m ++ rest) 6) (drop 4 (record_of id m ++ rest)) ≡ octets_of id m.message
  first_back = rw size_back (unfold record_of two in take-append_seam (octets_of id m.message) rest)

  rest_back : drop (4 + two_at (record_of id m ++ rest) 6) (drop 4 (record_of id m ++ rest)) ≡ rest
  rest_back = rw size_back (unfold record_of two in drop-append_seam (octets_of id m.message) rest)

  record-long : suc (length rest) ≤ length (record_of id m ++ rest)
  unfolding record_of two
  record-long = rw length-append (omega arith)

pub records-back : (f id : ℕ) (ms : List Sent) → length (records id ms) ≤ f → AllSendable ms → records_f f (records id ms) ≡ ms
unfolding records_f records AllSendable
records-back zero id [] h p = refl
records-back (suc f) id [] h p = refl
records-back zero id (m ∷ ms) h p = let long = record-long id m p.0 (records (next_id id) ms) in absurd (omega arith)
records-back (suc f) id (m ∷ ms) h p =
    let rest : List ℕ = records (next_id id) ms in
    let long = record-long id m p.0 rest in
    rw (ne_eqb (length (record_of id m ++ rest)) 0 (λ z. omega arith))
    (rw (to_back id m p.0 rest, first_back id m p.0 rest, rest_back id m p.0 rest, message-back id m.message p.0.says, records-back f (next_id id) ms (omega arith) p.1) refl)

-- ---- what a message that is not refused says

pub record Heard (n : ℕ) (a : List ℕ) (l : ℕ) : Type 0 where
  pub near : n < neighbour_count
  pub name : element_refusal a ≡ 0
  pub low : least_label ≤ l
  pub high : l ≤ most_label

label-ok : (v : List ℕ) → is_label v ≡ true → (least_label ≤ four_at v 0) × (four_at v 0 ≤ most_label)
unfolding is_label
label-ok v e =
    let a = both (eqb (length v) 4 && leb least_label (four_at v 0)) (leb (four_at v 0) most_label) e in
    let b = both (eqb (length v) 4) (leb least_label (four_at v 0)) a.0 in
    (leb-true _ _ b.1, leb-true _ _ a.1)

pub heard : (n : ℕ) (s : List ℕ) → n < neighbour_count → message_refusal s ≡ 0 → Heard n (message_in s).name (message_in s).label
unfolding message_refusal message_in
heard n s near e =
    let p2 = no-when 1 _ _ e in
    let p3 = no-when 2 _ _ p2.1 in
    let p4 = no-when 3 _ _ p3.1 in
    let p5 = no-when 4 _ _ p4.1 in
    let p6 = no-when 5 _ _ p5.1 in
    let p7 = no-when 6 _ _ p6.1 in
    let p18 = no-when 17 _ _ p7.1 in
    let p8 = no-when 7 _ _ p18.1 in
    let l = label-ok (label_of s).value (not-false _ p8.0) in
    record { near = near; name = element-0 (fec_of s).value (not-false _ p6.0) (not-false _ p7.0) (not-false _ p18.0); low = l.0; high = l.1 }

-- a name that 6, 7 and 18 pass has at most 22 octets besides its opaque value
pub name-fits : (e : List ℕ) → element_refusal e ≡ 0 → length e ≤ name_limit
name-fits e ok = let w = whole e ok in omega (arith, w.fills, w.family, w.fits, w.opaque)
