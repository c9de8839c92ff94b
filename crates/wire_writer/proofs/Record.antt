-- A record by its parts: sixteen octets before the name, the name, and the eight octets of the Label TLV. Assumes nothing.
use Rattle.std.proofs.Common.{◌≡◌, ℕ, ◌+◌, ◌-◌, ◌≤◌, List, [], ◌∷◌, ◌++◌, length, refl, ap, ◌∙◌, append_assoc, arith, length-append}
use Rattle.meaning.specs.Octets.{two, four}
use Rattle.meaning.specs.Wire.{record_of, record_size, octets_of, tlv}
use Rattle.meaning.specs.Events.{tell}
use Rattle.octets.specs.Part.{mid}
use Rattle.octets.proofs.Parts.{mid-mid}

abbrev pub head_of : ℕ → ℕ → ℕ → ℕ → List ℕ
head_of id to kind size = 0x4C ∷ 0x44 ∷ (two to ++ (two kind ++ (two (16 + size) ++ (four id ++ (two 0x0100 ++ two size)))))

abbrev pub tail_of : ℕ → List ℕ
tail_of label = two 0x0200 ++ (two 4 ++ four label)

pub head-length : (id to kind size : ℕ) → length (head_of id to kind size) ≡ 16
unfolding two four
head-length id to kind size = refl

pub tail-length : (label : ℕ) → length (tail_of label) ≡ 8
unfolding two four
tail-length label = refl

-- what the length field counts: the identifier and both TLVs
after-length : (id label : ℕ) (name : List ℕ) → length (four id ++ tlv 0x0100 name (tlv 0x0200 (four label) [])) ≡ 16 + length name
unfolding tlv two four
after-length id label name = omega (arith, length-append name (tlv 0x0200 (four label) []))

pub record-parts : (id to kind label : ℕ) (name : List ℕ) → record_of id (tell to kind name label) ≡ head_of id to kind (length name) ++ (name ++ tail_of label)
unfolding record_of octets_of tlv two four
record-parts id to kind label name = rw (after-length id label name) refl

pub record-length : (id to kind label : ℕ) (name : List ℕ) → length (record_of id (tell to kind name label)) ≡ record_size name
record-length id to kind label name =
    ap length (record-parts id to kind label name)
    ∙ length-append (head_of id to kind (length name)) (name ++ tail_of label)
    ∙ omega (arith, head-length id to kind (length name), length-append name (tail_of label), tail-length label)

-- ---- written part by part

module _ {ℓ} {A : Type ℓ} where
  -- three parts one after the other are one part
  mid-three : (a p q r h g k : ℕ) (xs us vs ws : List A) → a + k ≤ length xs → length us ≡ p → length vs ≡ q → h ≡ a + p → g ≡ h + q → k ≡ p + (q + r) → mid g r (mid h q (mid a p xs us) vs) ws ≡ mid a k xs (us ++ (vs ++ ws))
  mid-three a p q r h g k xs us vs ws fits hu hv hh hg hk =
      rw (mid-mid a p q h (p + q) xs us vs (omega arith) hu hh refl)
      (mid-mid a (p + q) r g k xs (us ++ vs) ws (omega arith) (length-append us vs ∙ omega arith) (omega arith) (omega arith) ∙ ap (mid a k xs) (append_assoc us vs ws))

-- the three calls of `put_record`, each on the part that it is lent
pub put_three : (id to kind label at : ℕ) (xs us vs ws name : List ℕ) → at + record_size name ≤ length xs → us ≡ head_of id to kind (length name) → vs ≡ name → ws ≡ tail_of label
    → mid (at + 16 + length name) (at + 16 + length name + 8 - (at + 16 + length name)) (mid (at + 16) (at + 16 + length name - (at + 16)) (mid at (at + 16 - at) xs us) vs) ws ≡ mid at (record_size name) xs (record_of id (tell to kind name label))
put_three id to kind label at xs us vs ws name fits hu hv hw =
    let p : at + 16 - at ≡ 16 = omega arith in
    let q : at + 16 + length name - (at + 16) ≡ length name = omega arith in
    let r : at + 16 + length name + 8 - (at + 16 + length name) ≡ 8 = omega arith in
    rw (hu, hv, hw, p, q, r, record-parts id to kind label name)
    (mid-three at 16 (length name) 8 (at + 16) (at + 16 + length name) (record_size name) xs (head_of id to kind (length name)) name (tail_of label) fits (head-length id to kind (length name)) refl refl refl (omega arith))
