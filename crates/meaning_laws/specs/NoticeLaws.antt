-- Notices: what is written is read back as it was, what is read was writable, and a call has one outcome.
-- Assumes nothing.
use Prim.Native.Nat.{ℕ, zero, suc, ◌+◌, ◌*◌, ◌/◌, ◌%◌, ◌≤◌, ◌<◌}
use native.Mathlib.Omega.{arith}
use Rattle.std.specs.Prelude.{◌≡◌, true, false, not, ◌&&◌, drop, get_or, length, eqb, ltb}
use Rattle.std.proofs.Math.Path.{refl}
use Rattle.std.proofs.Common.{sym, ap, ◌∙◌, subst, drop-cons}
use mathlib.Core.List.{List, [], ◌∷◌, ◌++◌}
use borrow.Author.Tests.{eqb-true, leb-true, eq-eqb, le-leb, lt-ltb, le-ltb, not-true, not-false}
use Rattle.meaning.specs.Octets.{any, two, four, two_at, four_at, ◌when◌else◌}
use Rattle.meaning.specs.Lists.{by-test, no-when}
use Rattle.meaning.specs.Wire.{tlv, next_id}
use Rattle.meaning_laws.specs.RoundTrip.{both, two_back}
use Rattle.meaning.specs.Card.{Card}
use Rattle.meaning.specs.Events.{refuse, accept, room_short, no_neighbour}
use Rattle.meaning.specs.Calls.{Does, does-one}
use Rattle.meaning.specs.Notice.{status_of, is_status, is_fatal, status_code, copied_id, copied_type, is_ignorable, notice_due, status_value, notice_octets, notice_record, notice, notice_in, is_framed, is_told, notice_refusal}

-- ---- numbers in octets

-- each is an octet
abbrev pub Octets : List ℕ → Type 0
Octets s = (i : ℕ) → get_or s i 0 < 256

pub four-back : (n : ℕ) → n < 4294967296 → (n / 16777216 % 256 * 256 + n / 65536 % 256) * 65536 + (n / 256 % 256 * 256 + n % 256) ≡ n
four-back n h =
    let p : n / 16777216 ≡ n / 65536 / 256 = omega arith in
    rw (p, two_back (n / 65536) (omega arith), low n) (omega arith)
  where
    low : (n : ℕ) → n / 256 % 256 * 256 + n % 256 ≡ n % 65536
    low n = omega arith

module _ (s : List ℕ) (small : Octets s) where
  pub two-below : (i : ℕ) → two_at s i < 65536
  unfolding two_at
  two-below i = omega (arith, small i, small (i + 1))

  pub four_below : (i : ℕ) → four_at s i < 4294967296
  unfolding four_at
  four_below i = omega (arith, two-below i, two-below (i + 2))

  pub two-spelt : (i : ℕ) → two (two_at s i) ≡ get_or s i 0 ∷ get_or s (i + 1) 0 ∷ []
  unfolding two two_at
  two-spelt i = spelt (get_or s i 0) (get_or s (i + 1) 0) (small i) (small (i + 1))
    where
      spelt : (x y : ℕ) → x < 256 → y < 256 → (x * 256 + y) / 256 % 256 ∷ (x * 256 + y) % 256 ∷ [] ≡ x ∷ y ∷ []
      spelt x y h k = let p : (x * 256 + y) / 256 % 256 ≡ x = omega arith in let q : (x * 256 + y) % 256 ≡ y = omega arith in cc

  pub four-spelt : (i : ℕ) → four (four_at s i) ≡ get_or s i 0 ∷ get_or s (i + 1) 0 ∷ get_or s (i + 2) 0 ∷ get_or s (i + 2 + 1) 0 ∷ []
  unfolding four four_at two_at
  four-spelt i = spelt (get_or s i 0) (get_or s (i + 1) 0) (get_or s (i + 2) 0) (get_or s (i + 2 + 1) 0) (small i) (small (i + 1)) (small (i + 2)) (small (i + 2 + 1))
    where
      number : ℕ → ℕ → ℕ → ℕ → ℕ
      number x y z w = (x * 256 + y) * 65536 + (z * 256 + w)

      spelt : (x y z w : ℕ) → x < 256 → y < 256 → z < 256 → w < 256
          → number x y z w / 16777216 % 256 ∷ number x y z w / 65536 % 256 ∷ number x y z w / 256 % 256 ∷ number x y z w % 256 ∷ [] ≡ x ∷ y ∷ z ∷ w ∷ []
      spelt x y z w h₁ h₂ h₃ h₄ =
          let p : number x y z w / 16777216 % 256 ≡ x = omega arith in
          let q : number x y z w / 65536 % 256 ≡ y = omega arith in
          let r : number x y z w / 256 % 256 ≡ z = omega arith in
          let t : number x y z w % 256 ≡ w = omega arith in
          cc

  pub id_below : copied_id s < 4294967296
  unfolding copied_id
  id_below = by-test (ltb (length s) 8) (λ e. rw e (omega arith)) (λ e. rw e (four_below 4))

  pub type-below : copied_type s < 65536
  unfolding copied_type
  type-below = by-test (ltb (length s) 8) (λ e. rw e (omega arith)) (λ e. rw e (two-below 0))

-- ---- the status of a refusal

-- what the writer and the reader have to know of a refusal's number and its status data
pub record Told (number status : ℕ) : Type 0 where
  pub known : is_status status ≡ true
  pub back : status_code status % 0x40000000 ≡ status
  pub fits : status_code status < 4294967296
  pub unknown : eqb number 3 ≡ eqb status 0x04

-- a refusal that has a status is one of eleven
pub told : (number : ℕ) → eqb (status_of number) 0 ≡ false → Told number (status_of number)
unfolding status_of ◌when◌else◌ is_status any status_code is_fatal
told n h =
    by-test (eqb n 2) (λ e. at 2 (eqb-true n 2 e) (record { known = refl; back = refl; fits = omega arith; unknown = refl }))
    (λ e₂. by-test (eqb n 3) (λ e. at 3 (eqb-true n 3 e) (record { known = refl; back = refl; fits = omega arith; unknown = refl }))
    (λ e₃. by-test (eqb n 4) (λ e. at 4 (eqb-true n 4 e) (record { known = refl; back = refl; fits = omega arith; unknown = refl }))
    (λ e₄. by-test (eqb n 5) (λ e. at 5 (eqb-true n 5 e) (record { known = refl; back = refl; fits = omega arith; unknown = refl }))
    (λ e₅. by-test (eqb n 6) (λ e. at 6 (eqb-true n 6 e) (record { known = refl; back = refl; fits = omega arith; unknown = refl }))
    (λ e₆. by-test (eqb n 7) (λ e. at 7 (eqb-true n 7 e) (record { known = refl; back = refl; fits = omega arith; unknown = refl }))
    (λ e₇. by-test (eqb n 8) (λ e. at 8 (eqb-true n 8 e) (record { known = refl; back = refl; fits = omega arith; unknown = refl }))
    (λ e₈. by-test (eqb n 9) (λ e. at 9 (eqb-true n 9 e) (record { known = refl; back = refl; fits = omega arith; unknown = refl }))
    (λ e₉. by-test (eqb n 11) (λ e. at 11 (eqb-true n 11 e) (record { known = refl; back = refl; fits = omega arith; unknown = refl }))
    (λ e₁₁. by-test (eqb n 12) (λ e. at 12 (eqb-true n 12 e) (record { known = refl; back = refl; fits = omega arith; unknown = refl }))
    (λ e₁₂. by-test (eqb n 18) (λ e. at 18 (eqb-true n 18 e) (record { known = refl; back = refl; fits = omega arith; unknown = refl }))
    (λ e₁₈. let z : true ≡ false = rw (e₂, e₃, e₄, e₅, e₆, e₇, e₈, e₉, e₁₁, e₁₂, e₁₈) at h in let z' : ◌≡◌ {A = ℕ} 0 1 = cc in absurd (omega arith))))))))))))
  where
    at : (k : ℕ) → n ≡ k → Told k (status_of k) → Told n (status_of n)
    at k e t = subst (λ (m : ℕ). Told m (status_of m)) (sym e) t

-- and each status that the reader takes is some refusal's
pub record Refusal (status : ℕ) : Type 0 where
  pub number : ℕ
  pub its : status_of number ≡ status
  pub some : eqb (status_of number) 0 ≡ false
  pub unknown : eqb number 3 ≡ eqb status 0x04

pub refusal : (d : ℕ) → is_status d ≡ true → Refusal d
unfolding status_of ◌when◌else◌ is_status any
refusal d h =
    by-test (eqb d 0x04) (λ e. at 3 (eqb-true d 0x04 e) refl refl)
    (λ e₁. by-test (eqb d 0x05) (λ e. at 2 (eqb-true d 0x05 e) refl refl)
    (λ e₂. by-test (eqb d 0x06) (λ e. at 9 (eqb-true d 0x06 e) refl refl)
    (λ e₃. by-test (eqb d 0x07) (λ e. at 4 (eqb-true d 0x07 e) refl refl)
    (λ e₄. by-test (eqb d 0x08) (λ e. at 8 (eqb-true d 0x08 e) refl refl)
    (λ e₅. by-test (eqb d 0x0C) (λ e. at 6 (eqb-true d 0x0C e) refl refl)
    (λ e₆. by-test (eqb d 0x0E) (λ e. at 11 (eqb-true d 0x0E e) refl refl)
    (λ e₇. by-test (eqb d 0x16) (λ e. at 5 (eqb-true d 0x16 e) refl refl)
    (λ e₈. let z : false ≡ true = rw (e₁, e₂, e₃, e₄, e₅, e₆, e₇, e₈) at h in let z' : ◌≡◌ {A = ℕ} 0 1 = cc in absurd (omega arith)))))))))
  where
    at : (k : ℕ) → d ≡ status_of k → eqb (status_of k) 0 ≡ false → eqb k 3 ≡ eqb (status_of k) 0x04 → Refusal d
    at k e s u = record { number = k; its = sym e; some = s; unknown = rw e u }

-- ---- a record by its ten fields

unfoldable pub spread : ℕ → ℕ → ℕ → ℕ → ℕ → ℕ → ℕ → ℕ → ℕ → ℕ → List ℕ
spread mark to kind size id field length code refused_id refused_type =
    two mark ++ (two to ++ (two kind ++ (two size ++ (four id ++ (two field ++ (two length ++ (four code ++ (four refused_id ++ two refused_type))))))))

pub record-spread : (id to number : ℕ) (s : List ℕ) → notice_record id to number s ≡ spread 0x4C44 to 0x0001 18 id 0x0300 10 (status_code (status_of number)) (copied_id s) (copied_type s)
unfolding notice_record notice_octets status_value tlv spread two four
record-spread id to number s = refl

pub record-length : (id to number : ℕ) (s : List ℕ) → length (notice_record id to number s) ≡ 26
unfolding notice_record notice_octets status_value tlv two four
record-length id to number s = refl

-- the elements of a list from place i on
spelling : ℕ → ℕ → List ℕ → List ℕ
spelling zero i s = []
spelling (suc n) i s = get_or s i 0 ∷ spelling n (suc i) s

spelt : (n i : ℕ) (s : List ℕ) → length s ≡ i + n → drop i s ≡ spelling n i s
unfolding spelling
spelt zero i s e = ends i s (omega arith)
  where
    ends : (i : ℕ) (s : List ℕ) → length s ≤ i → drop i s ≡ []
    ends zero [] h = refl
    ends zero (x ∷ s) h = absurd (omega arith)
    ends (suc i) [] h = refl
    ends (suc i) (x ∷ s) h = ends i s (omega arith)
spelt (suc n) i s e = drop-cons s i 0 (omega arith) ∙ ap (λ (l : List ℕ). get_or s i 0 ∷ l) (spelt n (suc i) s (omega arith))

-- 26 octets are the record of the numbers that they hold
octets-spread : (o : List ℕ) → length o ≡ 26 → Octets o
    → o ≡ spread (two_at o 0) (two_at o 2) (two_at o 4) (two_at o 6) (four_at o 8) (two_at o 12) (two_at o 14) (four_at o 16) (four_at o 20) (two_at o 24)
unfolding spread spelling
octets-spread o e small =
    spelt 26 0 o e
    ∙ sym (rw (two-spelt o small 0, two-spelt o small 2, two-spelt o small 4, two-spelt o small 6, four-spelt o small 8, two-spelt o small 12, two-spelt o small 14, four-spelt o small 16, four-spelt o small 20, two-spelt o small 24) refl)

-- ---- what is written is read back as it was

module _ (id to number : ℕ) (s : List ℕ) (near : to ≤ 15) (fits : id < 4294967296) (small : Octets s) (due : notice_due number s ≡ true) where
  both-due : (not (eqb (status_of number) 0) ≡ true) × (not (eqb number 3 && is_ignorable (copied_type s)) ≡ true)
  unfolding notice_due
  both-due = both _ _ due

  its : Told number (status_of number)
  its = told number (not-true _ both-due.0)

  code-back : four_at (notice_record id to number s) 16 ≡ status_code (status_of number)
  unfolding notice_record notice_octets status_value tlv two four four_at two_at
  code-back = four-back (status_code (status_of number)) its.fits

  to_back : two_at (notice_record id to number s) 2 ≡ to
  unfolding notice_record notice_octets status_value tlv two four four_at two_at
  to_back = two_back to (omega arith)

  id-back : four_at (notice_record id to number s) 8 ≡ id
  unfolding notice_record notice_octets status_value tlv two four four_at two_at
  id-back = four-back id fits

  copied-back : (four_at (notice_record id to number s) 20 ≡ copied_id s) × (two_at (notice_record id to number s) 24 ≡ copied_type s)
  unfolding notice_record notice_octets status_value tlv two four four_at two_at
  copied-back = (four-back (copied_id s) (id_below s small), two_back (copied_type s) (type-below s small))

  pub read_back : notice_in (notice_record id to number s) ≡ record { neighbour = to; id = id; status = status_of number; refused_id = copied_id s; refused_type = copied_type s }
  unfolding notice_in
  read_back = rw (code-back, to_back, id-back, copied-back.0, copied-back.1, its.back) refl

  framed-back : is_framed (notice_record id to number s) ≡ true
  unfolding is_framed
  framed-back = rw (to_back, le-leb to 15 near, record-length id to number s) (unfold notice_record notice_octets status_value tlv two four four_at two_at in refl)

  told_back : is_told (notice_record id to number s) ≡ true
  unfolding is_told
  told_back = rw (read_back, code-back, its.known, eq-eqb (status_code (status_of number)) (status_code (status_of number)) refl, ← its.unknown) both-due.1

  pub not-refused : notice_refusal (notice_record id to number s) ≡ 0
  unfolding notice_refusal ◌when◌else◌
  not-refused = rw (framed-back, told_back) refl

-- ---- what is read was writable

-- a refusal, with its neighbour and an identifier, of which these octets are the record
pub record Writable (o : List ℕ) : Type 0 where
  pub id : ℕ
  pub neighbour : ℕ
  pub number : ℕ
  pub refused : List ℕ
  pub fits : id < 4294967296
  pub near : neighbour ≤ 15
  pub small : Octets refused
  pub due : notice_due number refused ≡ true
  pub is : o ≡ notice_record id neighbour number refused

-- a message's head of eight octets, with a given type and identifier
head_with : ℕ → ℕ → List ℕ
head_with kind id = two kind ++ (two 4 ++ four id)

module _ (kind id : ℕ) (hk : kind < 65536) (hi : id < 4294967296) where
  head-type : copied_type (head_with kind id) ≡ kind
  unfolding copied_type head_with two four two_at
  head-type = two_back kind hk

  head-id : copied_id (head_with kind id) ≡ id
  unfolding copied_id head_with two four four_at two_at
  head-id = four-back id hi

octets-none : Octets []
octets-none i = omega arith

octets-more : (n : ℕ) (s : List ℕ) → Octets s → Octets (n % 256 ∷ s)
octets-more n s k zero = omega arith
octets-more n s k (suc i) = k i

octets-two : (n : ℕ) (s : List ℕ) → Octets s → Octets (two n ++ s)
unfolding two
octets-two n s k = octets-more (n / 256) (n % 256 ∷ s) (octets-more n s k)

octets-four : (n : ℕ) → Octets (four n)
unfolding four
octets-four n =
    octets-more (n / 16777216) (n / 65536 % 256 ∷ n / 256 % 256 ∷ n % 256 ∷ [])
    (octets-more (n / 65536) (n / 256 % 256 ∷ n % 256 ∷ [])
    (octets-more (n / 256) (n % 256 ∷ [])
    (octets-more n [] octets-none)))

head_small : (kind id : ℕ) → Octets (head_with kind id)
unfolding head_with
head_small kind id = octets-two kind (two 4 ++ four id) (octets-two 4 (four id) (octets-four id))

due-of : (number : ℕ) (s : List ℕ) → eqb (status_of number) 0 ≡ false → not (eqb number 3 && is_ignorable (copied_type s)) ≡ true → notice_due number s ≡ true
unfolding notice_due
due-of number s p q = rw (p, q) refl

module _ (o : List ℕ) (ok : notice_refusal o ≡ 0) where
  parts : (is_framed o ≡ true) × (is_told o ≡ true)
  unfolding notice_refusal
  parts = both _ _ (not-false _ (no-when 20 _ _ ok).0)

  -- what the frame tells
  record Frame : Type 0 where
    whole : length o ≡ 26
    mark : two_at o 0 ≡ 0x4C44
    near : two_at o 2 ≤ 15
    kind : two_at o 4 ≡ 0x0001
    size : two_at o 6 ≡ 18
    field : two_at o 12 ≡ 0x0300
    value : two_at o 14 ≡ 10

  frame : Frame
  unfolding is_framed
  frame =
      let a = both _ _ parts.0 in
      let b = both _ _ a.0 in
      let c = both _ _ b.0 in
      let d = both _ _ c.0 in
      let e = both _ _ d.0 in
      let f = both _ _ e.0 in
      record {
        whole = eqb-true _ _ f.0;
        mark = eqb-true _ _ f.1;
        near = leb-true _ _ e.1;
        kind = eqb-true _ _ d.1;
        size = eqb-true _ _ c.1;
        field = eqb-true _ _ b.1;
        value = eqb-true _ _ a.1;
      }

  -- and what the status tells
  record Status : Type 0 where
    known : is_status (four_at o 16 % 0x40000000) ≡ true
    code : four_at o 16 ≡ status_code (four_at o 16 % 0x40000000)
    heeded : not (eqb (four_at o 16 % 0x40000000) 0x04 && is_ignorable (two_at o 24)) ≡ true

  status : Status
  unfolding is_told notice_in
  status =
      let a = both _ _ parts.1 in
      let b = both _ _ a.0 in
      record { known = b.0; code = eqb-true _ _ b.1; heeded = a.1 }

  why : Refusal (four_at o 16 % 0x40000000)
  why = refusal (four_at o 16 % 0x40000000) status.known

  pub was-writable : Octets o → Writable o
  was-writable small =
      let h : List ℕ = head_with (two_at o 24) (four_at o 20) in
      let ht : copied_type h ≡ two_at o 24 = head-type (two_at o 24) (four_at o 20) (two-below o small 24) (four_below o small 20) in
      let hi : copied_id h ≡ four_at o 20 = head-id (two_at o 24) (four_at o 20) (two-below o small 24) (four_below o small 20) in
      record {
        id = four_at o 8;
        neighbour = two_at o 2;
        number = why.number;
        refused = h;
        fits = four_below o small 8;
        near = frame.near;
        small = head_small (two_at o 24) (four_at o 20);
        due = due-of why.number h why.some (rw (ht, why.unknown) status.heeded);
        is =
            octets-spread o frame.whole small
            ∙ rw (frame.mark, frame.kind, frame.size, frame.field, frame.value, record-spread (four_at o 8) (two_at o 2) why.number h, ht, hi, why.its, ← status.code) refl;
      }

-- ---- one outcome

module _ (room : ℕ) (c : Card) (to number : ℕ) (s : List ℕ) where
  -- whatever two calls answer, write and leave is the same
  pub notice-one : (a a' n n' : ℕ) (b x x' : List ℕ) (d d' : Card) → Does (notice room c to number s) a n b x d → Does (notice room c to number s) a' n' b x' d'
      → (a ≡ a') × (n ≡ n') × (x ≡ x') × (d ≡ d')
  notice-one a a' n n' b x x' d d' p q = does-one (notice room c to number s) a a' n n' b x x' d d' p q

  -- 1, 16, and 0 with nothing written or one record
  pub far : 15 < to → notice room c to number s ≡ refuse 1 c
  unfolding notice no_neighbour
  far h = rw (lt-ltb 15 to h) refl

  pub silent : to ≤ 15 → notice_due number s ≡ false → notice room c to number s ≡ accept [] c.next c
  unfolding notice no_neighbour
  silent h e = rw (le-ltb 15 to h, e) refl

  pub short : to ≤ 15 → notice_due number s ≡ true → room < 26 → notice room c to number s ≡ refuse 16 c
  unfolding notice no_neighbour room_short
  short h e r = rw (le-ltb 15 to h, e, record-length c.next to number s, lt-ltb room 26 r) refl

  pub tells : to ≤ 15 → notice_due number s ≡ true → 26 ≤ room → notice room c to number s ≡ accept (notice_record c.next to number s) (next_id c.next) c
  unfolding notice no_neighbour room_short
  tells h e r = rw (le-ltb 15 to h, e, record-length c.next to number s, le-ltb room 26 r) refl
