-- The laws by which the reader of notices follows the definitions. Assumes nothing.
use Prim.Native.Nat.{ℕ, ◌%◌, ◌≤◌, ◌<◌}
use mathlib.Core.Path.{◌≡◌, refl, sym, ◌∙◌}
use mathlib.Core.Bool.{true, false, and-false, false-and}
use mathlib.Core.List.{List}
use lib.ListN.{length}
use lib.Dec.{eqb, ltb}
use borrow.Author.Tests.{eq-eqb, ne_eqb, le-leb, lt-leb}
use Rattle.meaning.specs.Octets.{two_at, four_at, ◌when◌else◌}
use Rattle.meaning.specs.Notice.{is_status, status_code, notice_in, is_framed, is_told, notice_refusal}
use Rattle.meaning.specs.Lists.{by-test}
use Rattle.std.specs.Prelude.{◌&&◌}
use Rattle.std.specs.declared.result.Result.TheVariants.{Ok, Err}
use Rattle.refusals.specs.Refusals.{answer_of}
use Rattle.refusals.specs.declared.Refusal.TheVariants.{BadNotice}
use Rattle.notice_reader.specs.Read.{said, read_of}
use Rattle.notice_status.proofs.Status.{heeded}

-- ---- reading: the frame

module _ (o : List ℕ) where
  pub frame-length : (length o ≡ 26 → ⊥) → false ≡ is_framed o
  unfolding is_framed
  frame-length h = simp (ne_eqb _ _ h, false-and)

  pub frame-mark : (r : ℕ) → r ≡ two_at o 0 → (r ≡ 0x4C44 → ⊥) → false ≡ is_framed o
  unfolding is_framed
  frame-mark r e h = rw (← e) (simp (ne_eqb r 0x4C44 h, and-false, false-and))

  pub frame-far : (r : ℕ) → r ≡ two_at o 2 → 15 < r → false ≡ is_framed o
  unfolding is_framed
  frame-far r e h = rw (← e) (simp (lt-leb r 15 h, and-false, false-and))

  pub frame-kind : (r : ℕ) → r ≡ two_at o 4 → (r ≡ 0x0001 → ⊥) → false ≡ is_framed o
  unfolding is_framed
  frame-kind r e h = rw (← e) (simp (ne_eqb r 0x0001 h, and-false, false-and))

  pub frame-size : (r : ℕ) → r ≡ two_at o 6 → (r ≡ 18 → ⊥) → false ≡ is_framed o
  unfolding is_framed
  frame-size r e h = rw (← e) (simp (ne_eqb r 18 h, and-false, false-and))

  pub frame-field : (r : ℕ) → r ≡ two_at o 12 → (r ≡ 0x0300 → ⊥) → false ≡ is_framed o
  unfolding is_framed
  frame-field r e h = rw (← e) (simp (ne_eqb r 0x0300 h, and-false, false-and))

  pub frame_right : (a b c d e f : ℕ) → length o ≡ 26 → a ≡ two_at o 0 → a ≡ 0x4C44 → b ≡ two_at o 2 → b ≤ 15 → c ≡ two_at o 4 → c ≡ 0x0001 → d ≡ two_at o 6 → d ≡ 18 → e ≡ two_at o 12 → e ≡ 0x0300 → f ≡ two_at o 14
      → eqb f 10 ≡ is_framed o
  unfolding is_framed
  frame_right a b c d e f n ea ha eb hb ec hc ed hd ee he ef =
      rw (n, ← ea, ha, ← eb, le-leb b 15 hb, ← ec, hc, ← ed, hd, ← ee, he, ← ef) refl

-- ---- reading: the status

module _ (o : List ℕ) (code : ℕ) (ec : code ≡ four_at o 16) where
  pub told-unknown : is_status (code % 0x40000000) ≡ false → false ≡ is_told o
  unfolding is_told notice_in
  told-unknown h = rw (← ec, h) refl

  module _ (known : is_status (code % 0x40000000) ≡ true) (right : ℕ) (er : right ≡ status_code (code % 0x40000000)) where
    pub told-bits : (code ≡ right → ⊥) → false ≡ is_told o
    unfolding is_told notice_in
    told-bits h = rw (← ec, known, ne_eqb code (status_code (code % 0x40000000)) (λ e. h (e ∙ sym er))) refl

    pub told-type : code ≡ right → code % 0x40000000 ≡ 0x04 → (t : ℕ) → t ≡ two_at o 24 → ltb t 0x8000 ≡ is_told o
    unfolding is_told notice_in
    told-type h e t et = rw (← ec, known, eq-eqb code (status_code (code % 0x40000000)) (h ∙ er), eq-eqb (code % 0x40000000) 0x04 e, ← et) (heeded t)

    pub told-other : code ≡ right → (code % 0x40000000 ≡ 0x04 → ⊥) → true ≡ is_told o
    unfolding is_told notice_in
    told-other h e = rw (← ec, known, eq-eqb code (status_code (code % 0x40000000)) (h ∙ er), ne_eqb (code % 0x40000000) 0x04 e) refl

-- ---- reading: the answer

module _ (o : List ℕ) where
  pub reads-refused : is_framed o ≡ false → Err BadNotice ≡ read_of o
  unfolding read_of notice_refusal ◌when◌else◌
  reads-refused e = rw e refl

  pub reads-untold : is_framed o ≡ true → is_told o ≡ false → Err BadNotice ≡ read_of o
  unfolding read_of notice_refusal ◌when◌else◌
  reads-untold e h = rw (e, h) refl

  pub reads-said : is_framed o ≡ true → is_told o ≡ true → Ok (said (notice_in o)) ≡ read_of o
  unfolding read_of notice_refusal ◌when◌else◌
  reads-said h k = rw (h, k) refl

  -- the number of the refusal is the definition's, and 0 where there is none
  pub refused_by : answer_of (read_of o) ≡ notice_refusal o
  unfolding read_of notice_refusal ◌when◌else◌
  refused_by = by-test (is_framed o && is_told o) (λ e. rw e refl) (λ e. rw e refl)
