-- Records by their places, one after the other. Assumes nothing.
use Prim.Native.Nat.{ℕ, zero, suc, ◌+◌, ◌-◌, ◌≤◌, ◌<◌}
use native.Mathlib.Omega.{arith}
use mathlib.Core.Path.{◌≡◌, refl, sym, ap, ◌∙◌}
use mathlib.Core.Bool.{Bool, true, false, ◌&&◌}
use mathlib.Core.List.{List, [], ◌∷◌}
use lib.ListN.{take, drop, get_or, length, length-drop, drop_of_length-le}
use lib.Seq.{get_or-drop, drop-drop, length-take-le, take_all}
use lib.Dec.{eqb, leb}
use borrow.Author.Tests.{leb-true, eq-eqb, ne_eqb, lt-ltb, le-ltb}
use Rattle.meaning.specs.Octets.{two_at}
use Rattle.meaning.specs.Lists.{by-test}
use Rattle.meaning_laws.specs.RoundTrip.{both}
use Rattle.session.specs.Stream.{body_limit}
use Rattle.session.specs.Pack.{is_record, messages_f, messages_to}
use Rattle.session_records.specs.Records.{size_at, message_at, behind, messages_from, Within, Finds}

-- ---- what a record tells

pub record Tells (s : List ℕ) : Type 0 where
  pub least : 4 ≤ two_at s 6
  pub most : 4 + two_at s 6 ≤ body_limit
  pub fits : 8 + two_at s 6 ≤ length s

pub record-tells : (s : List ℕ) → is_record s ≡ true → Tells s
unfolding is_record
record-tells s e =
    let a = both (leb 12 (length s) && eqb (get_or s 0 0) 0x4C && eqb (get_or s 1 0) 0x44 && leb 4 (two_at s 6) && leb (4 + two_at s 6) body_limit) (leb (8 + two_at s 6) (length s)) e in
    let b = both (leb 12 (length s) && eqb (get_or s 0 0) 0x4C && eqb (get_or s 1 0) 0x44 && leb 4 (two_at s 6)) (leb (4 + two_at s 6) body_limit) a.0 in
    let c = both (leb 12 (length s) && eqb (get_or s 0 0) 0x4C && eqb (get_or s 1 0) 0x44) (leb 4 (two_at s 6)) b.0 in
    record { least = leb-true 4 (two_at s 6) c.1; most = leb-true (4 + two_at s 6) body_limit b.1; fits = leb-true (8 + two_at s 6) (length s) a.1 }

-- ---- any count from the length on gives the same messages, so that the equation has none

messages-same : (f g n : ℕ) (s : List ℕ) → length s ≤ f → length s ≤ g → messages_f f n s ≡ messages_f g n s
unfolding messages_f is_record
messages-same zero zero n s h k = refl
messages-same zero (suc g) n [] h k = refl
messages-same (suc f) zero n [] h k = refl
messages-same zero (suc g) n (x ∷ s) h k = absurd (omega arith)
messages-same (suc f) zero n (x ∷ s) h k = absurd (omega arith)
messages-same (suc f) (suc g) n s h k = by (λ t a b. messages-same f g n t a b)
  where
    by : ((t : List ℕ) → length t ≤ f → length t ≤ g → messages_f f n t ≡ messages_f g n t)
        → messages_f (suc f) n s ≡ messages_f (suc g) n s
    by more =
        by-test (is_record s)
        (λ e. let t = record-tells s e in
        let d : length (drop (4 + (4 + two_at s 6)) s) ≡ length s - (4 + (4 + two_at s 6)) = length-drop (4 + (4 + two_at s 6)) s in
        unfold messages_f in rw (more (drop (4 + (4 + two_at s 6)) s) (omega (arith, d, t.fits)) (omega (arith, d, t.fits))) refl)
        (λ e. unfold messages_f in rw e refl)

-- one look at the records
messages-look : (n : ℕ) (s : List ℕ) → messages_to n s ≡ messages_f (suc (length s)) n s
unfolding messages_to
messages-look n s = messages-same (length s) (suc (length s)) n s (omega arith) (omega arith)

messages-none : (n : ℕ) (s : List ℕ) → is_record s ≡ false → messages_to n s ≡ []
messages-none n s e = messages-look n s ∙ (unfold messages_f in rw e refl)

messages-later : (n : ℕ) (s : List ℕ) → is_record s ≡ true → messages_f (length s) n (drop (4 + (4 + two_at s 6)) s) ≡ messages_to n (drop (4 + (4 + two_at s 6)) s)
unfolding messages_to
messages-later n s e =
    let d : length (drop (4 + (4 + two_at s 6)) s) ≡ length s - (4 + (4 + two_at s 6)) = length-drop (4 + (4 + two_at s 6)) s in
    messages-same (length s) (length (drop (4 + (4 + two_at s 6)) s)) n (drop (4 + (4 + two_at s 6)) s) (omega (arith, d)) (omega arith)

messages-hit : (n : ℕ) (s : List ℕ) → is_record s ≡ true → two_at s 2 ≡ n → messages_to n s ≡ take (4 + two_at s 6) (drop 4 s) ∷ messages_to n (drop (4 + (4 + two_at s 6)) s)
messages-hit n s e t = messages-look n s ∙ (unfold messages_f in rw (e, eq-eqb (two_at s 2) n t, messages-later n s e) refl)

messages-miss : (n : ℕ) (s : List ℕ) → is_record s ≡ true → (two_at s 2 ≡ n → ⊥) → messages_to n s ≡ messages_to n (drop (4 + (4 + two_at s 6)) s)
messages-miss n s e t = messages-look n s ∙ (unfold messages_f in rw (e, ne_eqb (two_at s 2) n t, messages-later n s e) refl)

-- ---- by places

two-drop : (i j : ℕ) (s : List ℕ) → two_at (drop i s) j ≡ two_at s (i + j)
unfolding two_at
two-drop i j s =
    let z : i + (j + 1) ≡ i + j + 1 = omega arith in
    rw (get_or-drop i s j 0, get_or-drop i s (j + 1) 0, z) refl

module _ (n i : ℕ) (s : List ℕ) where
  pub within-there : is_record (drop i s) ≡ true → Within i s
  unfolding size_at behind
  within-there e =
      let t = record-tells (drop i s) e in
      let k = two-drop i 6 s in
      let d = length-drop i s in
      record { least = omega (arith, t.least); most = omega (arith, t.most); inside = omega (arith, t.fits, t.least) }

  -- the record at place i is to n
  pub found-there : i < length s → is_record (drop i s) ≡ true → two_at s (i + 2) ≡ n → messages_to n (drop i s) ≡ messages_from n i s
  unfolding messages_from message_at size_at behind
  found-there h e t =
      let z : 4 + (4 + two_at s (i + 6)) + i ≡ i + 4 + (4 + two_at s (i + 6)) = omega arith in
      let y : i + (4 + (4 + two_at s (i + 6))) ≡ i + 4 + (4 + two_at s (i + 6)) = omega arith in
      messages-hit n (drop i s) e (two-drop i 2 s ∙ t)
      ∙ rw (two-drop i 6 s, drop-drop 4 i s, drop-drop (4 + (4 + two_at s (i + 6))) i s, y, lt-ltb i (length s) h) refl

  pub found-later : is_record (drop i s) ≡ true → (two_at s (i + 2) ≡ n → ⊥) → messages_to n (drop i s) ≡ messages_to n (drop (behind i s) s)
  unfolding size_at behind
  found-later e t =
      let y : i + (4 + (4 + two_at s (i + 6))) ≡ i + 4 + (4 + two_at s (i + 6)) = omega arith in
      messages-miss n (drop i s) e (λ z. t (sym (two-drop i 2 s) ∙ z))
      ∙ rw (two-drop i 6 s, drop-drop (4 + (4 + two_at s (i + 6))) i s, y) refl

  -- there is none any more
  pub found_none : is_record (drop i s) ≡ false → messages_to n (drop i s) ≡ messages_from n (length s) s
  unfolding messages_from
  found_none e = messages-none n (drop i s) e ∙ rw (le-ltb (length s) (length s) (omega arith)) refl

  pub found-end : length s ≤ i → messages_to n (drop i s) ≡ messages_from n (length s) s
  unfolding messages_from messages_to messages_f
  found-end h = rw (drop_of_length-le s h, le-ltb (length s) (length s) (omega arith)) refl

  pub from_some : i < length s → messages_from n i s ≡ message_at i s ∷ messages_to n (drop (behind i s) s)
  unfolding messages_from
  from_some h = rw (lt-ltb i (length s) h) refl

  pub from-none : length s ≤ i → messages_from n i s ≡ []
  unfolding messages_from
  from-none h = rw (le-ltb i (length s) h) refl

pub message-length : (i : ℕ) (s : List ℕ) → Within i s → length (message_at i s) ≡ size_at i s
unfolding message_at behind
message-length i s w = length-take-le (size_at i s) (drop (i + 4) s) (omega (arith, length-drop (i + 4) s, w.inside))

-- ---- the tests of a record

and_assoc : (a b c : Bool) → (a && (b && c)) ≡ ((a && b) && c)
and_assoc true b c = refl
and_assoc false b c = refl

pub record_is : (s : List ℕ) (x y k : ℕ) → x ≡ get_or s 0 0 → y ≡ get_or s 1 0 → k ≡ two_at s 6
    → (leb 12 (length s) && (eqb x 0x4C && eqb y 0x44) && leb 4 k && leb (4 + k) body_limit && leb (8 + k) (length s)) ≡ is_record s
unfolding is_record
record_is s x y k p q r =
    rw (p, q, r)
    (ap (λ (b : Bool). b && leb 4 (two_at s 6) && leb (4 + two_at s 6) body_limit && leb (8 + two_at s 6) (length s)) (and_assoc (leb 12 (length s)) (eqb (get_or s 0 0) 0x4C) (eqb (get_or s 1 0) 0x44)))

-- ---- the search from place to place

module _ (n from : ℕ) (s : List ℕ) (i : ℕ) (after : from ≤ i) (inside : i ≤ length s) (so_far : messages_to n (drop i s) ≡ messages_to n (drop from s)) where
  tail-is : take (length s - i) (drop i s) ≡ drop i s
  tail-is = take_all (length s - i) (drop i s) (omega (arith, length-drop i s))

  pub finds-none : is_record (take (length s - i) (drop i s)) ≡ false → Finds n from s (length s)
  finds-none e = record {
    same = sym so_far ∙ found_none n i s (rw (← tail-is) e);
    later = omega arith;
    ends = omega arith;
    within = λ h. absurd (omega arith);
  }

  pub finds-there : i < length s → is_record (take (length s - i) (drop i s)) ≡ true → two_at s (i + 2) ≡ n → Finds n from s i
  finds-there h e t =
      let e' : is_record (drop i s) ≡ true = rw (← tail-is) e in
      record { same = sym so_far ∙ found-there n i s h e' t; later = after; ends = omega arith; within = λ _. within-there n i s e' }

  pub finds-end : length s ≤ i → Finds n from s (length s)
  finds-end h = record { same = sym so_far ∙ found-end n i s h; later = omega arith; ends = omega arith; within = λ k. absurd (omega arith) }

  pub finds-on : (k : ℕ) → k ≡ size_at i s → is_record (take (length s - i) (drop i s)) ≡ true → (two_at s (i + 2) ≡ n → ⊥)
      → (i + (4 + k) ≤ length s) × (messages_to n (drop (i + (4 + k)) s) ≡ messages_to n (drop from s)) × (8 ≤ k)
  unfolding behind
  finds-on k z e t =
      let e' : is_record (drop i s) ≡ true = rw (← tail-is) e in
      let w = within-there n i s e' in
      let y : i + (4 + k) ≡ i + 4 + size_at i s = omega arith in
      let fits : i + 4 + size_at i s ≤ length s = w.inside in
      (omega arith, rw y (sym (found-later n i s e' t) ∙ so_far), omega (arith, w.least))
