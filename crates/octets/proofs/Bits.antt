-- Laws of a word's bits: what one set or cleared leaves, and a list that is searched and counted by words, since each word's bits say
-- which of its elements pass. Assumes nothing.
use Prim.Native.Nat.{ℕ, zero, suc, ◌+◌, ◌-◌, ◌*◌, ◌/◌, ◌%◌, ◌^◌, ◌≤◌, ◌<◌}
use native.Mathlib.Nat.{add-zero, pow-suc, mod-lt, mod-eq_of_lt, zero-div, zero-lt-suc, not-suc-le-zero, le_of_suc-le-suc}
use native.Mathlib.Numerals.{one-add}
use native.Mathlib.Omega.{arith}
use mathlib.Core.Path.{◌≡◌, refl, sym, ap, ◌∙◌}
use mathlib.Core.Bool.{Bool, true, false}
use lib.ListN.{drop}
use lib.Dec.{eqb}
use lib.Arith.{lt-one}
use lib.Pow.{pow_pos, pow-lt, shl_exact, shr-shr}
use lib.Bits.{bit_and, bit_or, and_mask, and_shr, and_mod, or_shr, or_mod, and_zero_r, or_zero_r}
use lib.Count.{ones, ones_step, count_trailing_zeros}
use borrow.Author.Tests.{eq-eqb, ne_eqb, eqb-true, eqb-false}
use Rattle.meaning.specs.Octets.{place, count}
use Rattle.meaning.specs.Lists.{by-test}
use Rattle.octets.specs.Part.{tab}
use Rattle.octets.specs.Bits.{bit}
use Rattle.octets.proofs.Tab.{place-hit, place-miss, count-hit, count-miss}

-- ---- digits

-- the digit at place k: 0 or 1
abbrev digit : ℕ → ℕ → ℕ
digit k w = w / 2 ^ k % 2

next-digit : (k w : ℕ) → digit (suc k) w ≡ digit k (w / 2)
next-digit k w = ap (λ (n : ℕ). w / 2 ^ n % 2) (sym (one-add k)) ∙ ap (λ (n : ℕ). n % 2) (sym (shr-shr w 1 k))

first-digit : (w : ℕ) → digit 0 w ≡ w % 2
first-digit w = let e : w / 1 ≡ w = omega arith in ap (λ (n : ℕ). n % 2) e

digit-of-zero : (k : ℕ) → digit k 0 ≡ 0
digit-of-zero k = ap (λ (n : ℕ). n % 2) (zero-div (2 ^ k))

-- of 2^k: 1 at place k, and 0 elsewhere
digit-here : (k : ℕ) → digit k (2 ^ k) ≡ 1
digit-here zero = refl
digit-here (suc k) = next-digit k (2 ^ suc k) ∙ ap (digit k) (half k) ∙ digit-here k
  where
    half : (k : ℕ) → 2 ^ suc k / 2 ≡ 2 ^ k
    half k = let e : 2 ^ suc k ≡ 2 ^ k * 2 = pow-suc 2 k in omega arith

digit-there : (j k : ℕ) → (j ≡ k → ⊥) → digit j (2 ^ k) ≡ 0
digit-there zero zero ne = absurd (ne refl)
digit-there zero (suc k) ne = first-digit (2 ^ suc k) ∙ (let e : 2 ^ suc k ≡ 2 ^ k * 2 = pow-suc 2 k in omega arith)
digit-there (suc j) zero ne = next-digit j 1 ∙ digit-of-zero j
digit-there (suc j) (suc k) ne = next-digit j (2 ^ suc k) ∙ ap (digit j) (let e : 2 ^ suc k ≡ 2 ^ k * 2 = pow-suc 2 k in let h : 2 ^ suc k / 2 ≡ 2 ^ k = omega arith in h) ∙ digit-there j k (λ e. ne (ap suc e))

-- of the d digits of a that are all turned over
digit_not : (d k a : ℕ) → k < d → a < 2 ^ d → digit k (2 ^ d - 1 - a) ≡ 1 - digit k a
digit_not zero k a h l = absurd (not-suc-le-zero h)
digit_not (suc d) zero a h l =
    let e : 2 ^ suc d ≡ 2 ^ d * 2 = pow-suc 2 d in
    first-digit (2 ^ suc d - 1 - a) ∙ (let z : (2 ^ suc d - 1 - a) % 2 ≡ 1 - a % 2 = omega arith in z) ∙ ap (λ (n : ℕ). 1 - n) (sym (first-digit a))
digit_not (suc d) (suc k) a h l =
    let e : 2 ^ suc d ≡ 2 ^ d * 2 = pow-suc 2 d in
    let z : (2 ^ suc d - 1 - a) / 2 ≡ 2 ^ d - 1 - a / 2 = omega arith in
    next-digit k (2 ^ suc d - 1 - a) ∙ ap (digit k) z ∙ digit_not d k (a / 2) (le_of_suc-le-suc h) (omega arith) ∙ ap (λ (n : ℕ). 1 - n) (sym (next-digit k a))

-- the operations go digit by digit
digit_or : (k a b : ℕ) → digit k (bit_or a b) ≡ bit_or (digit k a) (digit k b)
digit_or k a b = ap (λ (n : ℕ). n % 2) (or_shr a b k) ∙ or_mod (a / 2 ^ k) (b / 2 ^ k) 1

digit_and : (k a b : ℕ) → digit k (bit_and a b) ≡ bit_and (digit k a) (digit k b)
digit_and k a b = ap (λ (n : ℕ). n % 2) (and_shr a b k) ∙ and_mod (a / 2 ^ k) (b / 2 ^ k) 1

-- ---- one bit set, one cleared

or-one : (x : ℕ) → x < 2 → bit_or x 1 ≡ 1
or-one zero h = refl
or-one (suc zero) h = refl
or-one (suc (suc x)) h = absurd (omega arith)

-- `1 << k`, where nothing is shifted out
pub one_shifted : (k : ℕ) → k < 64 → 1 * 2 ^ k % 2 ^ 64 ≡ 2 ^ k
one_shifted k h = let e : 1 * 2 ^ k ≡ 2 ^ k = omega arith in shl_exact {a = 1} 1 k 64 (omega arith) (omega arith) ∙ e

module _ (w k m : ℕ) (e : m ≡ 2 ^ k) where
  pub set_same : bit k (bit_or w m) ≡ true
  unfolding bit
  set_same =
      eq-eqb (digit k (bit_or w m)) 1
      (rw e (digit_or k w (2 ^ k) ∙ ap (bit_or (digit k w)) (digit-here k) ∙ or-one (digit k w) (mod-lt (w / 2 ^ k) (zero-lt-suc 1))))

  pub set_other : (j : ℕ) → (j ≡ k → ⊥) → bit j (bit_or w m) ≡ bit j w
  unfolding bit
  set_other j ne =
      let c : digit j (bit_or w m) ≡ digit j w = rw e (digit_or j w (2 ^ k) ∙ ap (bit_or (digit j w)) (digit-there j k ne) ∙ or_zero_r (digit j w)) in
      ap (λ (n : ℕ). eqb n 1) c

  -- `w & !m`
  pub clear-same : k < 64 → bit k (bit_and w (2 ^ 64 - 1 - m)) ≡ false
  unfolding bit
  clear-same h =
      let z : digit k (2 ^ 64 - 1 - 2 ^ k) ≡ 0 = digit_not 64 k (2 ^ k) h (pow-lt h) ∙ ap (λ (n : ℕ). 1 - n) (digit-here k) in
      let c : digit k (bit_and w (2 ^ 64 - 1 - m)) ≡ 0 = rw e (digit_and k w (2 ^ 64 - 1 - 2 ^ k) ∙ ap (bit_and (digit k w)) z ∙ and_zero_r (digit k w)) in
      ne_eqb (digit k (bit_and w (2 ^ 64 - 1 - m))) 1 (λ q. omega arith)

  pub clear-other : k < 64 → (j : ℕ) → j < 64 → (j ≡ k → ⊥) → bit j (bit_and w (2 ^ 64 - 1 - m)) ≡ bit j w
  unfolding bit
  clear-other h j l ne =
      let o : digit j (2 ^ 64 - 1 - 2 ^ k) ≡ 1 = digit_not 64 j (2 ^ k) l (pow-lt h) ∙ ap (λ (n : ℕ). 1 - n) (digit-there j k ne) in
      let c : digit j (bit_and w (2 ^ 64 - 1 - m)) ≡ digit j w =
      rw e (digit_and j w (2 ^ 64 - 1 - 2 ^ k) ∙ ap (bit_and (digit j w)) o ∙ and_mask (digit j w) 1 ∙ mod-eq_of_lt (mod-lt (w / 2 ^ j) (zero-lt-suc 1))) in
      ap (λ (n : ℕ). eqb n 1) c

-- every bit of the largest word is set
pub all_set : (k : ℕ) → k < 64 → bit k 18446744073709551615 ≡ true
unfolding bit
all_set k h = eq-eqb (digit k 18446744073709551615) 1 (digit_not 64 k 0 h (pow_pos 64) ∙ ap (λ (n : ℕ). 1 - n) (digit-of-zero k))

-- ---- a list by words

bit-next : (k w : ℕ) → bit (suc k) w ≡ bit k (w / 2)
unfolding bit
bit-next k w = ap (λ (n : ℕ). eqb n 1) (next-digit k w)

bit-first : (w : ℕ) → bit 0 w ≡ eqb (w % 2) 1
unfolding bit
bit-first w = ap (λ (n : ℕ). eqb n 1) (first-digit w)

odd : (w : ℕ) → bit 0 w ≡ true → w % 2 ≡ 1
odd w e = eqb-true (w % 2) 1 (sym (bit-first w) ∙ e)

even : (w : ℕ) → bit 0 w ≡ false → w % 2 ≡ 0
even w e = let ne : w % 2 ≡ 1 → ⊥ = eqb-false (w % 2) 1 (sym (bit-first w) ∙ e) in omega (arith, mod-lt w (zero-lt-suc 1))

half-below : (d w : ℕ) → w < 2 ^ suc d → w / 2 < 2 ^ d
half-below d w h = let e : 2 ^ suc d ≡ 2 ^ d * 2 = pow-suc 2 d in omega arith

trailing_odd : (d w : ℕ) → w % 2 ≡ 1 → count_trailing_zeros (suc d) w ≡ 0
unfolding count_trailing_zeros
trailing_odd d w e = rw e refl

trailing_even : (d w : ℕ) → w % 2 ≡ 0 → count_trailing_zeros (suc d) w ≡ suc (count_trailing_zeros d (w / 2))
unfolding count_trailing_zeros
trailing_even d w e = rw e refl

-- the lowest bit that is set is where trailing zeros end
pub trailing-bit : (d w : ℕ) → 0 < w → w < 2 ^ d → (count_trailing_zeros d w < d) × (bit (count_trailing_zeros d w) w ≡ true)
trailing-bit zero w p h = absurd (omega (arith, lt-one h))
trailing-bit (suc d) w p h =
    by-test (bit 0 w)
    (λ e. rw (trailing_odd d w (odd w e)) (zero-lt-suc d, e))
    (λ e.
    let z = even w e in
    let b = trailing-bit d (w / 2) (omega arith) (half-below d w h) in
    rw (trailing_even d w z) (omega (arith, b.0), bit-next (count_trailing_zeros d (w / 2)) w ∙ b.1))

-- more places than the word needs: the trailing zeros are the same
pub trailing_wide : (e d w : ℕ) → 0 < w → w < 2 ^ d → count_trailing_zeros (d + e) w ≡ count_trailing_zeros d w
trailing_wide e zero w p h = absurd (omega (arith, lt-one h))
trailing_wide e (suc d) w p h =
    let q : suc d + e ≡ suc (d + e) = omega arith in
    rw q
    (by-test (bit 0 w)
    (λ b. trailing_odd (d + e) w (odd w b) ∙ sym (trailing_odd d w (odd w b)))
    (λ b.
    let z = even w b in
    trailing_even (d + e) w z ∙ ap suc (trailing_wide e d (w / 2) (omega arith) (half-below d w h)) ∙ sym (trailing_even d w z)))

-- `w >> s`: the bits from place s on
bit_shifted : (s j w : ℕ) → bit j (w / 2 ^ s) ≡ bit (s + j) w
unfolding bit
bit_shifted s j w = ap (λ (n : ℕ). eqb (n % 2) 1) (shr-shr w s j)

pub shifted-below : (s d w : ℕ) → w < 2 ^ (s + d) → w / 2 ^ s < 2 ^ d
shifted-below zero d w h =
    let e : w / 1 ≡ w = omega arith in
    let z : 0 + d ≡ d = omega arith in
    rw e (rw z at h)
shifted-below (suc s) d w h =
    let one : suc s ≡ 1 + s = omega arith in
    let more : suc s + d ≡ suc (s + d) = omega arith in
    let halved : w / 2 ^ suc s ≡ w / 2 / 2 ^ s = ap (λ (n : ℕ). w / 2 ^ n) one ∙ sym (shr-shr w 1 s) in
    rw halved (shifted-below s d (w / 2) (half-below (s + d) w (rw more at h)))

module _ {ℓ} {A : Type ℓ} (t : A → Bool) (n : ℕ) (f : ℕ → A) where
  -- of the d elements from place i on, the bits of w say which pass
  abbrev pub Says : ℕ → ℕ → ℕ → Type 0
  Says d i w = (j : ℕ) → j < d → t (f (i + j)) ≡ bit j w

  says_first : (d i w : ℕ) → Says (suc d) i w → t (f i) ≡ bit 0 w
  says_first d i w s = rw add-zero at (s 0 (zero-lt-suc d))

  says-next : (d i w : ℕ) → Says (suc d) i w → Says d (i + 1) (w / 2)
  says-next d i w s j h =
      let e : i + 1 + j ≡ i + suc j = omega arith in
      ap (λ (k : ℕ). t (f k)) e ∙ s (suc j) (omega arith) ∙ bit-next j w

  pub says-shifted : (s d i w : ℕ) → Says (s + d) i w → Says d (i + s) (w / 2 ^ s)
  says-shifted s d i w said j h =
      let e : i + s + j ≡ i + (s + j) = omega arith in
      ap (λ (k : ℕ). t (f k)) e ∙ said (s + j) (omega arith) ∙ sym (bit_shifted s j w)

  pub place-word : (d i w : ℕ) → i + d ≤ n → 0 < w → w < 2 ^ d → Says d i w → i + place t (drop i (tab n f)) ≡ i + count_trailing_zeros d w
  place-word zero i w h p l s = absurd (omega (arith, lt-one l))
  place-word (suc d) i w h p l s =
      by-test (bit 0 w)
      (λ e. place-hit t n f i (omega arith) (says_first d i w s ∙ e) ∙ rw (trailing_odd d w (odd w e)) (omega arith))
      (λ e.
      let z = even w e in
      place-miss t n f i (omega arith) (says_first d i w s ∙ e)
      ∙ place-word d (i + 1) (w / 2) (omega arith) (omega arith) (half-below d w l) (says-next d i w s)
      ∙ rw (trailing_even d w z) (omega arith))

  pub place-empty : (d i : ℕ) → i + d ≤ n → Says d i 0 → i + place t (drop i (tab n f)) ≡ i + d + place t (drop (i + d) (tab n f))
  place-empty zero i h s = rw (add-zero i) refl
  place-empty (suc d) i h s =
      let e : i + 1 + d ≡ i + suc d = omega arith in
      place-miss t n f i (omega arith) (says_first d i 0 s ∙ unfold bit in refl)
      ∙ place-empty d (i + 1) (omega arith) (says-next d i 0 s) ∙ rw e refl

  -- k passed before place i
  pub count_word : (d i w k : ℕ) → i + d ≤ n → w < 2 ^ d → Says d i w → k + count t (drop i (tab n f)) ≡ k + ones w + count t (drop (i + d) (tab n f))
  count_word zero i w k h l s = rw (lt-one l, add-zero i) (let z : ones 0 ≡ 0 = unfold ones in refl in omega arith)
  count_word (suc d) i w k h l s =
      let e : i + 1 + d ≡ i + suc d = omega arith in
      by-test (bit 0 w)
      (λ b.
      count-hit t n f i k (omega arith) (says_first d i w s ∙ b)
      ∙ count_word d (i + 1) (w / 2) (k + 1) (omega arith) (half-below d w l) (says-next d i w s)
      ∙ rw e (omega (arith, ones_step w, odd w b)))
      (λ b.
      count-miss t n f i k (omega arith) (says_first d i w s ∙ b)
      ∙ count_word d (i + 1) (w / 2) k (omega arith) (half-below d w l) (says-next d i w s)
      ∙ rw e (omega (arith, ones_step w, even w b)))
