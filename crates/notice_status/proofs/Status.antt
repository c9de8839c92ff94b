-- What a notice tells and copies, by the tests of the code. Assumes nothing.
use Prim.Native.Nat.{ℕ, ◌+◌, ◌≤◌, ◌<◌}
use native.Mathlib.Omega.{arith}
use mathlib.Core.Logic.{◌⊎◌, inl, inr}
use mathlib.Core.Path.{◌≡◌, refl, sym, ap, ◌∙◌}
use mathlib.Core.Bool.{true, false, not}
use mathlib.Core.List.{List}
use lib.ListN.{length}
use lib.Dec.{eqb, leb, ltb}
use borrow.Author.Tests.{ne_eqb, eqb-true, eqb-false, leb-true, leb-false, lt-ltb, le-ltb}
use Rattle.meaning.specs.Octets.{any, two_at, four_at, ◌when◌else◌}
use Rattle.meaning.specs.Lists.{by-test}
use Rattle.meaning.specs.Notice.{status_of, is_status, is_fatal, status_code, copied_id, copied_type, is_ignorable}

-- ---- the status

-- fatal by the last of the three, where it is neither of the others
pub fatal-last : (status : ℕ) → (status ≡ 0x05 → ⊥) → (status ≡ 0x07 → ⊥) → eqb status 0x08 ≡ is_fatal status
unfolding is_fatal
fatal-last status five seven = rw (ne_eqb status 0x05 five, ne_eqb status 0x07 seven) refl

module _ (n : ℕ) where
  pub status-at : (k d : ℕ) → n ≡ k → d ≡ status_of k → d < 32 → (d ≡ status_of n) × (d < 32)
  status-at k d e q h = (q ∙ ap status_of (sym e), h)

  -- two numbers that stand next to each other
  pub status-pair : (k d : ℕ) → k ≤ n → n ≤ k + 1 → d ≡ status_of k → d ≡ status_of (k + 1) → d < 32 → (d ≡ status_of n) × (d < 32)
  status-pair k d l u p q h =
      by-test (eqb n k)
      (λ e. status-at k d (eqb-true n k e) p h)
      (λ e. status-at (k + 1) d (omega (arith, eqb-false n k e)) q h)

  pub status-none : (n ≡ 2 → ⊥) → (n ≡ 3 → ⊥) → (n ≡ 4 → ⊥) → (n ≡ 5 → ⊥) → (n ≡ 6 → ⊥) → (n ≡ 7 → ⊥) → (n ≡ 8 → ⊥) → (n ≡ 9 → ⊥) → (n ≡ 11 → ⊥) → (n ≡ 12 → ⊥) → (n ≡ 18 → ⊥)
      → (0 ≡ status_of n) × (0 < 32)
  unfolding status_of ◌when◌else◌
  status-none a b c d e f g h i j k =
      (rw (ne_eqb n 2 a, ne_eqb n 3 b, ne_eqb n 4 c, ne_eqb n 5 d, ne_eqb n 6 e, ne_eqb n 7 f, ne_eqb n 8 g, ne_eqb n 9 h, ne_eqb n 11 i, ne_eqb n 12 j, ne_eqb n 18 k) refl, omega arith)

  -- the numbers between two that are told otherwise
  pub status-few : 2 ≤ n → n < 8 → (n ≡ 2 → ⊥) → (n ≡ 3 → ⊥) → (n ≡ 4 → ⊥) → (n ≡ 5 → ⊥) → (0x0C ≡ status_of n) × (0x0C < 32)
  unfolding status_of ◌when◌else◌
  status-few l u a b c d = status-pair 6 0x0C (omega arith) (omega arith) refl refl (omega arith)

  pub status-ten : 8 ≤ n → n < 11 → (n ≡ 8 → ⊥) → (n ≡ 9 → ⊥) → (0 ≡ status_of n) × (0 < 32)
  unfolding status_of ◌when◌else◌
  status-ten l u a b = status-at 10 0 (omega arith) refl (omega arith)

  pub status-high : 13 ≤ n → (n ≡ 18 → ⊥) → (0 ≡ status_of n) × (0 < 32)
  status-high l a = status-none (λ e. omega arith) (λ e. omega arith) (λ e. omega arith) (λ e. omega arith) (λ e. omega arith) (λ e. omega arith) (λ e. omega arith) (λ e. omega arith) (λ e. omega arith) (λ e. omega arith) a

module _ (d : ℕ) where
  pub known_at : (k : ℕ) → d ≡ k → is_status k ≡ true → true ≡ is_status d
  known_at k e h = sym (ap is_status e ∙ h)

  pub known-low : 4 ≤ d → d < 9 → true ≡ is_status d
  unfolding is_status any
  known-low l u =
      by-test (eqb d 4) (λ e. known_at 4 (eqb-true d 4 e) refl)
      (λ a. by-test (eqb d 5) (λ e. known_at 5 (eqb-true d 5 e) refl)
      (λ b. by-test (eqb d 6) (λ e. known_at 6 (eqb-true d 6 e) refl)
      (λ c. by-test (eqb d 7) (λ e. known_at 7 (eqb-true d 7 e) refl)
      (λ f. known_at 8 (omega (arith, eqb-false d 4 a, eqb-false d 5 b, eqb-false d 6 c, eqb-false d 7 f)) refl))))

  pub known-high : (d ≡ 0x0C) ⊎ ((d ≡ 0x0E) ⊎ (d ≡ 0x16)) → true ≡ is_status d
  unfolding is_status any
  known-high (inl e) = known_at 0x0C e refl
  known-high (inr (inl e)) = known_at 0x0E e refl
  known-high (inr (inr e)) = known_at 0x16 e refl

  pub not_known : (d ≡ 0x04 → ⊥) → (d ≡ 0x05 → ⊥) → (d ≡ 0x06 → ⊥) → (d ≡ 0x07 → ⊥) → (d ≡ 0x08 → ⊥) → (d ≡ 0x0C → ⊥) → (d ≡ 0x0E → ⊥) → (d ≡ 0x16 → ⊥) → false ≡ is_status d
  unfolding is_status any
  not_known a b c e f g h i = rw (ne_eqb d 0x04 a, ne_eqb d 0x05 b, ne_eqb d 0x06 c, ne_eqb d 0x07 e, ne_eqb d 0x08 f, ne_eqb d 0x0C g, ne_eqb d 0x0E h, ne_eqb d 0x16 i) refl

  pub code-fatal : is_fatal d ≡ true → 0x80000000 + d ≡ status_code d
  unfolding status_code ◌when◌else◌
  code-fatal e = rw e refl

  pub code-mild : is_fatal d ≡ false → d ≡ status_code d
  unfolding status_code ◌when◌else◌
  code-mild e = rw e (omega arith)

-- ---- what is copied

module _ (s : List ℕ) where
  pub id-none : length s < 8 → 0 ≡ copied_id s
  unfolding copied_id
  id-none h = rw (lt-ltb (length s) 8 h) refl

  pub id-there : (r : ℕ) → 8 ≤ length s → r ≡ four_at s 4 → r ≡ copied_id s
  unfolding copied_id
  id-there r h e = rw (le-ltb (length s) 8 h) e

  pub type-none : length s < 8 → 0 ≡ copied_type s
  unfolding copied_type
  type-none h = rw (lt-ltb (length s) 8 h) refl

  pub type-there : (r : ℕ) → 8 ≤ length s → r ≡ two_at s 0 → r ≡ copied_type s
  unfolding copied_type
  type-there r h e = rw (le-ltb (length s) 8 h) e

-- the U bit is clear
pub heeded : (t : ℕ) → ltb t 0x8000 ≡ not (is_ignorable t)
unfolding is_ignorable
heeded t =
    by-test (leb 0x8000 t)
    (λ e. rw e (le-ltb t 0x8000 (leb-true 0x8000 t e)))
    (λ e. rw e (lt-ltb t 0x8000 (leb-false 0x8000 t e)))
