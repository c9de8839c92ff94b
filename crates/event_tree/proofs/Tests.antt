-- Refusals that are tested one after the other. Assumes nothing.
use Prim.Native.Nat.{ℕ}
use mathlib.Core.Path.{◌≡◌, refl}
use mathlib.Core.Bool.{Bool, true, false}
use Rattle.meaning.specs.Octets.{◌when◌else◌}

-- ---- tests, one after the other

module _ (n m : ℕ) (x y : Bool) where
  pub when-first : x ≡ true → n ≡ n when x else m when y else 0
  unfolding ◌when◌else◌
  when-first p = rw p refl

  pub when-second : x ≡ false → y ≡ true → m ≡ n when x else m when y else 0
  unfolding ◌when◌else◌
  when-second p q = rw (p, q) refl

  pub when-none : x ≡ false → y ≡ false → 0 ≡ n when x else m when y else 0
  unfolding ◌when◌else◌
  when-none p q = rw (p, q) refl

module _ (n m k : ℕ) (x y z : Bool) where
  pub when-1 : x ≡ true → n when x else m when y else k when z else 0 ≡ n
  unfolding ◌when◌else◌
  when-1 p = rw p refl

  pub when-2 : x ≡ false → y ≡ true → n when x else m when y else k when z else 0 ≡ m
  unfolding ◌when◌else◌
  when-2 p q = rw (p, q) refl

  pub when-3 : x ≡ false → y ≡ false → z ≡ true → n when x else m when y else k when z else 0 ≡ k
  unfolding ◌when◌else◌
  when-3 p q r = rw (p, q, r) refl

  pub when-0 : x ≡ false → y ≡ false → z ≡ false → n when x else m when y else k when z else 0 ≡ 0
  unfolding ◌when◌else◌
  when-0 p q r = rw (p, q, r) refl
