-- What a text in its space has inside, and its size. Assumes nothing.
use Prim.Native.Nat.{ℕ, zero, suc, ◌+◌, ◌≤◌}
use native.Mathlib.Omega.{arith}
use mathlib.Core.Path.{◌≡◌}
use mathlib.Core.List.{List, [], ◌∷◌}
use lib.ListN.{length, take, length-append, length-replicate}
use Rattle.meaning_save.specs.Save.{padded, spaced}

pub taken-le : (n : ℕ) (o : List ℕ) → length (take n o) ≤ n
taken-le zero o = omega arith
taken-le (suc n) [] = omega arith
taken-le (suc n) (x ∷ o) = omega (arith, taken-le n o)

pub padded-length : (n : ℕ) (o : List ℕ) → length (padded n (take n o)) ≡ n
unfolding padded
padded-length n o = rw (length-append, length-replicate) (omega (arith, taken-le n o))

pub space-length : (n : ℕ) (o : List ℕ) → length (spaced n o) ≡ n + 1
unfolding spaced
space-length n o = omega (arith, padded-length n o)
