-- The bits of a word, by their places. Assumes nothing.
use Rattle.std.specs.Prelude.{ℕ, ◌/◌, ◌%◌, ◌^◌, Bool, eqb}

-- whether the bit of value 2^k is 1
unfoldable pub bit : ℕ → ℕ → Bool
bit k w = eqb (w / 2 ^ k % 2) 1
