-- A line that comes octet by octet. Assumes nothing.
use Rattle.std.specs.Prelude.{ℕ, ◌+◌, ◌≤◌, min, ◌≡◌, List, length, take}

-- of the octets so far, the buffer keeps all, or what it has room for, and then the count is one more than that
pub record Keeps (buffer : List ℕ) (kept : ℕ) (octets : List ℕ) : Type 0 where
  pub count : kept ≡ min (length octets) (length buffer + 1)
  pub front : length octets ≤ length buffer → take (length octets) buffer ≡ octets
