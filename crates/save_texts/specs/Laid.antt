-- Octets written at a place of the output. Assumes nothing.
use Rattle.std.specs.Prelude.{ℕ, List, length}
use Rattle.octets.specs.Part.{mid}

-- the output with the octets at that place: those before them and behind them stay
abbrev pub laid : ℕ → List ℕ → List ℕ → List ℕ
laid at written buffer = mid at (length written) buffer written
