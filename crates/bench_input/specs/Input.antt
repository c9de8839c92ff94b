-- What the octets of an input make of a program's state, line after line. Assumes nothing.
use Rattle.std.specs.Prelude.{ℕ, ◌+◌, ◌%◌, List, [], ◌∷◌, ◌++◌, eqb}
use Rattle.meaning.specs.Octets.{pick}

-- number: of the last line that ended; state: the program's; octets: those of the line that goes on
pub record Stand (S : Type 0) : Type 0 where
  pub number : ℕ
  pub state : S
  pub octets : List ℕ

unfoldable pub next_number : ℕ → ℕ
next_number n = (n + 1) % 18446744073709551616

-- `line` says what a line of a number makes of the state
module _ {S : Type 0} (line : ℕ → S → List ℕ → S) where
  unfoldable pub ended : Stand S → Stand S
  ended s = record { number = next_number s.number; state = line (next_number s.number) s.state s.octets; octets = [] }

  unfoldable pub longer : Stand S → ℕ → Stand S
  longer s c = record { number = s.number; state = s.state; octets = s.octets ++ (c ∷ []) }

  -- 10 ends a line
  unfoldable pub after : Stand S → ℕ → Stand S
  after s c = pick (eqb c 10) (ended s) (longer s c)

  unfoldable pub after_all : Stand S → List ℕ → Stand S
  after_all s [] = s
  after_all s (c ∷ cs) = after_all (after s c) cs
