-- The rows of a list while it is made. Assumes nothing.
use Rattle.std.specs.Prelude.{ℕ, ◌*◌, ◌≡◌, Bool, List, length, take}
use Rattle.meaning_plan.specs.Plan.{Move, is_before}
use Rattle.meaning_plan.specs.PlanOctets.{entry_size, list_of, AllCarriable}

-- an entry whose root comes after this one
unfoldable pub is_after : List ℕ → Move → Bool
is_after r y = is_before r y.root

-- the first k rows are these entries
pub record Holds (rows : List ℕ) (k : ℕ) (ms : List Move) : Type 0 where
  pub many : length ms ≡ k
  pub read : take (k * entry_size) rows ≡ list_of ms
  pub short : AllCarriable ms
