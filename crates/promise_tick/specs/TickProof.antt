-- What `proofs/TickProof` speaks of.
-- Assumes nothing.
use Prim.Native.Nat.{ℕ}
use Rattle.std.specs.Prelude.{◌≡◌}
use mathlib.Core.List.{List, []}
use Rattle.promise.specs.PromiseProof.{Upheld}
use Rattle.promise_net.specs.Net.{nobody, Wires, Net, Climbs}
use Rattle.promise_tick.specs.Tick.{Rank, EachName}

-- ---- what is so after any turns

pub record Fit (far : Wires) (w : Net) : Type 0 where
  pub upheld : (i : ℕ) → Upheld (w.past i)
  -- nothing is under way where no line is
  pub ended : (i p : ℕ) → far i p ≡ nobody → w.inbox i p ≡ []

-- P is what is known of the trees that are under way
pub record Ready (far : Wires) (rank : Rank) (P : List ℕ → Type 0) (w : Net) : Type 0 where
  pub fit : Fit far w
  pub names : (i p : ℕ) → EachName P (w.inbox i p)
  pub climbs : (a : List ℕ) → P a → Climbs far w a (rank a)
