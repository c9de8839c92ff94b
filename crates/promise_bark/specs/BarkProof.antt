-- What `proofs/BarkProof` speaks of.
-- Assumes nothing.
use Rattle.std.specs.Prelude.{ℕ}
use Rattle.std.proofs.Math.Path.{◌≡◌}
use mathlib.Core.List.{[]}
use Rattle.promise.specs.PromiseProof.{Upheld}
use Rattle.promise_net.specs.Net.{nobody, Wires}
use Rattle.promise_net.specs.NetProof.{AllBound}
use Rattle.promise_bark.specs.Bark.{Traffic, talk}
use Rattle.promise_bark.specs.Queues.{Orderly}

-- what is so at every moment
pub record Sure (far : Wires) (w : Traffic) : Type 0 where
  pub bound : AllBound far (talk w)
  pub upheld : (i : ℕ) → Upheld (w.past i)
  pub orderly : (j q : ℕ) → Orderly q (w.past j).live (w.line j q)
  pub ended : (j q : ℕ) → far j q ≡ nobody → w.line j q ≡ []
