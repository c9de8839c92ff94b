-- What `proofs/Costs` speaks of.
-- Assumes nothing.
use Prim.Native.Nat.{ℕ, ◌+◌}
use mathlib.Core.List.{List, [], ◌∷◌}
use Rattle.meaning.specs.Wire.{Message, Sent}
use Rattle.promise_net.specs.Net.{Far, nobody, box, Wires}
use Rattle.promise_tick.specs.Tick.{Rank, weight}

unfoldable pub cost_at : Rank → Message → Far → ℕ
cost_at rank m nobody = 0
cost_at rank m (box j q) = weight rank j m

-- what box i sends
unfoldable pub cost : Wires → Rank → ℕ → List Sent → ℕ
cost far rank i [] = 0
cost far rank i (m ∷ ms) = cost_at rank m.message (far i m.to) + cost far rank i ms
