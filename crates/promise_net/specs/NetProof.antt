-- What `proofs/NetProof` speaks of.
-- Assumes nothing.
use Rattle.std.specs.Prelude.{ℕ, ◌≡◌}
use Rattle.promise_line.specs.LineProof.{Bound}
use Rattle.promise_net.specs.Net.{box, Wires, Net, box_at}

-- each of two boxes that are joined uses the labels of the other as it should
abbrev pub AllBound : Wires → Net → Type 0
AllBound far w = (i p j q : ℕ) → far i p ≡ box j q → Bound (box_at w i p) (box_at w j q)
