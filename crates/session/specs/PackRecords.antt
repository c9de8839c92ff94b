-- What `proofs/PackRecords` speaks of.
-- Assumes nothing.
use Prim.Native.Nat.{ℕ}
use Rattle.std.specs.Prelude.{List, [], ◌∷◌, eqb}
use Rattle.meaning.specs.Octets.{pick}
use Rattle.meaning.specs.Wire.{octets_of, Sent, next_id}

-- ---- the label part's records

-- its messages to neighbour n, the first of them all with identifier i
unfoldable pub messages_of : ℕ → ℕ → List Sent → List (List ℕ)
messages_of n i [] = []
messages_of n i (m ∷ ms) =
    let later = messages_of n (next_id i) ms in
    let here = octets_of i m.message ∷ later in
    pick (eqb m.to n) here later
