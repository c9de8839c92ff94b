-- What `proofs/PartedLaws` speaks of.
-- Assumes nothing.
use Prim.Native.Nat.{ℕ, ◌-◌}
use Rattle.std.specs.Prelude.{get_or, leb}
use mathlib.Core.List.{List, [], ◌∷◌}
use Rattle.meaning.specs.Octets.{pick}
use Rattle.meaning.specs.Card.{Use, free}
use Rattle.promise.specs.Promise.{Given, of_label}

-- ---- as many live labels as are in use

-- those of any other label
unfoldable pub besides : ℕ → List Given → List Given
besides l [] = []
besides l (g ∷ gs) = pick (of_label l g) (besides l gs) (g ∷ besides l gs)

-- the use of the label l in a block from b on
unfoldable pub use_in : ℕ → List Use → ℕ → Use
use_in b us l = pick (leb b l) (get_or us (l - b) free) free
