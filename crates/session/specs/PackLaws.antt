-- What `proofs/PackLaws` speaks of.
-- Assumes nothing.
use Prim.Native.Nat.{ℕ, ◌+◌, ◌≤◌, ◌<◌}
use Rattle.std.specs.Prelude.{◌≡◌}
use mathlib.Core.List.{List, [], ◌∷◌, ◌++◌}
use Rattle.std.proofs.Math.ListN.{length}
use Rattle.meaning.specs.Octets.{two_at}
use Rattle.session.specs.Stream.{body_limit}
use Rattle.session.specs.Pack.{joined}

-- a message that a PDU can have: its length field counts the octets after itself, and an identifier is there
pub record Packable (m : List ℕ) : Type 0 where
  pub least : 8 ≤ length m
  pub says : 4 + two_at m 2 ≡ length m
  pub most : length m ≤ body_limit

unfoldable pub AllPackable : List (List ℕ) → Type 0
AllPackable [] = Unit {0}
AllPackable (m ∷ ms) = Packable m × AllPackable ms

-- ---- the PDUs one after the other

unfoldable pub flat : List (List (List ℕ)) → List (List ℕ)
flat [] = []
flat (g ∷ gs) = g ++ flat gs

unfoldable pub AllFit : List (List (List ℕ)) → Type 0
AllFit [] = Unit {0}
AllFit (g ∷ gs) = (AllPackable g × (8 ≤ length (joined g)) × (length (joined g) ≤ body_limit)) × AllFit gs

-- ---- as full as can be: no PDU but the last could take the first message of the next one

unfoldable pub first_of : List (List ℕ) → List ℕ
first_of [] = []
first_of (m ∷ ms) = m

unfoldable pub Full : List (List (List ℕ)) → Type 0
Full [] = Unit {0}
Full (g ∷ []) = Unit {0}
Full (g ∷ h ∷ gs) = (body_limit < length (joined g) + length (first_of h)) × Full (h ∷ gs)
