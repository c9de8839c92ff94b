-- What `proofs/CardLaws` speaks of.
-- Assumes nothing.
use Prim.Native.Nat.{ℕ, ◌≤◌}
use Rattle.std.specs.Prelude.{◌≡◌, length}
use mathlib.Core.List.{List, [], ◌∷◌}
use Rattle.meaning.specs.Octets.{count}
use Rattle.meaning.specs.Wire.{element_refusal}
use Rattle.meaning.specs.Card.{Tree, with_label, named, neighbour_count}

-- ---- trees

-- all of a tree but its label
unfoldable pub shape : Tree → Tree
shape t = with_label 0 t

-- sixteen places, and a name that 6, 7 and 18 pass
unfoldable pub Proper : Tree → Type 0
Proper t = (length t.branches ≡ neighbour_count) × (element_refusal t.name ≡ 0)

unfoldable pub AllProper : List Tree → Type 0
AllProper [] = Unit {0}
AllProper (t ∷ ts) = Proper t × AllProper ts

-- no two trees of one name, and each is proper
pub record Tidy (ts : List Tree) : Type 0 where
  pub once : (a : List ℕ) → count (named a) ts ≤ 1
  pub proper : AllProper ts
