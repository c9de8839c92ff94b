-- What the smaller functions of the writer of wrapped names state. Assumes nothing.
use Rattle.std.specs.Prelude.{ℕ, ◌+◌, ◌≤◌, List, ◌∷◌, ◌++◌, length}
use Rattle.meaning.specs.Octets.{two}
use Rattle.meaning.specs.Wire.{opaque_limit, root_limit}
use Rattle.meaning_layers.specs.Layers.{holder_head, family_of}

-- all has its place
pub record Fits (root eight name : List ℕ) (room : ℕ) : Type 0 where
  pub all : 9 + length root + (length eight + length name) ≤ room
  pub held : holder_head + (length eight + length name) ≤ opaque_limit
  pub rooted : length root ≤ root_limit

-- what stands before the eight octets and the name
unfoldable pub head_of : List ℕ → ℕ → ℕ → List ℕ
head_of root kind held = 6 ∷ (two (family_of root) ++ (length root ∷ (root ++ (two (3 + held) ++ (kind ∷ two held)))))
