-- The tag of a name: what the same names have in common. Assumes nothing.
use Rattle.std.specs.Prelude.{ℕ, ◌-◌, ◌%◌, ◌<◌, ◌≡◌, Bool, false, List, length, get_or, eqb}
use Rattle.meaning.specs.Octets.{same, four_at}
use Rattle.memory.specs.Memory.{tree_name}

-- its last four octets, as a number
unfoldable pub tag_of : List ℕ → ℕ
tag_of a = four_at a (length a - 4)

-- how many hints there are: as many as the last octet of a tag can tell apart
abbrev pub hint_count : ℕ
hint_count = 256

-- whether the hint at the place of its tag names the tree at place i
unfoldable pub hinted : List ℕ → List ℕ → ℕ → Bool
hinted tags hints i = eqb (get_or hints (get_or tags i 0 % hint_count) 0) i

-- no other of the first n trees has the name of the one at place i
abbrev pub Alone : List ℕ → ℕ → ℕ → Type 0
Alone os n i = (j : ℕ) → j < n → (j ≡ i → ⊥) → same (tree_name os j) (tree_name os i) ≡ false

-- the tags of the first n trees' names
abbrev pub Tagged : List ℕ → ℕ → List ℕ → Type 0
Tagged tags n os = (j : ℕ) → j < n → get_or tags j 0 ≡ tag_of (tree_name os j)
