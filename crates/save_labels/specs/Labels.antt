-- What the trees carry before they are given their labels, how one label is given, and what the head of a save may say of the last label
-- given. Assumes nothing.
use Rattle.std.specs.Prelude.{ℕ, ◌+◌, ◌≤◌, ◌<◌, ◌≡◌, ◌&&◌, length, eqb}
use Rattle.meaning.specs.Octets.{pick}
use Rattle.meaning.specs.Card.{Tree, Use, Card, with_label, tree_at, label_count}
use Rattle.meaning_save.specs.Save.{is_mapped_for}

-- no tree carries a label
abbrev pub Unlabelled : Card → Type 0
Unlabelled c = (j : ℕ) → j < length c.trees → (tree_at j c).label ≡ 0

-- a tree that carries no label is given the label l, of use u, where that is mapped for its name
unfoldable pub given : ℕ → Use → Tree → Tree
given l u t = pick (is_mapped_for t.name u && eqb t.label 0) (with_label l t) t

-- none, or a label of the block
abbrev pub OfBlock : ℕ → ℕ → Type 0
OfBlock base l = (l ≡ 0 → ⊥) → (base ≤ l) × (l < base + label_count)
