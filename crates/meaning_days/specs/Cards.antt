-- Rows of made days, each with a whole card: second/rows writes this file.
use Rattle.std.specs.Prelude.{ℕ, zero, suc, Bool, true, false, ◌&&◌}
use mathlib.Core.List.{List, [], ◌∷◌, replicate}
use Rattle.meaning.specs.Octets.{pick, same}
use Rattle.meaning.specs.Card.{Card, Route, Tree, Use, free, mapped, awaiting}
use Rattle.meaning.specs.Events.{event}
use Rattle.meaning.specs.Examples.{Row, agrees}
use Rattle.meaning_save.specs.Save.{all_worked_out}

-- a row of the examples, and every field of the card that its event leaves
pub record Whole : Type 0 where
  pub row : Row
  pub left : Card

abbrev pub leaves : Row → Card → Whole
leaves r c = record { row = r; left = c }

-- (request [10]: the counts of a root are those that its trees give)
abbrev pub card : ℕ → ℕ → ℕ → List Route → List Tree → List Use → Card
card b n l rs ts us = record { base = b; next = n; routes = all_worked_out ts rs; trees = ts; labels = us; last = l }

abbrev pub by : List ℕ → ℕ → Route
by r v = record { root = r; via = v; standing = 0; lone = 0 }

abbrev pub tree : List ℕ → List ℕ → Bool → ℕ → Tree
tree a bs b l = record { name = a; branches = bs; leaf = b; label = l }

unfoldable pub none : List ℕ
none = replicate 16 0

-- the branches with neighbour n's label l
unfoldable pub at : ℕ → ℕ → List ℕ → List ℕ
at n l [] = []
at zero l (b ∷ bs) = l ∷ bs
at (suc n) l (b ∷ bs) = b ∷ at n l bs

unfoldable pub same_routes : List Route → List Route → Bool
same_routes [] [] = true
same_routes [] (s ∷ ss) = false
same_routes (r ∷ rs) [] = false
same_routes (r ∷ rs) (s ∷ ss) = same (r.via ∷ r.standing ∷ r.lone ∷ r.root) (s.via ∷ s.standing ∷ s.lone ∷ s.root) && same_routes rs ss

unfoldable pub same_tree : Tree → Tree → Bool
same_tree t u = same t.name u.name && same (pick t.leaf 1 0 ∷ t.label ∷ t.branches) (pick u.leaf 1 0 ∷ u.label ∷ u.branches)

unfoldable pub same_trees : List Tree → List Tree → Bool
same_trees [] [] = true
same_trees [] (u ∷ us) = false
same_trees (t ∷ ts) [] = false
same_trees (t ∷ ts) (u ∷ us) = same_tree t u && same_trees ts us

unfoldable pub used : Use → List ℕ
used free = []
used (mapped n a) = 1 ∷ n ∷ a
used (awaiting n a) = 2 ∷ n ∷ a

unfoldable pub same_uses : List Use → List Use → Bool
same_uses [] [] = true
same_uses [] (v ∷ vs) = false
same_uses (u ∷ us) [] = false
same_uses (u ∷ us) (v ∷ vs) = same (used u) (used v) && same_uses us vs

unfoldable pub same_card : Card → Card → Bool
same_card c d = same (c.base ∷ c.next ∷ c.last ∷ []) (d.base ∷ d.next ∷ d.last ∷ []) && same_routes c.routes d.routes && same_trees c.trees d.trees && same_uses c.labels d.labels

-- the numbers of the rows, counted from n, that the definitions answer otherwise
unfoldable pub wrong : ℕ → Card → List Whole → List ℕ
wrong n c [] = []
wrong n c (w ∷ ws) =
    let out = event w.row.room c w.row.does in
    let later = wrong (suc n) out.card ws in
    let here = n ∷ later in
    pick (agrees w.row out && same_card out.card w.left) later here

unfoldable pub comparing : ℕ
unfolding all_worked_out none at same_routes same_tree same_trees used same_uses same_card wrong
comparing = 0
