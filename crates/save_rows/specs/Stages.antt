-- The table in the octets of a save after its head, and after its routes and trees. Assumes nothing.
use Rattle.std.specs.Prelude.{ℕ, ◌+◌, ◌*◌, List, drop, get_or}
use Rattle.meaning.specs.Octets.{four_at}
use Rattle.meaning.specs.Card.{Tree, Card, fresh, with_next, with_routes, with_trees}
use Rattle.meaning_save.specs.Save.{Form, routes_read, trees_read, trees_end, head_size, route_size}

unfoldable pub with_branches : List ℕ → Tree → Tree
with_branches bs t = record { name = t.name; branches = bs; leaf = t.leaf; label = t.label }

-- ---- after the head, and after the routes and the trees

unfoldable pub head_read : List ℕ → Card
head_read o = with_next (four_at o 7) (fresh (four_at o 3))

unfoldable pub trees_begin : Form → List ℕ → ℕ
trees_begin f o = head_size f + get_or o 11 0 * route_size

unfoldable pub rows_read : Form → List ℕ → Card
rows_read f o = with_trees (trees_read f (get_or o 12 0) (drop (trees_begin f o) o)) (with_routes (routes_read (get_or o 11 0) (drop (head_size f) o)) (head_read o))

-- what stands behind the trees
unfoldable pub labels_begin : Form → List ℕ → List ℕ
labels_begin f o = trees_end f (get_or o 12 0) (drop (trees_begin f o) o)
