-- The order that a leaf joins. Assumes nothing.
use Rattle.std.specs.Prelude.{ℕ, true, List, []}
use Rattle.meaning.specs.Card.{Card, with_leaf, tree_of}
use Rattle.meaning.specs.Events.{Outcome, become}

-- on octets that 6, 7 and 18 pass
unfoldable pub join_of : Card → List ℕ → Outcome
join_of c a = become c [] (with_leaf true (tree_of a c))
