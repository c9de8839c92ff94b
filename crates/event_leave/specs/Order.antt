-- The order that a leaf leaves. Assumes nothing.
use Rattle.std.specs.Prelude.{ℕ, false, List, []}
use Rattle.meaning.specs.Octets.{◌when◌else◌}
use Rattle.meaning.specs.Card.{Card, with_leaf, tree_of}
use Rattle.meaning.specs.Events.{Outcome, unless, tree_refusal, enter, not_leaf}

-- on octets that 6, 7 and 18 pass
unfoldable pub leave_of : Card → List ℕ → Outcome
leave_of c a = unless (tree_refusal c (with_leaf false (tree_of a c))) (unless (14 when not_leaf (tree_of a c) else 0) (enter c [] (with_leaf false (tree_of a c))))
