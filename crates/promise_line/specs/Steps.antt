-- What `proofs/Steps` speaks of.
-- Assumes nothing.
use Rattle.std.specs.Prelude.{ℕ}
use mathlib.Core.List.{List}
use Rattle.meaning.specs.Card.{tree_of}
use Rattle.meaning.specs.Events.{branch}
use Rattle.promise.specs.Promise.{Past}

-- the label of the branch from n in the tree named a, by the table
abbrev pub from : ℕ → Past → List ℕ → ℕ
from n p a = branch (tree_of a p.card) n
