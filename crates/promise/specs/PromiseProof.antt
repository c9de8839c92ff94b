-- What `proofs/PromiseProof` speaks of.
-- Assumes nothing.
use Prim.Native.Nat.{ℕ}
use Rattle.std.specs.Prelude.{◌≡◌, ◌&&◌}
use mathlib.Core.List.{List, [], ◌∷◌}
use Rattle.std.proofs.Math.ListN.{get_or}
use Rattle.std.proofs.Math.Dec.{eqb}
use Rattle.meaning.specs.Octets.{pick}
use Rattle.meaning.specs.Wire.{mapping, withdraw, Message, Sent}
use Rattle.meaning.specs.Card.{Tree, tree_of, route_of, is_branch}
use Rattle.meaning.specs.Events.{Outcome, refused, taken, Event}
use Rattle.promise.specs.Promise.{leaf_by, route_by, Past, branches_said}
use Rattle.promise.specs.LabelLaws.{Sound}
use Rattle.promise.specs.RuleLaws.{Ruled}

-- ---- the tree that the accepted events make

-- the labels that one of a tree's sixteen places stands for: none where it is 0
unfoldable pub listed : ℕ → List ℕ
listed l = pick (is_branch l) (l ∷ []) []

-- a tree is as the accepted events say
pub record Reads (a : List ℕ) (es : List Event) (t : Tree) : Type 0 where
  pub name : t.name ≡ a
  pub said : (n : ℕ) → branches_said a n es ≡ listed (get_or t.branches n 0)
  pub leaf : t.leaf ≡ leaf_by a es

-- what a message makes of the branch of its neighbour
unfoldable pub new_branch : Message → ℕ → ℕ
new_branch m before = pick (eqb m.kind mapping) m.label (pick (eqb m.kind withdraw && eqb before m.label) 0 before)

-- ---- the table against the past

unfoldable pub messages_of : Outcome → List Sent
messages_of (refused n) = []
messages_of (taken ms c) = ms

pub record Upheld (p : Past) : Type 0 where
  pub sound : Sound p.card p.live
  pub reads : (a : List ℕ) → Reads a p.accepted (tree_of a p.card)
  pub ruled : Ruled p.card
  pub routed : (q : List ℕ) → route_of q p.card ≡ route_by q p.accepted
