-- What `proofs/RuleLaws` speaks of.
-- Assumes nothing.
use Rattle.std.specs.Prelude.{ℕ, ◌≤◌, ◌<◌, ◌≡◌, false, length}
use mathlib.Core.List.{List}
use Rattle.meaning.specs.Octets.{count}
use Rattle.meaning.specs.Card.{Card, tree_limit, route_limit, is_for, tree_at, is_empty, held_for}
use Rattle.meaning.specs.Events.{holder_of}
use Rattle.meaning_laws.specs.Counts.{Counted}

pub record Ruled (c : Card) : Type 0 where
  pub roots : (r : List ℕ) → count (is_for r) c.routes ≤ 1
  pub full : (j : ℕ) → j < length c.trees → is_empty (tree_at j c) ≡ false
  pub held : (j : ℕ) → j < length c.trees → held_for c (tree_at j c) ≡ holder_of c (tree_at j c)
  pub trees : length c.trees ≤ tree_limit
  pub routes : length c.routes ≤ route_limit
  pub counts : (r : List ℕ) → Counted r c
