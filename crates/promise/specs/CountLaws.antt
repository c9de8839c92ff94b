-- What `proofs/CountLaws` speaks of.
-- Assumes nothing.
use Prim.Native.Nat.{ℕ, ◌≤◌}
use Rattle.std.proofs.Math.Path.{◌≡◌}
use Rattle.std.proofs.Math.Bool.{true}
use mathlib.Core.List.{List}
use Rattle.std.proofs.Math.ListN.{get_or}
use Rattle.meaning.specs.Octets.{place}
use Rattle.meaning.specs.Card.{Route, Tree, Card, no_entry, with_label, is_for, is_empty}
use Rattle.meaning.specs.Events.{total, in_root, worked_out, entry_of, changed, recounted_for, entry_with}
use Rattle.meaning_laws.specs.Counts.{Counted}

-- one of the two counts: where an entry has it, and what one tree counts in it
pub record Tally (get : Route → ℕ) (w : Tree → ℕ) : Type 0 where
  pub label : (l : ℕ) (t : Tree) → w (with_label l t) ≡ w t
  pub empty : (t : Tree) → is_empty t ≡ true → w t ≡ 0
  pub most : (t : Tree) → w t ≤ 1
  pub again : (t s : Tree) (x : Route) → get (recounted_for t s x) ≡ changed (get x) (w t) (w s)
  pub worked : (ts : List Tree) (q : List ℕ) → get (worked_out ts (no_entry q)) ≡ total (in_root q w) ts
  pub kept : (c : Card) (r : List ℕ) (via : ℕ) → get (entry_with c r via) ≡ get (entry_of r c)
  pub counted : (c : Card) (q : List ℕ) → Counted q c → get (entry_of q c) ≡ total (in_root q w) c.trees

-- ---- the entry of a root, in a list of routes; where there is none, another

abbrev pub found : List ℕ → Route → List Route → Route
found q d rs = get_or rs (place (is_for q) rs) d
