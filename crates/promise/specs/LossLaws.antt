-- What `proofs/LossLaws` speaks of.
-- Assumes nothing.
use Rattle.std.specs.Prelude.{ℕ, ◌≤◌, ◌<◌, ◌≡◌, false}
use Rattle.std.proofs.Math.Bool.{true}
use mathlib.Core.List.{List}
use Rattle.std.proofs.Math.ListN.{length}
use Rattle.meaning.specs.Card.{Tree, Card, tree_of, tree_at, is_empty, held_for, Route}
use Rattle.meaning.specs.Events.{holder_of, total, in_root}
use Rattle.promise.specs.Promise.{Given}
use Rattle.promise.specs.LabelLaws.{Sound}
use Rattle.promise.specs.CountLaws.{Tally}

-- ---- empty trees go

-- every tree holds its label as the rule of labels says
unfoldable pub Held : Card → Type 0
Held c = (j : ℕ) → j < length c.trees → held_for c (tree_at j c) ≡ holder_of c (tree_at j c)

-- an empty tree has no label
unfoldable pub Loose : Card → Type 0
Loose c = (j : ℕ) → j < length c.trees → is_empty (tree_at j c) ≡ true → (tree_at j c).label ≡ 0

-- from place n on no tree is empty
unfoldable pub FullFrom : ℕ → Card → Type 0
FullFrom n c = (j : ℕ) → n ≤ j → j < length c.trees → is_empty (tree_at j c) ≡ false

pub record Swept (c : Card) (gs : List Given) (d : Card) : Type 0 where
  pub sound : Sound d gs
  pub trees : (b : List ℕ) → tree_of b d ≡ tree_of b c
  pub held : Held c → Held d
  pub full : FullFrom 0 d
  pub routes : d.routes ≡ c.routes
  pub size : length d.trees ≤ length c.trees
  -- an empty tree counts nothing
  pub totals : (get : Route → ℕ) (w : Tree → ℕ) → Tally get w → (q : List ℕ) → total (in_root q w) d.trees ≡ total (in_root q w) c.trees
