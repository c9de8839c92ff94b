-- What `proofs/LabelLaws` speaks of.
-- Assumes nothing.
use Prim.Native.Nat.{ℕ, ◌+◌, ◌≤◌, ◌<◌}
use Rattle.std.specs.Prelude.{◌≡◌, false}
use mathlib.Core.List.{List}
use Rattle.std.proofs.Math.ListN.{length}
use Rattle.meaning.specs.Octets.{same}
use Rattle.meaning.specs.Wire.{least_label}
use Rattle.meaning.specs.Card.{Card, tree_of, tree_at, use_of, free_labels, most_base}
use Rattle.meaning.specs.Events.{Moved}
use Rattle.promise.specs.Promise.{Given, note_all, NoneLive, AllMapped, Untouched}
use Rattle.meaning_laws.specs.RoundTrip.{AllSendable}
use Rattle.promise.specs.LiveLaws.{Linked, Books}
use Rattle.promise.specs.CardLaws.{shape, Tidy}

-- the last label given is of the block, and none only while no label is in use
pub record Spent (c : Card) : Type 0 where
  pub none : c.last ≡ 0 → free_labels c ≡ 256
  pub block : (c.last ≡ 0 → ⊥) → (c.base ≤ c.last) × (c.last < c.base + 256)

-- the table is sound, and gs are the labels that are live
pub record Sound (c : Card) (gs : List Given) : Type 0 where
  pub tidy : Tidy c.trees
  pub low : least_label ≤ c.base
  pub high : c.base ≤ most_base
  pub many : length c.labels ≡ 256
  pub linked : Linked (λ a. (tree_of a c).label) (λ l. use_of l c)
  pub books : Books (λ l. use_of l c) gs
  pub sum : length gs + free_labels c ≡ 256
  pub last : Spent c

-- a move of the label of the tree at place i
pub record Fine (i : ℕ) (c : Card) (gs : List Given) (m : Moved) : Type 0 where
  pub sound : Sound m.card (note_all m.sent gs)
  pub fair : NoneLive m.sent gs
  pub ends : AllMapped m.sent gs
  pub said : AllSendable m.sent
  -- other trees keep their entries, and their labels' uses
  pub others : (b : List ℕ) → same (tree_at i c).name b ≡ false → tree_of b m.card ≡ tree_of b c
  pub uses : (b : List ℕ) → same (tree_at i c).name b ≡ false → use_of (tree_of b c).label m.card ≡ use_of (tree_of b c).label c
  pub shapes : (b : List ℕ) → shape (tree_of b m.card) ≡ shape (tree_of b c)
  pub size : length m.card.trees ≡ length c.trees
  pub routes : m.card.routes ≡ c.routes
  pub at : (j : ℕ) → shape (tree_at j m.card) ≡ shape (tree_at j c)
  pub apart : Untouched (tree_at i c).name c m.card

-- ---- the trees of a root, one after the other

-- what a move keeps, whatever trees' labels it moves
pub record Kept (c : Card) (gs : List Given) (m : Moved) : Type 0 where
  pub sound : Sound m.card (note_all m.sent gs)
  pub fair : NoneLive m.sent gs
  pub ends : AllMapped m.sent gs
  pub said : AllSendable m.sent
  pub shapes : (b : List ℕ) → shape (tree_of b m.card) ≡ shape (tree_of b c)
  pub size : length m.card.trees ≡ length c.trees
  pub routes : m.card.routes ≡ c.routes
  pub at : (j : ℕ) → shape (tree_at j m.card) ≡ shape (tree_at j c)
