-- How the code of an event ends: records written, and a card whose counter has gone on. Assumes nothing.
use Rattle.std.specs.Prelude.{ℕ, ◌+◌, ◌≡◌, Bool, List, length}
use Rattle.meaning.specs.Octets.{pick, cut}
use Rattle.meaning.specs.Wire.{records, ids_after}
use Rattle.meaning.specs.Card.{Card, with_next, with_trees}
use Rattle.meaning.specs.Events.{Moved}
use Rattle.octets.specs.Part.{mid}

-- The move m was made from identifier id and place `at` on, and the card's counter goes on behind it.
pub record Ended (m : Moved) (id at : ℕ) (before after : List ℕ) (card : Card) (end : ℕ) : Type 0 where
  pub leaves : card ≡ with_next (ids_after id m.sent) m.card
  pub writes : after ≡ mid at (length (records id m.sent)) before (records id m.sent)
  pub ends : end ≡ at + length (records id m.sent)

-- the same messages; and the tree at place i goes, where it is empty
unfoldable pub then_cut : Bool → ℕ → Moved → Moved
then_cut empty i m = record { sent = m.sent; card = pick empty (with_trees (cut m.card.trees i) m.card) m.card }
