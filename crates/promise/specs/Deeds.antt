-- What `proofs/Deeds` speaks of.
-- Assumes nothing.
use Rattle.std.specs.Prelude.{ℕ, ◌≡◌, List, [], ◌∷◌}
use Rattle.meaning.specs.Wire.{records_in}
use Rattle.meaning.specs.Card.{Card, with_next}
use Rattle.meaning_save.specs.Save.{Form, save, restore}
use Rattle.meaning.specs.Notice.{notice}
use Rattle.promise.specs.Promise.{note_all, Step, Past, then_step, begun}
use Rattle.promise.specs.SaveKept.{swapped, moved_over}

-- does: an event.
-- tells: a notice: the room that it has, the neighbour, the number of a refusal, the refused octets.
-- saves: a save in one of the forms, with the room that it has.
-- swaps: a swap for a card on which any table stands: the save of this card, in one of the forms, is restored there, with no event between. A notice takes an identifier: between a save and its restore it counts as an event, and nothing is claimed.
-- moves: a swap where the save is moved from one form to the other on the way, with the room that this has.
-- restores: a restore of those octets on this card, by which nothing is swapped: only of a refused one is anything claimed (`Claimed`).
-- starts: a start with that base, by which a new history begins.
pub data Deed : Type 0 where
  does : Step → Deed
  tells : ℕ → ℕ → ℕ → List ℕ → Deed
  saves : Form → ℕ → Deed
  swaps : Form → Card → Deed
  moves : Form → Form → ℕ → Card → Deed
  restores : Form → List ℕ → Deed
  starts : ℕ → Deed

-- of a notice the messages count as of any output, by what a reader finds in its octets
unfoldable pub then_deed : Past → Deed → Past
then_deed p (does s) = then_step p s
then_deed p (tells room n number s) =
    let o = notice room p.card n number s in
    record { card = o.card; live = note_all (records_in o.octets) p.live; accepted = p.accepted }
then_deed p (saves f room) = record { card = (save f room p.card).card; live = p.live; accepted = p.accepted }
then_deed p (swaps f d) = swapped f p d
then_deed p (moves f g room d) = moved_over f g room p d
then_deed p (restores f o) = record { card = (restore f o p.card).card; live = p.live; accepted = p.accepted }
then_deed p (starts base) = begun base

unfoldable pub then_deeds : Past → List Deed → Past
then_deeds p [] = p
then_deeds p (d ∷ ds) = then_deeds (then_deed p d) ds

-- Of every deed something is claimed but of a restore that is taken: the table that it brings has a history that is not this one's.
unfoldable pub IsClaimed : Past → Deed → Type 0
IsClaimed p (does s) = Unit {0}
IsClaimed p (tells room n number s) = Unit {0}
IsClaimed p (saves f room) = Unit {0}
IsClaimed p (swaps f d) = Unit {0}
IsClaimed p (moves f g room d) = Unit {0}
IsClaimed p (restores f o) = (restore f o p.card).answer ≡ 0 → ⊥
IsClaimed p (starts base) = Unit {0}

unfoldable pub Claimed : Past → List Deed → Type 0
Claimed p [] = Unit {0}
Claimed p (d ∷ ds) = IsClaimed p d × Claimed (then_deed p d) ds

-- the past with another next identifier
unfoldable pub renumbered : ℕ → Past → Past
renumbered id p = record { card = with_next id p.card; live = p.live; accepted = p.accepted }
