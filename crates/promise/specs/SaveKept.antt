-- What `proofs/SaveKept` speaks of.
-- Assumes nothing.
use Prim.Native.Nat.{ℕ}
use Rattle.std.specs.Prelude.{◌&&◌, eqb}
use Rattle.meaning.specs.Octets.{pick}
use Rattle.meaning.specs.Card.{Card}
use Rattle.meaning_save.specs.Save.{Form, saved, restore, fits_save, carried_by, move}
use Rattle.promise.specs.Promise.{Past}

-- ---- over a card swap

-- what goes on after the save of the last card, in one of the forms, is restored, with no event between, on a card where any table stands;
-- where 19 refuses the save there is no swap
unfoldable pub swapped : Form → Past → Card → Past
swapped f p d = record { card = pick (fits_save f p.card) (restore f (saved f p.card) d).card p.card; live = p.live; accepted = p.accepted }

-- The table is what the form carries: in the new form the same, in the old one but for the last label given, which is the highest in use.
unfoldable pub carried_on : Form → Past → Past
carried_on f p = record { card = pick (fits_save f p.card) (carried_by f p.card) p.card; live = p.live; accepted = p.accepted }

-- where the save is moved from one form to the other on the way, in so much room; where 19 or 16 refuses the save or the move there is no swap
unfoldable pub moved_over : Form → Form → ℕ → Past → Card → Past
moved_over f g room p d =
    let m = move f g room (saved f p.card) in
    record { card = pick (fits_save f p.card && eqb m.answer 0) (restore g m.octets d).card p.card; live = p.live; accepted = p.accepted }

-- the past of a card with what the form carries
unfoldable pub carried : Form → Past → Past
carried f p = record { card = carried_by f p.card; live = p.live; accepted = p.accepted }
