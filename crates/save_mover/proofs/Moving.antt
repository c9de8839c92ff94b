-- A move is the save, in the other form, of the table in the octets. Assumes nothing.
use Prim.Native.Nat.{ℕ}
use mathlib.Core.Path.{◌≡◌, refl, sym, ap, ◌∙◌}
use mathlib.Core.Bool.{true, false, not}
use mathlib.Core.List.{List}
use lib.ListN.{take, drop, length}
use lib.Seq.{take-append_seam}
use Rattle.meaning.specs.Lists.{by-test}
use Rattle.meaning.specs.Card.{Card}
use Rattle.meaning.specs.Events.{room_short, refuse}
use Rattle.meaning.specs.Calls.{over, Does}
use Rattle.meaning_save.specs.Save.{Form, form_of, saved, fits_save, save, table_in, is_save, Moved, not_moved, move, newer, older}
use Rattle.save_mover.specs.Moves.{Moves, Gives}

module _ (f g : Form) (room : ℕ) (o : List ℕ) where
  -- as saving the table answers and writes
  by-saving : is_save f o ≡ true → move f g room o ≡ record { answer = (save g room (table_in f o)).answer; octets = (save g room (table_in f o)).octets }
  unfolding move not_moved save refuse
  by-saving h =
      by-test (fits_save g (table_in f o))
      (λ e. by-test (room_short room (saved g (table_in f o))) (λ k. rw (h, e, k) refl) (λ k. rw (h, e, k) refl))
      (λ e. rw (h, e) refl)

  pub moves-none : (out : List ℕ) → is_save f o ≡ false → Moves (move f g room o) 19 0 out out
  unfolding move not_moved over
  moves-none out h = rw h (record { answers = refl; counts = refl; writes = refl })

  pub moves-saved : (c : Card) (a n : ℕ) (out out' : List ℕ) → is_save f o ≡ true → c ≡ table_in f o → Does (save g room c) a n out out' c → Moves (move f g room o) a n out out'
  moves-saved c a n out out' h e d =
      rw (by-saving h, ← e) (record { answers = d.answers; counts = d.counts; writes = d.writes })

-- the part that is handed back
module _ (m : Moved) (a n : ℕ) (s s' : List ℕ) (d : Moves m a n s s') where
  pub given : Gives m a (take n s')
  given = record { answers = d.answers; hands = front }
    where
      front : take n s' ≡ m.octets
      front = rw (d.counts, d.writes) (unfold over in take-append_seam m.octets (drop (length m.octets) s))

  pub given-count : n ≡ length (take n s')
  given-count = d.counts ∙ ap length (sym given.hands)

-- the forms by the mark
pub as-newer : (room a n : ℕ) (o s s' : List ℕ) → Moves (move (form_of false) (form_of (not false)) room o) a n s s' → Moves (newer room o) a n s s'
unfolding newer form_of
as-newer room a n o s s' d = d

pub as-older : (room a n : ℕ) (o s s' : List ℕ) → Moves (move (form_of true) (form_of (not true)) room o) a n s s' → Moves (older room o) a n s s'
unfolding older form_of
as-older room a n o s s' d = d
