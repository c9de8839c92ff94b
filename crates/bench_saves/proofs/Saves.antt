-- The replies to orders on saves, by the form. Assumes nothing.
use Prim.Native.Nat.{ℕ, ◌-◌, ◌*◌, ◌≤◌, min}
use native.Mathlib.Nat.{le_trans}
use native.Mathlib.Omega.{arith}
use mathlib.Core.Path.{◌≡◌, refl, sym, ap, ◌∙◌}
use mathlib.Core.Bool.{Bool, true, false, not}
use mathlib.Core.List.{List}
use lib.ListN.{length, take, drop}
use borrow.Author.Tests.{ltb-false}
use lib.Dec.{ltb}
use Rattle.meaning.specs.Lists.{by-test}
use Rattle.meaning.specs.Card.{Card}
use Rattle.meaning.specs.Events.{room_short}
use Rattle.meaning_save.specs.Save.{Form, old, new, form_of, save_limit, saved, fits_save, save, restore, table_in, is_save, Moved, not_moved, move}
use Rattle.meaning.specs.Calls.{Hands}
use Rattle.save_mover.specs.Moves.{Gives}
use Rattle.bench_verbs.specs.Line.{Said}
use Rattle.bench_orders.specs.Tells.{SaveLies}
use Rattle.bench_lines.specs.Text.{count_line, event_line, text_space}
use Rattle.bench_replies.specs.Reply.{shifted, save_word, restore_word, move_word, other, reply_to, Says}
use Rattle.bench_replies.proofs.Reply.{says-told, says-counted}
use Rattle.bench_words.proofs.Words.{part-short}

module _ (b : Bool) where
  pub most-new : b ≡ true → (save_limit new ≡ save_limit (form_of b)) × (save_limit new ≤ save_limit new)
  unfolding form_of
  most-new e = rw e (refl, omega arith)

  pub most-old : b ≡ false → (save_limit old ≡ save_limit (form_of b)) × (save_limit old ≤ save_limit new)
  unfolding form_of
  most-old e = rw e (refl, omega arith)

-- the space of the other form
pub limit-most : (b : Bool) → save_limit (form_of (not b)) ≤ save_limit new
unfolding form_of
limit-most true = omega arith
limit-most false = omega arith

pub other-old : (b : Bool) (l : ℕ) → b ≡ true → save_limit old ≡ l → l ≡ save_limit (form_of (not b))
unfolding form_of
other-old b l e h = rw e (sym h)

pub other-new : (b : Bool) (l : ℕ) → b ≡ false → save_limit new ≡ l → l ≡ save_limit (form_of (not b))
unfolding form_of
other-new b l e h = rw e (sym h)

-- ---- a save, lent as much as the longest of its form has, or the room

pub says-saved : (f : Form) (number room l : ℕ) (c : Card) (a : ℕ) (part text : List ℕ) (r : ℕ) → l ≡ min room (save_limit f) → Hands (save f l c) a part c → r ≤ text_space → take r text ≡ event_line (save_word f) a part → Says (reply_to number room c (Said.save f)) r text c
unfolding reply_to
says-saved f number room l c a part text r el h k e = says-told (λ m. save f m c) (save_word f) text room r el h k e

pub says-restored : (f : Form) (number room : ℕ) (c d : Card) (o s : List ℕ) (a : ℕ) (text : List ℕ) (r : ℕ) → s ≡ o → a ≡ (restore f s c).answer → d ≡ (restore f s c).card → r ≤ text_space → take r text ≡ count_line (restore_word f) a → Says (reply_to number room c (Said.restore f o)) r text d
unfolding reply_to
says-restored f number room c d o s a text r es ea ed k e = says-counted (restore f o c) (restore_word f) text room r (ea ∙ ap (λ (x : List ℕ). (restore f x c).answer) es) (ed ∙ ap (λ (x : List ℕ). (restore f x c).card) es) k e

-- ---- a move

move-fits : (f g : Form) (room : ℕ) (o : List ℕ) → length (move f g room o).octets ≤ room
unfolding move not_moved room_short
move-fits f g room o =
    by-test (is_save f o)
    (λ s. by-test (fits_save g (table_in f o))
    (λ h. by-test (ltb room (length (saved g (table_in f o))))
    (λ e. rw (s, h, e) (omega arith))
    (λ e. rw (s, h, e) (ltb-false room (length (saved g (table_in f o))) e)))
    (λ h. rw (s, h) (omega arith)))
    (λ s. rw s (omega arith))

pub moved-fits : (f g : Form) (l a most : ℕ) (o part : List ℕ) → Gives (move f g l o) a part → l ≤ most → length part ≤ most
moved-fits f g l a most o part h k = rw h.hands (omega (arith, move-fits f g l o))

says-shifted : (word : List ℕ) (m : Moved) (c : Card) (room a : ℕ) (part text : List ℕ) (r : ℕ) → Gives m a part → r ≤ text_space → take r text ≡ event_line word a part → Says (shifted word m c room) r text c
unfolding shifted
says-shifted word m c room a part text r h k e = record { short = k; line = e ∙ rw (h.answers, h.hands) refl; leaves = refl }

pub says-moved : (b : Bool) (number room l : ℕ) (c : Card) (o s : List ℕ) (a : ℕ) (part text : List ℕ) (r : ℕ) → l ≡ min room (save_limit (form_of (not b))) → s ≡ o → Gives (move (form_of b) (form_of (not b)) l s) a part → r ≤ text_space → take r text ≡ event_line (move_word (form_of b)) a part → Says (reply_to number room c (Said.moves (form_of b) o)) r text c
unfolding reply_to other form_of
says-moved true number room l c o s a part text r el es h k e = rw (← es, ← el) (says-shifted (move_word new) (move new old l s) c room a part text r h k e)
says-moved false number room l c o s a part text r el es h k e = rw (← es, ← el) (says-shifted (move_word old) (move old new l s) c room a part text r h k e)

-- the word of HEX is no longer than the longest save's digits
pub lies-most : (b : Bool) (l : List ℕ) (s e : ℕ) → SaveLies (form_of b) l s e → length (take (e - s) (drop s l)) ≤ 2 * save_limit new
unfolding form_of
lies-most true l s e h = part-short _ l s e h
lies-most false l s e h = le_trans (part-short _ l s e h) (omega arith)
