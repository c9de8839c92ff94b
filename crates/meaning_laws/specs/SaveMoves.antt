-- Moving a save to the other form: when it is refused, that reading what was moved is reading what stood, and both ways there and back.
-- Assumes nothing.
use Rattle.std.specs.Prelude.{ℕ, ◌≤◌, ◌<◌, ◌≡◌, true, false, ◌&&◌, get_or, length, ltb}
use Rattle.std.proofs.Common.{arith, sym, ◌∙◌}
use Rattle.std.proofs.Math.Path.{refl, ap}
use mathlib.Core.List.{List, []}
use borrow.Author.Tests.{lt-ltb, le-ltb, ltb-false}
use Rattle.meaning.specs.Lists.{by-test}
use Rattle.meaning.specs.Card.{Card, with_last}
use Rattle.meaning.specs.Events.{Out, room_short}
use Rattle.meaning_laws.specs.RoundTrip.{both}
use Rattle.meaning_save.specs.Save.{Form, old, new, head_kind, fits_save, marked, head_saved, saved, settled, carried_by, last_in, table_in, keeps_rules, last_right, ruled, is_save, restore, Moved, not_moved, move, newer, older}
use Rattle.meaning_laws.specs.SaveRules.{rules}
use Rattle.meaning_laws.specs.SaveLaws.{read_fits, fits-any, settled-right, read_back, save-taken, taken-is-save, restored, restore-taken}

-- ---- no octets are a save of both forms

kind-is : (f : Form) (o : List ℕ) → is_save f o ≡ true → get_or o 2 0 ≡ head_kind f
kind-is f o h = ap (λ (s : List ℕ). get_or s 2 0) (sym (taken-is-save f o h).1) ∙ unfold saved head_saved marked in refl

pub forms-apart : (o : List ℕ) → is_save old o ≡ true → is_save new o ≡ true → ⊥
forms-apart o h k = let a = kind-is old o h in let b = kind-is new o k in omega arith

-- ---- when a move is refused, and what it writes

module _ (f g : Form) (room : ℕ) (o : List ℕ) where
  -- no save, or a value that is too long, whatever the room
  pub move-none : is_save f o ≡ false → move f g room o ≡ not_moved 19
  unfolding move
  move-none h = rw h refl

  pub move-long : fits_save g (table_in f o) ≡ false → move f g room o ≡ not_moved 19
  unfolding move
  move-long h = by-test (is_save f o) (λ e. rw (e, h) refl) (λ e. rw e refl)

  module _ (taken : is_save f o ≡ true) (room_for : fits_save g (table_in f o) ≡ true) where
    pub move-short : room < length (saved g (table_in f o)) → move f g room o ≡ not_moved 16
    unfolding move room_short
    move-short h = rw (taken, room_for, lt-ltb room (length (saved g (table_in f o))) h) refl

    pub move-whole : length (saved g (table_in f o)) ≤ room → move f g room o ≡ record { answer = 0; octets = saved g (table_in f o) }
    unfolding move room_short
    move-whole h = rw (taken, room_for, le-ltb room (length (saved g (table_in f o))) h) refl

-- what an answer 0 tells
pub record Taken (f g : Form) (room : ℕ) (o : List ℕ) : Type 0 where
  pub save : is_save f o ≡ true
  pub fits : fits_save g (table_in f o) ≡ true
  pub short : length (saved g (table_in f o)) ≤ room

pub move_taken : (f g : Form) (room : ℕ) (o : List ℕ) → (move f g room o).answer ≡ 0 → Taken f g room o
unfolding move not_moved room_short
move_taken f g room o h =
    by-test (is_save f o && fits_save g (table_in f o))
    (λ e. by-test (ltb room (length (saved g (table_in f o))))
    (λ k. absurd (let z : 16 ≡ 0 = rw (e, k) at h in omega arith))
    (λ k. let p = both (is_save f o) (fits_save g (table_in f o)) e in record { save = p.0; fits = p.1; short = ltb-false _ _ k }))
    (λ e. absurd (let z : 19 ≡ 0 = rw e at h in omega arith))

-- ---- the table of a save keeps the rules that either form asks for

-- what the old form gives has settled
table-settled : (o : List ℕ) → settled (table_in old o) ≡ table_in old o
unfolding settled with_last table_in last_in
table-settled o = refl

pub taken-ruled : (f g : Form) (o : List ℕ) → is_save f o ≡ true → ruled g (table_in f o) ≡ true
unfolding ruled
taken-ruled old old o h = (taken-is-save old o h).0
taken-ruled new new o h = (taken-is-save new o h).0
taken-ruled new old o h = (both (keeps_rules (table_in new o)) (last_right (table_in new o)) (taken-is-save new o h).0).0
taken-ruled old new o h =
    let kept : keeps_rules (table_in old o) ≡ true = (taken-is-save old o h).0 in
    let R = rules (table_in old o) kept in
    let right : last_right (table_in old o) ≡ true = ap last_right (sym (table-settled o)) ∙ settled-right (table_in old o) (omega (arith, R.low)) R.many in
    rw (kept, right) refl

-- ---- moving and then reading is reading

module _ (f g : Form) (o : List ℕ) (taken : is_save f o ≡ true) (room_for : fits_save g (table_in f o) ≡ true) where
  -- what was moved is a save of the other form, with the table that this form carries
  pub moved-taken : is_save g (saved g (table_in f o)) ≡ true
  moved-taken = save-taken g (table_in f o) (taken-ruled f g o taken) room_for

  pub moved-table : table_in g (saved g (table_in f o)) ≡ carried_by g (table_in f o)
  moved-table = read_back g (table_in f o) (taken-ruled f g o taken) room_for

  pub moved-restored : (room : ℕ) → length (saved g (table_in f o)) ≤ room → (d : Card) → restore g (move f g room o).octets d ≡ record { answer = 0; octets = []; card = carried_by g (restore f o d).card }
  moved-restored room h d =
      ap (λ (m : Moved). restore g m.octets d) (move-whole f g room o taken room_for h)
      ∙ restored g (table_in f o) (taken-ruled f g o taken) room_for d
      ∙ ap (λ (r : Out). record { answer = 0; octets = []; card = carried_by g r.card }) (sym (restore-taken f o d taken))

-- An old save that was moved gives the very table that it gave: the last label given is as the old form's reading takes it.
pub newer-restored : (o : List ℕ) → is_save old o ≡ true → (room : ℕ) → length (saved new (table_in old o)) ≤ room → (d : Card) → restore new (newer room o).octets d ≡ restore old o d
unfolding newer carried_by
newer-restored o taken room h d =
    moved-restored old new o taken (fits-any (table_in old o)) room h d
    ∙ ap (λ (r : Out). record { answer = 0; octets = []; card = r.card }) (restore-taken old o d taken)
    ∙ sym (restore-taken old o d taken)

-- ---- there and back

-- Old to new to old gives the same octets.
pub old-new-old : (o : List ℕ) → is_save old o ≡ true → (there back : ℕ) → length (saved new (table_in old o)) ≤ there → length o ≤ back → older back (newer there o).octets ≡ record { answer = 0; octets = o }
unfolding newer older
old-new-old o taken there back h k =
    let c : Card = table_in old o in
    let n : List ℕ = saved new c in
    let same-octets : saved old c ≡ o = (taken-is-save old o taken).1 in
    let table : table_in new n ≡ c = moved-table old new o taken (fits-any c) ∙ unfold carried_by in refl in
    let again : saved old (table_in new n) ≡ o = ap (saved old) table ∙ same-octets in
    ap (λ (m : Moved). move new old back m.octets) (move-whole old new there o taken (fits-any c) h)
    ∙ move-whole new old back n (moved-taken old new o taken (fits-any c)) (ap (fits_save old) table ∙ read_fits old o) (rw again k)
    ∙ ap (λ (s : List ℕ). record { answer = 0; octets = s }) again

-- New to old to new gives the same table but for the last label given, which is then the highest in use; where a value is too long for the old form it stops at 19.
pub new-old-new : (o : List ℕ) → is_save new o ≡ true → fits_save old (table_in new o) ≡ true → (there back : ℕ)
    → length (saved old (table_in new o)) ≤ there → length (saved new (settled (table_in new o))) ≤ back
    → newer back (older there o).octets ≡ record { answer = 0; octets = saved new (settled (table_in new o)) }
unfolding newer older
new-old-new o taken room there back h k =
    let c : Card = table_in new o in
    let s : List ℕ = saved old c in
    let table : table_in old s ≡ settled c = moved-table new old o taken room ∙ unfold carried_by in refl in
    ap (λ (m : Moved). move old new back m.octets) (move-whole new old there o taken room h)
    ∙ move-whole old new back s (moved-taken new old o taken room) (fits-any (table_in old s)) (rw table k)
    ∙ ap (λ (d : Card). record { answer = 0; octets = saved new d }) table

-- and that is the table it reads as
pub new-old-new-table : (o : List ℕ) → is_save new o ≡ true → fits_save old (table_in new o) ≡ true → table_in new (saved new (settled (table_in new o))) ≡ settled (table_in new o)
unfolding carried_by
new-old-new-table o taken room =
    let c : Card = table_in new o in
    let table : table_in old (saved old c) ≡ settled c = moved-table new old o taken room in
    ap (λ (d : Card). table_in new (saved new d)) (sym table)
    ∙ moved-table old new (saved old c) (moved-taken new old o taken room) (fits-any (table_in old (saved old c)))
    ∙ table

-- Moving back is refused 19 exactly for octets that are no save of the new form, or whose table has a value of more than 32 octets.
pub older-refused : (room : ℕ) (o : List ℕ) → (is_save new o && fits_save old (table_in new o)) ≡ false → older room o ≡ not_moved 19
unfolding older move
older-refused room o h = rw h refl
