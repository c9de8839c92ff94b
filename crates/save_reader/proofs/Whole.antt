-- What is taken for a save, and what is put in its place. Assumes nothing.
use Prim.Native.Nat.{ℕ, ◌+◌, ◌-◌, ◌≤◌}
use native.Mathlib.Omega.{arith}
use mathlib.Core.Path.{◌≡◌, refl, sym, ◌∙◌}
use mathlib.Core.Bool.{Bool, true, false}
use mathlib.Core.List.{List}
use lib.Dec.{eqb}
use borrow.Author.Tests.{eq-eqb, ne_eqb, le-leb, lt-ltb}
use Rattle.meaning.specs.Card.{Card, free_labels, label_count, turn}
use Rattle.meaning.specs.Events.{refuse}
use Rattle.meaning.specs.Lists.{positive}
use Rattle.memory.specs.Memory.{card_of, base_in}
use Rattle.memory.proofs.Memory.{base-range}
use Rattle.save_records.proofs.Records.{last_none, last_some}
use Rattle.meaning_save.specs.Save.{Form, form_of, keeps_rows, last_right, rows_ruled, table_in, is_save, restore}
use Rattle.meaning_laws.specs.NoticeLaws.{Octets}
use Rattle.meaning_laws.specs.SaveCounts.{read-ruled}
use Rattle.save_written.specs.Written.{written}
use Rattle.save_written.proofs.Exact.{written-is-save}

-- A table that is read has true counts, so that its other rules alone are tested.

module _ (f : Form) (o : List ℕ) where
  -- ---- the octets that are its save

  pub not_taken : (c : Card) → c ≡ table_in f o → rows_ruled f c ≡ false → is_save f o ≡ false
  unfolding is_save
  not_taken c e k = rw (read-ruled f o, ← e, k) refl

  pub taken : (c : Card) (r : Bool) → c ≡ table_in f o → rows_ruled f c ≡ true → Octets o → r ≡ written f o → r ≡ is_save f o
  taken c r e k small h = h ∙ written-is-save f o small (rw (← e) k)

  pub refused : (c : Card) → is_save f o ≡ false → (19 ≡ (restore f o c).answer) × (c ≡ (restore f o c).card)
  unfolding restore refuse
  refused c e = rw e (refl, refl)

  pub restored : (c d : Card) → is_save f o ≡ true → d ≡ table_in f o → (0 ≡ (restore f o c).answer) × (d ≡ (restore f o c).card)
  unfolding restore
  restored c d e h = rw e (refl, h)

-- ---- the rules that a form asks for

module _ (ns os : List ℕ) (v : ℕ) (ev : v ≡ turn (card_of ns os)) where
  pub right-some : v ≤ label_count → (v ≡ 0 → ⊥) → true ≡ last_right (card_of ns os)
  unfolding last_right
  right-some few some =
      let base : (card_of ns os).base ≡ base_in ns = unfold card_of in refl in
      let last : base_in ns + v - 1 ≡ (card_of ns os).last = last_some ns os (base_in ns) v refl ev some in
      let low = (base-range ns).0 in
      let one : 1 ≤ v = positive v some in
      rw (ne_eqb (card_of ns os).last 0 (λ z. omega arith), le-leb (card_of ns os).base (card_of ns os).last (omega arith), lt-ltb (card_of ns os).last ((card_of ns os).base + 256) (omega arith)) refl

  pub right-none : (n : ℕ) → v ≡ 0 → n ≡ free_labels (card_of ns os) → eqb n label_count ≡ last_right (card_of ns os)
  unfolding last_right
  right-none n z en = let none : eqb (card_of ns os).last 0 ≡ true = eq-eqb _ _ (sym (last_none ns os v ev z)) in rw (none, en) refl

module _ (b : Bool) (c : Card) where
  pub not-ruled : keeps_rows c ≡ false → false ≡ rows_ruled (form_of b) c
  unfolding form_of rows_ruled
  not-ruled k = by_form b
    where
      by_form : (b : Bool) → false ≡ rows_ruled (form_of b) c
      by_form true = rw k refl
      by_form false = rw k refl

  pub ruled-new : b ≡ true → keeps_rows c ≡ true → (r : Bool) → r ≡ last_right c → r ≡ rows_ruled (form_of b) c
  unfolding form_of rows_ruled
  ruled-new e k r h = rw (e, k) h

  pub ruled-old : b ≡ false → keeps_rows c ≡ true → true ≡ rows_ruled (form_of b) c
  unfolding form_of rows_ruled
  ruled-old e k = rw e (sym k)
