-- The laws by which the writer of notices follows the definitions: a call's end. Assumes nothing.
use Prim.Native.Nat.{ℕ, ◌≤◌, ◌<◌}
use mathlib.Core.Path.{◌≡◌, refl, sym, ap, ◌∙◌}
use mathlib.Core.Bool.{true, false}
use mathlib.Core.List.{List}
use lib.ListN.{length}
use Rattle.meaning.specs.Wire.{next_id}
use Rattle.meaning.specs.Card.{Card, with_next}
use Rattle.meaning.specs.Events.{refuse, accept}
use Rattle.meaning.specs.Calls.{over, Does}
use Rattle.meaning.specs.Notice.{notice_due, notice_record, notice}
use Rattle.meaning_laws.specs.NoticeLaws.{record-length, far, silent, short, tells}

module _ (c : Card) (to number : ℕ) (s out : List ℕ) where
  pub does-far : 15 < to → Does (notice (length out) c to number s) 1 0 out out c
  does-far h = rw (far (length out) c to number s h) (unfold refuse over in record { answers = refl; counts = refl; writes = refl; leaves = refl })

  pub does-silent : to ≤ 15 → notice_due number s ≡ false → Does (notice (length out) c to number s) 0 0 out out c
  does-silent h e = rw (silent (length out) c to number s h e) (unfold accept with_next over in record { answers = refl; counts = refl; writes = refl; leaves = refl })

  pub does-short : to ≤ 15 → notice_due number s ≡ true → length out < 26 → Does (notice (length out) c to number s) 16 0 out out c
  does-short h e r = rw (short (length out) c to number s h e r) (unfold refuse over in record { answers = refl; counts = refl; writes = refl; leaves = refl })

  pub does-tell : to ≤ 15 → notice_due number s ≡ true → 26 ≤ length out → (id next : ℕ) (out' : List ℕ) (d : Card) → id ≡ c.next → next ≡ next_id id → out' ≡ over (notice_record id to number s) out → d ≡ with_next next c
      → Does (notice (length out) c to number s) 0 26 out out' d
  does-tell h e r id next out' d ei en eo ed =
      rw (tells (length out) c to number s h e r)
      (unfold accept in record {
        answers = refl;
        counts = sym (record-length c.next to number s);
        writes = eo ∙ ap (λ (i : ℕ). over (notice_record i to number s) out) ei;
        leaves = ed ∙ ap (λ (i : ℕ). with_next i c) (en ∙ ap next_id ei);
      })
