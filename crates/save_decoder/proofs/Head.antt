-- What a save's head has to say. Assumes nothing.
use Prim.Native.Nat.{ℕ, ◌+◌, ◌*◌, ◌≤◌, ◌<◌}
use native.Mathlib.Omega.{arith}
use mathlib.Core.Path.{◌≡◌, sym, ap, ◌∙◌}
use mathlib.Core.Bool.{Bool, true, false}
use mathlib.Core.List.{List}
use lib.ListN.{drop, get_or, replicate}
use lib.Dec.{ltb}
use borrow.Author.Tests.{ltb-true, ltb-false, not-true}
use Rattle.meaning.specs.Octets.{all, two_at, four_at}
use Rattle.meaning.specs.Lists.{by-test, never}
use Rattle.meaning_laws.specs.RoundTrip.{both}
use Rattle.meaning.specs.Events.{base_outside}
use Rattle.meaning.specs.Card.{Tree, Use, free, Card, with_routes, with_trees, label_count}
use Rattle.meaning_save.specs.Save.{Form, new, form_of, last_place, routes_read, trees_read, trees_end, uses_read, all_labelled, once_each, same_name, same_root, holds_right, keeps_rules, table_in, is_save, head_size, route_size, counts_right, keeps_rows}
use Rattle.meaning_laws.specs.SaveLaws.{Head, head-of-save, last-of-save, ruled-keeps, taken-is-save}
use Rattle.save_rows.specs.Stages.{trees_begin, rows_read}
use Rattle.save_labels.specs.Labels.{OfBlock}
use Rattle.save_labels.proofs.Labels.{all_once}
use Rattle.save_counts.proofs.Entries.{worked-once}

keeps-once : (c : Card) → keeps_rules c ≡ true → (base_outside c.base ≡ false) × (once_each same_name c.trees ≡ true) × (once_each same_root c.routes ≡ true) × (all (holds_right c) c.trees ≡ true)
unfolding keeps_rules keeps_rows
keeps-once c e =
    let rows = (both _ (counts_right c) e).0 in
    let held = both _ _ rows in
    let names = both _ _ (both _ _ (both _ _ (both _ _ held.0).0).0).0 in
    let roots = both _ _ (both _ _ names.0).0 in
    let sizes = both _ _ (both _ _ (both _ _ (both _ _ roots.0).0).0).0 in
    (not-true _ (both _ _ sizes.0).0, names.1, roots.1, held.1)

pub no-save : (f : Form) (o : List ℕ) → (Head o → ⊥) → is_save f o ≡ false
no-save f o h = by-test (is_save f o) (λ e. absurd (h (head-of-save f o e))) (λ e. e)

-- the trees of a save have each a name of their own, and its routes a root
module _ (f : Form) (o : List ℕ) where
  save-once : is_save f o ≡ true → (once_each same_name (rows_read f o).trees ≡ true) × (once_each same_root (rows_read f o).routes ≡ true)
  unfolding table_in rows_read with_trees with_routes trees_begin
  save-once e =
      let after_routes : List ℕ = drop (head_size f + get_or o 11 0 * route_size) o in
      let us : List Use = uses_read f (four_at o 3) (two_at o 13) (trees_end f (get_or o 12 0) after_routes) (replicate label_count free) in
      let ts : List Tree = trees_read f (get_or o 12 0) after_routes in
      let once = keeps-once (table_in f o) (ruled-keeps f (table_in f o) (taken-is-save f o e).0) in
      (sym (all_once (four_at o 3) us ts) ∙ once.1, sym (worked-once (all_labelled (four_at o 3) us ts) (routes_read (get_or o 11 0) (drop (head_size f) o))) ∙ once.2)

  table-once : once_each same_name (rows_read f o).trees ≡ true → once_each same_root (rows_read f o).routes ≡ true → (once_each same_name (table_in f o).trees ≡ true) × (once_each same_root (table_in f o).routes ≡ true)
  unfolding table_in rows_read with_trees with_routes trees_begin
  table-once names roots = (all_once _ _ _ ∙ names, worked-once _ _ ∙ roots)

  module _ (c : Card) (e : c ≡ rows_read f o) where
    pub read-once : once_each same_name c.trees ≡ true → once_each same_root c.routes ≡ true → (once_each same_name (table_in f o).trees ≡ true) × (once_each same_root (table_in f o).routes ≡ true)
    read-once names roots = table-once (rw (← e) names) (rw (← e) roots)

    pub names-not : once_each same_name c.trees ≡ false → is_save f o ≡ false
    names-not n = by-test (is_save f o) (λ k. absurd (never (sym n ∙ ap (λ (x : Card). once_each same_name x.trees) e ∙ (save-once k).0))) (λ k. k)

    pub roots-not : once_each same_root c.routes ≡ false → is_save f o ≡ false
    roots-not n = by-test (is_save f o) (λ k. absurd (never (sym n ∙ ap (λ (x : Card). once_each same_root x.routes) e ∙ (save-once k).1))) (λ k. k)

  -- and hold each a label for whom they are to
  pub held-not : all (holds_right (table_in f o)) (table_in f o).trees ≡ false → is_save f o ≡ false
  held-not n = by-test (is_save f o) (λ k. absurd (never (sym n ∙ (keeps-once (table_in f o) (ruled-keeps f (table_in f o) (taken-is-save f o k).0)).3))) (λ k. k)

-- the last label given, which the new form has
pub last-not : (b : Bool) (o : List ℕ) → b ≡ true → (OfBlock (four_at o 3) (four_at o last_place) → ⊥) → is_save (form_of b) o ≡ false
unfolding form_of
last-not b o e h = rw e (by-test (is_save new o) (λ k. absurd (h (last-of-save o k))) (λ k. k))

pub last-in : (base l b n : ℕ) → b ≡ base → n ≡ l → b ≤ n → ltb n (b + 256) ≡ true → OfBlock base l
last-in base l b n eb en low high some = (omega arith, omega (arith, ltb-true n (b + 256) high))

pub last_out : (base l b n : ℕ) → b ≡ base → n ≡ l → (n ≡ 0 → ⊥) → ltb n (b + 256) ≡ false → OfBlock base l → ⊥
last_out base l b n eb en some high h = omega (arith, ltb-false n (b + 256) high, (h (λ z. some (en ∙ z))).1)

pub last-low : (base l b n : ℕ) → b ≡ base → n ≡ l → (n ≡ 0 → ⊥) → n < b → OfBlock base l → ⊥
last-low base l b n eb en some low h = omega (arith, (h (λ z. some (en ∙ z))).0)
