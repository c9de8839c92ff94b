-- The counts in a save: it does not carry them, and what is read has true ones. That the counts are true, by root and by entry.
-- Assumes nothing.
use Rattle.std.specs.Prelude.{ℕ, ◌≤◌, ◌<◌, ◌≡◌, refl, Bool, true, false, ◌&&◌, eqb, ltb}
use Rattle.std.proofs.Common.{sym, ap₂, ◌∙◌}
use Rattle.std.proofs.Math.Path.{ap}
use mathlib.Core.List.{List, [], ◌∷◌}
use Rattle.std.proofs.Math.ListN.{get_or, length}
use borrow.Author.Tests.{eqb-true, eq-eqb, ltb-true, ltb-false}
use Rattle.meaning.specs.Octets.{place, count, all}
use Rattle.meaning.specs.Lists.{by-test, get_d-same, place-finds, place-only, same-eq, same_refl}
use Rattle.meaning.specs.Card.{Route, Tree, Card, route_place, is_for, no_entry}
use Rattle.meaning.specs.Events.{total, in_root, one_standing, one_lone, worked_out, entry_of}
use Rattle.meaning_laws.specs.Counts.{plain, plains, Counted, new-counted}
use Rattle.meaning_laws.specs.RoundTrip.{both}
use Rattle.meaning_save.specs.Save.{Form, old, new, ruled, rows_ruled, all_worked_out, table_in, is_counted, counts_right, keeps_rows, keeps_rules}
use Rattle.meaning_laws.specs.SaveFields.{all_cons}
use Rattle.meaning_laws.specs.SaveRules.{all-at, all_of}

-- ---- the counts are worked out from the roots and the trees

pub plains-worked : (ts : List Tree) (rs : List Route) → all_worked_out ts (plains rs) ≡ all_worked_out ts rs
unfolding all_worked_out worked_out plains plain
plains-worked ts [] = refl
plains-worked ts (x ∷ rs) = ap (λ (l : List Route). worked_out ts x ∷ l) (plains-worked ts rs)

-- where they are true they are the same
counted_is : (ts : List Tree) (x : Route) → is_counted ts x ≡ true → worked_out ts x ≡ x
unfolding is_counted worked_out
counted_is ts x h =
    let p = both (eqb x.standing (total (in_root x.root one_standing) ts)) (eqb x.lone (total (in_root x.root one_lone) ts)) h in
    let standing : x.standing ≡ total (in_root x.root one_standing) ts = eqb-true _ _ p.0 in
    let lone : x.lone ≡ total (in_root x.root one_lone) ts = eqb-true _ _ p.1 in
    λ i. record { root = x.root; via = x.via; standing = sym standing i; lone = sym lone i }

pub worked_same : (ts : List Tree) (rs : List Route) → all (is_counted ts) rs ≡ true → all_worked_out ts rs ≡ rs
unfolding all_worked_out
worked_same ts [] h = refl
worked_same ts (x ∷ rs) h = let p = all_cons (is_counted ts) x rs h in ap₂ (λ (y : Route) (ys : List Route). y ∷ ys) (counted_is ts x p.0) (worked_same ts rs p.1)

-- and what is worked out is true
worked-counted : (ts : List Tree) (rs : List Route) → all (is_counted ts) (all_worked_out ts rs) ≡ true
unfolding all all_worked_out is_counted worked_out
worked-counted ts [] = refl
worked-counted ts (x ∷ rs) = rw (eq-eqb (total (in_root x.root one_standing) ts) _ refl, eq-eqb (total (in_root x.root one_lone) ts) _ refl) (worked-counted ts rs)

-- A table that is read, whatever the octets, has true counts, so that its other rules alone are to be tested.
pub read-counted : (f : Form) (o : List ℕ) → counts_right (table_in f o) ≡ true
unfolding counts_right table_in
read-counted f o = worked-counted _ _

and-true : (b : Bool) → (b && true) ≡ b
and-true true = refl
and-true false = refl

pub read-rules : (f : Form) (o : List ℕ) → keeps_rules (table_in f o) ≡ keeps_rows (table_in f o)
unfolding keeps_rules
read-rules f o = rw (read-counted f o) (and-true (keeps_rows (table_in f o)))

pub read-ruled : (f : Form) (o : List ℕ) → ruled f (table_in f o) ≡ rows_ruled f (table_in f o)
unfolding ruled rows_ruled
read-ruled old o = read-rules old o
read-ruled new o = rw (read-rules new o) refl

-- That the counts are true, by root and by entry: where each root has one entry these say the same.
module _ (c : Card) (once : (q : List ℕ) → count (is_for q) c.routes ≤ 1) where
  entry-root : (q : List ℕ) → route_place q c < length c.routes → (entry_of q c).root ≡ q
  unfolding entry_of route_place is_for
  entry-root q h = same-eq (get_or c.routes (place (is_for q) c.routes) (worked_out c.trees (no_entry q))).root q (place-finds (is_for q) c.routes (worked_out c.trees (no_entry q)) h)

  entry-same : counts_right c ≡ true → (q : List ℕ) → route_place q c < length c.routes → worked_out c.trees (entry_of q c) ≡ entry_of q c
  unfolding counts_right entry_of
  entry-same h q k = counted_is c.trees _ (all-at (is_counted c.trees) c.routes (worked_out c.trees (no_entry q)) h (route_place q c) k)

  pub right-counted : counts_right c ≡ true → (q : List ℕ) → Counted q c
  unfolding worked_out
  right-counted h q =
      by-test (ltb (route_place q c) (length c.routes))
      (λ e. let k : route_place q c < length c.routes = ltb-true _ _ e in
      let x : worked_out c.trees (entry_of q c) ≡ entry_of q c = entry-same h q k in
      record {
        standing = ap (λ (y : Route). y.standing) (sym x) ∙ ap (λ (r : List ℕ). total (in_root r one_standing) c.trees) (entry-root q k);
        lone = ap (λ (y : Route). y.lone) (sym x) ∙ ap (λ (r : List ℕ). total (in_root r one_lone) c.trees) (entry-root q k);
      })
      (λ e. new-counted c q (ltb-false _ _ e))

  -- at its place an entry has the counts of its root
  pub counted-place : ((q : List ℕ) → Counted q c) → (k : ℕ) → k < length c.routes → ((get_or c.routes k (no_entry [])).standing ≡ total (in_root (get_or c.routes k (no_entry [])).root one_standing) c.trees) × ((get_or c.routes k (no_entry [])).lone ≡ total (in_root (get_or c.routes k (no_entry [])).root one_lone) c.trees)
  counted-place C k h = (
    ap (λ (y : Route). y.standing) (sym entry) ∙ (C (get_or c.routes k (no_entry [])).root).standing,
    ap (λ (y : Route). y.lone) (sym entry) ∙ (C (get_or c.routes k (no_entry [])).root).lone,
  )
    where
      at : place (is_for (get_or c.routes k (no_entry [])).root) c.routes ≡ k
      at = place-only (is_for (get_or c.routes k (no_entry [])).root) c.routes k (no_entry []) h (unfold is_for in same_refl _) (once _)

      entry : entry_of (get_or c.routes k (no_entry [])).root c ≡ get_or c.routes k (no_entry [])
      entry = unfold entry_of route_place in ap (λ (j : ℕ). get_or c.routes j (worked_out c.trees (no_entry (get_or c.routes k (no_entry [])).root))) at ∙ get_d-same c.routes k _ (no_entry []) h

  pub counted-right : ((q : List ℕ) → Counted q c) → counts_right c ≡ true
  unfolding counts_right is_counted worked_out
  counted-right C = all_of (is_counted c.trees) c.routes (no_entry []) (λ k h. let p = counted-place C k h in unfold is_counted worked_out in rw (eq-eqb _ _ p.0, eq-eqb _ _ p.1) refl)
