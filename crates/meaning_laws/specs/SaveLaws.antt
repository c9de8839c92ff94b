-- The save: what is written is read back as it was, octets that are taken are the save of the table that they give, and how long a save is.
-- Assumes nothing.
use Prim.Native.Nat.{ℕ, zero, suc, ◌+◌, ◌*◌, ◌-◌, ◌≤◌, ◌<◌, suc-le-suc, zero-le}
use Rattle.std.proofs.Common.{le_of_suc-le-suc, not-suc-le-zero, ap₂, ◌∙◌, subst, length-append, drop_at, drop-drop}
use native.Mathlib.Omega.{arith}
use Rattle.std.specs.Prelude.{◌↔◌, ◌≡◌, Bool, false, ◌&&◌, drop, get_or, length, replicate, eqb, leb, ltb}
use Rattle.std.proofs.Math.Path.{refl, sym, ap}
use Rattle.std.proofs.Math.Bool.{true}
use mathlib.Core.List.{List, [], ◌∷◌, ◌++◌}
use borrow.Author.Tests.{eqb-true, eqb-false, eq-eqb, ne_eqb, le-leb, leb-true, ltb-true, ltb-false, lt-ltb, le-ltb}
use Rattle.meaning.specs.Octets.{pick, place, count, all, same, two, four, two_at, four_at}
use Rattle.meaning.specs.Lists.{by-test, get_d-same, get_d-out, place-finds, place-count, place-only, count-some, same-eq, same_refl}
use Rattle.meaning.specs.Card.{Tree, Use, free, mapped, awaiting, Card, tree_limit, route_limit, label_count, named, bare, tree_place, tree_of, tree_at, use_of, is_free, free_labels, with_last, held_for, route_of, route_place, neighbour_count, most_base}
use Rattle.meaning.specs.Events.{refuse, room_short, holder_of}
use Rattle.meaning_laws.specs.RoundTrip.{both, two_back}
use Rattle.meaning_laws.specs.NoticeLaws.{four-back}
use Rattle.meaning_save.specs.Save.{Form, old, new, head_size, route_size, tree_beside, use_beside, spaced_name, save_limit, last_place, is_short_tree, is_short_use, fits_save, marked, last_saved, head_saved, routes_saved, trees_saved, uses_saved, saved, save, routes_read, trees_read, trees_end, uses_read, is_mapped_for, all_labelled, highest_used, settled, carried_by, last_in, last_right, table_in, is_carried, all_carried, is_tree, carries_own, holds_right, keeps_rules, ruled, is_save, restore, all_worked_out, counts_right, keeps_rows}
use Rattle.meaning_laws.specs.SaveRules.{all-at, Rules, rules}
use Rattle.meaning_laws.specs.SaveLists.{either, tree-ok, routes-length, routes-back, trees_size, trees-length, trees-old, trees-new, trees-fit, trees-back, trees-after, label_for, labels-back, in_use, used-free, uses_size, uses-length, uses-old, uses-new, uses-fit, free-fit, trees-any, uses-any, uses-back}
use Rattle.meaning_laws.specs.Counts.{plains}
use Rattle.meaning_laws.specs.SaveCounts.{plains-worked, worked_same}
use Rattle.meaning.specs.Wire.{least_label}

-- ---- a tree's label is that which is mapped for it

mapped-for : (a : List ℕ) (u : Use) → is_mapped_for a u ≡ true → (c : Card) (l : ℕ) → is_carried c l u ≡ true → (tree_of a c).label ≡ l
unfolding is_mapped_for is_carried
mapped-for a free e c l h = absurd (let z : ◌≡◌ {A = ℕ} 0 1 = cc in omega arith)
mapped-for a (mapped n b) e c l h = subst (λ (x : List ℕ). (tree_of x c).label ≡ l) (same-eq b a e) (eqb-true _ _ h)
mapped-for a (awaiting n b) e c l h = absurd (let z : ◌≡◌ {A = ℕ} 0 1 = cc in omega arith)

free-for-none : (a : List ℕ) → is_mapped_for a free ≡ true → ⊥
unfolding is_mapped_for
free-for-none a e = let z : ◌≡◌ {A = ℕ} 0 1 = cc in omega arith

-- ---- values that fit

values-fit : (f : Form) (c : Card) → fits_save f c ≡ true → (all (is_short_tree f) c.trees ≡ true) × (all (is_short_use f) c.labels ≡ true)
unfolding fits_save
values-fit f c room = both (all (is_short_tree f) c.trees) (all (is_short_use f) c.labels) room

-- The values of a table that is read find room in the form, whatever the octets.
pub read_fits : (f : Form) (o : List ℕ) → fits_save f (table_in f o) ≡ true
unfolding fits_save table_in
read_fits f o =
    let after_routes : List ℕ = drop (head_size f + get_or o 11 0 * route_size) o in
    let after_trees : List ℕ = trees_end f (get_or o 12 0) after_routes in
    let us : List Use = uses_read f (four_at o 3) (two_at o 13) after_trees (replicate label_count free) in
    rw (trees-fit f (four_at o 3) us (get_or o 12 0) after_routes) (uses-fit f (four_at o 3) (two_at o 13) after_trees (replicate label_count free) (free-fit f label_count))

-- In the new form any value does.
pub fits-any : (c : Card) → fits_save new c ≡ true
unfolding fits_save
fits-any c = rw (trees-any c.trees) (uses-any c.labels)

-- ---- how long it is

pub head-length : (f : Form) (c : Card) → length (head_saved f c) ≡ head_size f
unfolding head_saved marked four two last_saved
head-length old c = refl
head-length new c = refl

-- for any table whose trees have sixteen branches
pub length-is : (f : Form) (c : Card) → ((i : ℕ) → i < length c.trees → length (tree_at i c).branches ≡ neighbour_count) → length (saved f c) ≡ head_size f + route_size * length c.routes + trees_size f c.trees + uses_size f c.labels
unfolding saved tree_at
length-is f c sixteen = simp length-append (omega (arith, head-length f c, routes-length c.routes, trees-length f c.trees sixteen, uses-length f c.base c.labels))

module _ (c : Card) (many : length c.labels ≡ label_count) where
  used-count : label_count - free_labels c ≡ count in_use c.labels
  unfolding free_labels
  used-count = let n = used-free c.labels in omega arith

  -- of the old form
  pub length-old : ((i : ℕ) → i < length c.trees → length (tree_at i c).branches ≡ neighbour_count) → length (saved old c) ≡ head_size old + route_size * length c.routes + (tree_beside + spaced_name) * length c.trees + (use_beside + spaced_name) * (label_count - free_labels c)
  length-old sixteen = omega (arith, length-is old c sixteen, trees-old c.trees, uses-old c.labels, used-count)

-- ---- a table that keeps the rules

module _ (c : Card) (R : Rules c) where
  sixteen-each : (i : ℕ) → i < length c.trees → length (tree_at i c).branches ≡ neighbour_count
  unfolding tree_at
  sixteen-each i h = (tree-ok (get_or c.trees i (bare [])) (all-at is_tree c.trees (bare []) R.trees i h)).sixteen

  tree-found : (i : ℕ) → i < length c.trees → tree_of (tree_at i c).name c ≡ tree_at i c
  unfolding tree_of tree_place tree_at named
  tree-found i h =
      rw (place-only (named (tree_at i c).name) c.trees i (bare []) h (unfold named tree_at in same_refl _) (R.names (tree_at i c).name))
      (get_d-same c.trees i (bare (tree_at i c).name) (bare []) h)

  -- a label in use for a tree has its place
  placed : (a : List ℕ) (l : ℕ) → is_mapped_for a (use_of l c) ≡ true → place (is_mapped_for a) c.labels < length c.labels
  unfolding use_of
  placed a l h =
      by-test (leb c.base l)
      (λ e. let u : is_mapped_for a (get_or c.labels (l - c.base) free) ≡ true = rw e at h in
      by-test (ltb (l - c.base) (length c.labels))
      (λ k. place-count (is_mapped_for a) c.labels (count-some (is_mapped_for a) c.labels (l - c.base) free (ltb-true _ _ k) u))
      (λ k. absurd (free-for-none a (rw (get_d-out c.labels (l - c.base) free (ltb-false _ _ k)) at u))))
      (λ e. absurd (free-for-none a (rw e at h)))

  label-given : (i : ℕ) → i < length c.trees → label_for c.base c.labels (tree_at i c).name ≡ (tree_at i c).label
  unfolding label_for carries_own
  label-given i h =
      let a : List ℕ = (tree_at i c).name in
      let p : ℕ = place (is_mapped_for a) c.labels in
      by-test (ltb p (length c.labels))
      (λ e. rw e (sym (mapped-for a (get_or c.labels p free) (place-finds (is_mapped_for a) c.labels free (ltb-true _ _ e)) c (c.base + p) (R.carried p (ltb-true _ _ e))) ∙ ap (λ (t : Tree). t.label) (tree-found i h)))
      (λ e. rw e (either (eqb (tree_at i c).label 0) (is_mapped_for a (use_of (tree_at i c).label c)) (R.own i h)
      (λ z. sym (eqb-true _ _ z))
      (λ u. let in_place = placed a (tree_at i c).label u in let out = ltb-false p (length c.labels) e in absurd (omega arith))))

-- ---- the head

pub after-head : (f : Form) (c : Card) → drop (head_size f) (saved f c) ≡ routes_saved c.routes ++ (trees_saved f c.trees ++ uses_saved f c.base c.labels)
unfolding saved head_saved marked four two last_saved
after-head old c = refl
after-head new c = refl

pub ruled-keeps : (f : Form) (c : Card) → ruled f c ≡ true → keeps_rules c ≡ true
unfolding ruled
ruled-keeps old c h = h
ruled-keeps new c h = (both (keeps_rules c) (last_right c) h).0

-- the last label given, where there is one, is of the block
last_block : (c : Card) → last_right c ≡ true → (c.last ≡ 0 → ⊥) → (c.base ≤ c.last) × (c.last < c.base + label_count)
unfolding last_right
last_block c right some =
    let p : (leb c.base c.last && ltb c.last (c.base + 256)) ≡ true = rw (ne_eqb c.last 0 some) at right in
    let q = both (leb c.base c.last) (ltb c.last (c.base + 256)) p in
    (leb-true _ _ q.0, ltb-true _ _ q.1)

-- and so of 32 bits
last-small : (c : Card) → c.base ≤ most_base → last_right c ≡ true → c.last < 4294967296
last-small c low right = by-test (eqb c.last 0) (λ e. omega (arith, eqb-true c.last 0 e)) (λ e. omega (arith, (last_block c right (eqb-false _ _ e)).1))

last-back : (f : Form) (c : Card) → ruled f c ≡ true → last_in f (saved f c) c.base c.labels ≡ (carried_by f c).last
unfolding last_in carried_by ruled
last-back old c h = unfold settled with_last in refl
last-back new c h =
    let p = both (keeps_rules c) (last_right c) h in
    unfold saved head_saved marked four two last_saved four_at two_at in four-back c.last (last-small c (rules c p.0).high p.1)

-- all but the last label given is carried
carried-is : (f : Form) (c : Card) → record { base = c.base; next = c.next; routes = c.routes; trees = c.trees; labels = c.labels; last = (carried_by f c).last } ≡ carried_by f c
unfolding carried_by settled with_last
carried-is old c = refl
carried-is new c = refl

module _ (f : Form) (c : Card) (R : Rules c) where
  head-base : four_at (saved f c) 3 ≡ c.base
  unfolding saved head_saved marked four two four_at two_at
  head-base = four-back c.base (omega (arith, R.high))

  head-next : four_at (saved f c) 7 ≡ c.next
  unfolding saved head_saved marked four two four_at two_at
  head-next = four-back c.next R.next

  head-routes : get_or (saved f c) 11 0 ≡ length c.routes
  unfolding saved head_saved marked four two
  head-routes = refl

  head-trees : get_or (saved f c) 12 0 ≡ length c.trees
  unfolding saved head_saved marked four two
  head-trees = refl

  pub head-labels : two_at (saved f c) 13 ≡ count in_use c.labels
  unfolding saved head_saved marked four two two_at
  head-labels = two_back (label_count - free_labels c) (omega arith) ∙ used-count c R.many

  after-routes : drop (head_size f + length c.routes * route_size) (saved f c) ≡ trees_saved f c.trees ++ uses_saved f c.base c.labels
  after-routes =
      sym (drop-drop (length c.routes * route_size) (head_size f) (saved f c))
      ∙ ap (drop (length c.routes * route_size)) (after-head f c)
      ∙ drop_at (routes_saved c.routes) (trees_saved f c.trees ++ uses_saved f c.base c.labels) (length c.routes * route_size) (routes-length c.routes)

  -- ---- the three lists

  its-routes : routes_read (length c.routes) (drop (head_size f) (saved f c)) ≡ plains c.routes
  its-routes = ap (routes_read (length c.routes)) (after-head f c) ∙ routes-back c.routes (trees_saved f c.trees ++ uses_saved f c.base c.labels) R.routes

  its-labels : fits_save f c ≡ true → uses_read f c.base (count in_use c.labels) (uses_saved f c.base c.labels) (replicate label_count free) ≡ c.labels
  its-labels room =
      let at : c.base + 0 ≡ c.base = omega arith in
      subst (λ (n : ℕ). uses_read f c.base (count in_use c.labels) (uses_saved f c.base c.labels) (replicate n free) ≡ c.labels) R.many
      (subst (λ (b : ℕ). uses_read f c.base (count in_use c.labels) (uses_saved f b c.labels) (replicate (length c.labels) free) ≡ c.labels) at
      (uses-back f c.base [] c.labels R.uses (values-fit f c room).1 (omega (arith, R.high, R.many))))

  its-trees : fits_save f c ≡ true → all_labelled c.base c.labels (trees_read f (length c.trees) (trees_saved f c.trees ++ uses_saved f c.base c.labels)) ≡ c.trees
  its-trees room =
      ap (all_labelled c.base c.labels) (trees-back f c.trees (uses_saved f c.base c.labels) R.trees (values-fit f c room).0)
      ∙ labels-back c.base c.labels c.trees (unfold tree_at in label-given c R)

  its-counts : all_worked_out c.trees (plains c.routes) ≡ c.routes
  its-counts = plains-worked c.trees c.routes ∙ worked_same c.trees c.routes (unfold counts_right in R.counts)

  table-back : ruled f c ≡ true → fits_save f c ≡ true → table_in f (saved f c) ≡ carried_by f c
  unfolding table_in
  table-back h room =
      rw (head-base, head-next, head-routes, head-trees, head-labels, after-routes, trees-after f c.trees (uses_saved f c.base c.labels) R.trees, its-labels room, its-routes, its-trees room, its-counts, last-back f c h)
      (carried-is f c)

-- ---- the highest label in use

pub highest-none : (l : ℕ) (us : List Use) → 0 < l → highest_used l us ≡ 0 → count is_free us ≡ length us
unfolding highest_used count
highest-none l [] h e = refl
highest-none l (u ∷ us) h e =
    by-test (eqb (highest_used (suc l) us) 0)
    (λ k. by-test (is_free u)
    (λ f. rw f (ap suc (highest-none (suc l) us (omega arith) (eqb-true _ _ k))))
    (λ f. let z : l ≡ 0 = rw (k, f) at e in absurd (omega arith)))
    (λ k. absurd (eqb-false (highest_used (suc l) us) 0 k (rw k at e)))

pub highest-block : (l : ℕ) (us : List Use) → (highest_used l us ≡ 0 → ⊥) → (l ≤ highest_used l us) × (highest_used l us < l + length us)
unfolding highest_used
highest-block l [] h = absurd (h refl)
highest-block l (u ∷ us) h =
    by-test (eqb (highest_used (suc l) us) 0)
    (λ k. by-test (is_free u)
    (λ f. absurd ((rw (k, f) at h) refl))
    (λ f. rw (k, f) (omega arith, omega arith)))
    (λ k. let p = highest-block (suc l) us (eqb-false _ _ k) in rw k (omega (arith, p.0), omega (arith, p.1)))

-- it is 0 where all are free
pub highest-free : (l : ℕ) (us : List Use) → ((p : ℕ) → p < length us → is_free (get_or us p free) ≡ true) → highest_used l us ≡ 0
unfolding highest_used
highest-free l [] h = refl
highest-free l (u ∷ us) h = rw (highest-free (suc l) us (λ p k. h (suc p) (suc-le-suc k)), h 0 (suc-le-suc zero-le)) refl

-- and that at place p where this one is in use, and none behind it
pub highest-is : (l : ℕ) (us : List Use) (p : ℕ) → p < length us → is_free (get_or us p free) ≡ false → ((q : ℕ) → p < q → q < length us → is_free (get_or us q free) ≡ true) → highest_used l us ≡ l + p
unfolding highest_used
highest-is l [] p k used none = absurd (not-suc-le-zero k)
highest-is l (u ∷ us) zero k used none = rw (highest-free (suc l) us (λ q m. none (suc q) (suc-le-suc zero-le) (suc-le-suc m)), used) (omega arith)
highest-is l (u ∷ us) (suc p) k used none =
    let later : highest_used (suc l) us ≡ suc l + p = highest-is (suc l) us p (le_of_suc-le-suc k) used (λ q m n. none (suc q) (suc-le-suc m) (suc-le-suc n)) in
    rw (later, ne_eqb (suc l + p) 0 (λ z. omega arith)) (omega arith)

-- What is read back has its last label given in the block, and none only while no label is in use.
pub settled-right : (c : Card) → 0 < c.base → length c.labels ≡ label_count → last_right (settled c) ≡ true
unfolding last_right settled with_last free_labels
settled-right c some many =
    by-test (eqb (highest_used c.base c.labels) 0)
    (λ e. rw (e, highest-none c.base c.labels some (eqb-true _ _ e)) (eq-eqb _ _ many))
    (λ e. let p = highest-block c.base c.labels (eqb-false _ _ e) in
    rw (e, le-leb c.base (highest_used c.base c.labels) p.0, lt-ltb (highest_used c.base c.labels) (c.base + 256) (omega (arith, p.1))) refl)

-- ---- the laws

-- The last label given is neither in what the old form writes nor in the rules that it asks for.
pub settled-saved : (c : Card) → saved old (settled c) ≡ saved old c
unfolding saved head_saved last_saved settled with_last free_labels
settled-saved c = refl

carried-settled : (c : Card) (l : ℕ) (us : List Use) → all_carried (settled c) l us ≡ all_carried c l us
unfolding all_carried
carried-settled c l [] = refl
carried-settled c l (u ∷ us) = ap₂ (λ (a b : Bool). pick a b false) (one u) (carried-settled c (suc l) us)
  where
    one : (u : Use) → is_carried (settled c) l u ≡ is_carried c l u
    one free = unfold is_carried in refl
    one (mapped n a) = unfold is_carried settled with_last tree_of tree_place in refl
    one (awaiting n a) = unfold is_carried in refl

pub settled-rules : (c : Card) → keeps_rules (settled c) ≡ keeps_rules c
unfolding keeps_rules keeps_rows counts_right
settled-rules c = rw carried-settled (unfold settled with_last carries_own holds_right use_of held_for holder_of route_of route_place in refl)

-- What is read back has settled.
pub settled-twice : (c : Card) → settled (settled c) ≡ settled c
unfolding settled with_last
settled-twice c = refl

pub settled-fits : (f : Form) (c : Card) → fits_save f (settled c) ≡ fits_save f c
unfolding fits_save settled with_last
settled-fits f c = refl

-- What a form carries is written as the table is, and keeps the rules that it asks for.
carried-saved : (f : Form) (c : Card) → saved f (carried_by f c) ≡ saved f c
unfolding carried_by
carried-saved old c = settled-saved c
carried-saved new c = refl

carried-ruled : (f : Form) (c : Card) → ruled f c ≡ true → ruled f (carried_by f c) ≡ true
unfolding carried_by ruled
carried-ruled old c h = settled-rules c ∙ h
carried-ruled new c h = h

-- Reading back what was written gives what the form carries: the same table, but in the old form for the last label given, which is the highest in use.
pub read_back : (f : Form) (c : Card) → ruled f c ≡ true → fits_save f c ≡ true → table_in f (saved f c) ≡ carried_by f c
read_back f c h room = table-back f c (rules c (ruled-keeps f c h)) h room

pub saved-length : (f : Form) (c : Card) → keeps_rules c ≡ true → length (saved f c) ≡ head_size f + route_size * length c.routes + trees_size f c.trees + uses_size f c.labels
saved-length f c h = length-is f c (sixteen-each c (rules c h))

pub saved-short : (f : Form) (c : Card) → keeps_rules c ≡ true → length (saved f c) ≤ save_limit f
saved-short old c h = let R = rules c h in omega (arith, length-old c R.many (sixteen-each c R), R.few-routes, R.few-trees)
saved-short new c h = let R = rules c h in omega (arith, saved-length new c h, R.few-routes, R.few-trees, R.many, trees-new c.trees, uses-new c.labels)

-- A value that is too long is refused 19, whatever the room; then too little room 16; otherwise the save is written whole.
module _ (f : Form) (room : ℕ) (c : Card) where
  pub save-long : fits_save f c ≡ false → save f room c ≡ refuse 19 c
  unfolding save
  save-long h = rw h refl

  pub save-short : fits_save f c ≡ true → room < length (saved f c) → save f room c ≡ refuse 16 c
  unfolding save room_short
  save-short h k = rw (h, lt-ltb room (length (saved f c)) k) refl

  pub save-whole : fits_save f c ≡ true → length (saved f c) ≤ room → save f room c ≡ record { answer = 0; octets = saved f c; card = c }
  unfolding save room_short
  save-whole h k = rw (h, le-ltb room (length (saved f c)) k) refl

-- What a table that keeps the rules, and whose values fit, writes is taken, and nothing else is.
pub save-taken : (f : Form) (c : Card) → ruled f c ≡ true → fits_save f c ≡ true → is_save f (saved f c) ≡ true
unfolding is_save
save-taken f c h room = rw (read_back f c h room, carried-ruled f c h, carried-saved f c, same_refl (saved f c)) refl

pub taken-is-save : (f : Form) (o : List ℕ) → is_save f o ≡ true → (ruled f (table_in f o) ≡ true) × (saved f (table_in f o) ≡ o)
unfolding is_save
taken-is-save f o h = let p = both (ruled f (table_in f o)) (same (saved f (table_in f o)) o) h in (p.0, same-eq _ _ p.1)

-- What the head of a save says: a reader that first tests this refuses no save, and afterwards all that it counts is small.
pub record Head (o : List ℕ) : Type 0 where
  pub low : least_label ≤ four_at o 3
  pub high : four_at o 3 ≤ most_base
  pub routes : get_or o 11 0 ≤ route_limit
  pub trees : get_or o 12 0 ≤ tree_limit
  pub labels : two_at o 13 ≤ label_count

head-is : (f : Form) (c : Card) → Rules c → Head (saved f c)
head-is f c R = record {
  low = rw (head-base f c R) R.low;
  high = rw (head-base f c R) R.high;
  routes = rw (head-routes f c R) R.few-routes;
  trees = rw (head-trees f c R) R.few-trees;
  labels = rw (head-labels f c R) (omega (arith, used-free c.labels, R.many));
}

pub head-of-save : (f : Form) (o : List ℕ) → is_save f o ≡ true → Head o
head-of-save f o h = let p = taken-is-save f o h in subst Head p.1 (head-is f (table_in f o) (rules (table_in f o) (ruled-keeps f (table_in f o) p.0)))

-- And of the new form: its last label given is none, or one of the block.
pub last-of-save : (o : List ℕ) → is_save new o ≡ true → (four_at o last_place ≡ 0 → ⊥) → (four_at o 3 ≤ four_at o last_place) × (four_at o last_place < four_at o 3 + label_count)
unfolding table_in last_in ruled
last-of-save o h some = last_block (table_in new o) (both (keeps_rules (table_in new o)) (last_right (table_in new o)) (taken-is-save new o h).0).1 some

-- A table has one form.
pub one_form : (f : Form) (o s : List ℕ) → is_save f o ≡ true → is_save f s ≡ true → table_in f o ≡ table_in f s → o ≡ s
one_form f o s h k e = sym (taken-is-save f o h).1 ∙ ap (saved f) e ∙ (taken-is-save f s k).1

-- And a form has one table: in the old form but for the last label given.
pub one_table : (f : Form) (c d : Card) → ruled f c ≡ true → fits_save f c ≡ true → ruled f d ≡ true → fits_save f d ≡ true → saved f c ≡ saved f d → carried_by f c ≡ carried_by f d
one_table f c d h r k s e = sym (read_back f c h r) ∙ ap (table_in f) e ∙ read_back f d k s

-- Over a card swap the table is the same, in the old form but for the last label given, whatever stood.
pub restored : (f : Form) (c : Card) → ruled f c ≡ true → fits_save f c ≡ true → (d : Card) → restore f (saved f c) d ≡ record { answer = 0; octets = []; card = carried_by f c }
unfolding restore
restored f c h room d = rw (save-taken f c h room, read_back f c h room) refl

pub restore-taken : (f : Form) (o : List ℕ) (d : Card) → is_save f o ≡ true → restore f o d ≡ record { answer = 0; octets = []; card = table_in f o }
unfolding restore
restore-taken f o d h = rw h refl

-- In the new form: the same table, the last label given included, for every table that keeps the rules and has its last label right; and then a form has one table.
pub read-back-new : (c : Card) → keeps_rules c ≡ true → last_right c ≡ true → table_in new (saved new c) ≡ c
unfolding carried_by
read-back-new c h k = read_back new c (unfold ruled in rw (h, k) refl) (fits-any c)

pub one-table-new : (c d : Card) → keeps_rules c ≡ true → last_right c ≡ true → keeps_rules d ≡ true → last_right d ≡ true → saved new c ≡ saved new d → c ≡ d
one-table-new c d h r k s e = sym (read-back-new c h r) ∙ ap (table_in new) e ∙ read-back-new d k s

-- Other octets are refused by 19, and the standing table stays.
pub not-restored : (f : Form) (o : List ℕ) (d : Card) → is_save f o ≡ false → restore f o d ≡ refuse 19 d
unfolding restore
not-restored f o d h = rw h refl

-- 19 is given to octets that no table keeping the rules, with values that fit, writes, and to no others.
pub refused-exactly : (f : Form) (o : List ℕ) → is_save f o ≡ false ↔ ((c : Card) → ruled f c ≡ true → fits_save f c ≡ true → saved f c ≡ o → ⊥)
refused-exactly f o = (
  (λ h c k r e. let z : true ≡ false = sym (save-taken f c k r) ∙ ap (is_save f) e ∙ h in let z' : ◌≡◌ {A = ℕ} 0 1 = cc in omega arith),
  (λ none. by-test (is_save f o) (λ k. let p = taken-is-save f o k in absurd (none (table_in f o) p.0 (read_fits f o) p.1)) (λ k. k)),
)
