-- Octets that are laid out as a save is are the save of the table that is read from them, and a save is so laid out.
-- Assumes nothing.
use Prim.Native.Nat.{ℕ, zero, suc, ◌+◌, ◌*◌, ◌-◌, ◌≤◌, ◌<◌, suc-le-suc, zero-le}
use native.Mathlib.Nat.{le_of_suc-le-suc, not-suc-le-zero}
use native.Mathlib.Omega.{arith}
use mathlib.Core.Path.{◌≡◌, refl, sym, ap, ap₂, ◌∙◌, subst}
use mathlib.Core.Bool.{Bool, true, false}
use mathlib.Core.List.{List, [], ◌∷◌, ◌++◌, append_assoc}
use lib.ListN.{drop, get_or, length, set, replicate, length-append, length-set, length-replicate}
use lib.Seq.{drop-drop, drop_at, get_or-set_other}
use lib.Dec.{eqb, leb}
use borrow.Author.Tests.{eqb-true, leb-true, le-leb}
use Rattle.meaning.specs.Octets.{pick, count, all, four, two_at, four_at}
use Rattle.meaning.specs.Lists.{by-test, never, append-nil, count_less, get_d-all, same_refl}
use Rattle.meaning.specs.Card.{Route, Tree, Use, free, mapped, awaiting, Card, with_label, is_free, free_labels, label_count, neighbour_count}
use Rattle.meaning.specs.Wire.{element_refusal}
use Rattle.meaning.specs.Events.{worked_out}
use Rattle.meaning_laws.specs.RoundTrip.{both}
use Rattle.meaning_laws.specs.NoticeLaws.{Octets, two-spelt, four-spelt}
use Rattle.meaning_laws.specs.SaveFields.{all_cons, use_record, route-length, tree-after, use-after, use-label}
use Rattle.meaning_laws.specs.SaveLists.{route-ok, tree-ok, mapped-ok, awaiting-ok, routes-length, trees-after, in_use}
use Rattle.meaning_laws.specs.SaveRules.{Rules, rules}
use Rattle.meaning_laws.specs.SaveCounts.{read-ruled}
use Rattle.meaning_laws.specs.SaveLaws.{after-head, head-labels, read_fits, ruled-keeps, taken-is-save, head-length}
use Rattle.meaning_save.specs.Save.{Form, old, new, head_kind, head_size, route_size, last_place, marked, last_saved, head_saved, route_saved, tree_saved, use_saved, routes_saved, trees_saved, uses_saved, saved, route_read, tree_read, tree_end, use_read, use_end, routes_read, trees_read, trees_end, uses_read, labelled, all_labelled, last_in, all_worked_out, table_in, is_route, is_tree, is_use, is_short, is_short_tree, is_short_use, fits_save, rows_ruled, is_save}
use Rattle.octets.specs.Part.{tab}
use Rattle.save_written.specs.Written.{route_written, tree_written, use_written, head_written, routes_written, trees_written, uses_written, rows_written, written}
use Rattle.save_written.proofs.Fields.{front-spelt, marked-spelt, marked-front}
use Rattle.save_written.proofs.Records.{route-again, route-written, tree_again, tree-written, use-tells, use-written}

-- one behind the other
next_of : (a b : Bool) → pick a b false ≡ true → (a ≡ true) × (b ≡ true)
next_of true b e = (refl, e)
next_of false b e = absurd (never e)

-- ---- routes: the counts are not written

route-worked : (ts : List Tree) (r : Route) → route_saved (worked_out ts r) ≡ route_saved r
unfolding route_saved worked_out
route-worked ts r = refl

routes-again : (ts : List Tree) (n : ℕ) (o : List ℕ) → routes_written n o ≡ true → routes_saved (all_worked_out ts (routes_read n o)) ++ drop (n * route_size) o ≡ o
unfolding routes_written routes_saved all_worked_out routes_read
routes-again ts zero o h = refl
routes-again ts (suc n) o h =
    let p = next_of (route_written o) _ h in
    let there : suc n * route_size ≡ route_size + n * route_size = omega arith in
    let rest : List ℕ = routes_saved (all_worked_out ts (routes_read n (drop route_size o))) in
    let later : rest ++ drop (n * route_size) (drop route_size o) ≡ drop route_size o = routes-again ts n (drop route_size o) p.1 in
    rw (route-worked ts (route_read o), there, ← drop-drop (n * route_size) route_size o)
    (append_assoc (route_saved (route_read o)) rest (drop (n * route_size) (drop route_size o)) ∙ ap (λ (l : List ℕ). route_saved (route_read o) ++ l) later ∙ route-again o p.0)

routes-count : (ts : List Tree) (n : ℕ) (o : List ℕ) → length (all_worked_out ts (routes_read n o)) ≡ n
unfolding all_worked_out routes_read
routes-count ts zero o = refl
routes-count ts (suc n) o = ap suc (routes-count ts n (drop route_size o))

routes-written : (rs : List Route) (rest : List ℕ) → all is_route rs ≡ true → routes_written (length rs) (routes_saved rs ++ rest) ≡ true
unfolding routes_written routes_saved
routes-written [] rest h = refl
routes-written (r ∷ rs) rest h =
    let p = all_cons is_route r rs h in
    let ok = route-ok r p.0 in
    rw append_assoc (rw (route-written r (routes_saved rs ++ rest) ok.0 (omega (arith, ok.1)), drop_at (route_saved r) (routes_saved rs ++ rest) route_size (route-length r)) (routes-written rs rest p.1))

-- ---- trees: their own labels are not written

tree-labelled : (f : Form) (base : ℕ) (us : List Use) (t : Tree) → tree_saved f (labelled base us t) ≡ tree_saved f t
unfolding tree_saved labelled with_label
tree-labelled f base us t = refl

trees-again : (f : Form) (base : ℕ) (us : List Use) (n : ℕ) (o : List ℕ) → trees_written f n o ≡ true → trees_saved f (all_labelled base us (trees_read f n o)) ++ trees_end f n o ≡ o
unfolding trees_written trees_saved all_labelled trees_read trees_end
trees-again f base us zero o h = refl
trees-again f base us (suc n) o h =
    let p = next_of (tree_written f o) _ h in
    let rest : List ℕ = trees_saved f (all_labelled base us (trees_read f n (tree_end f o))) in
    let later : rest ++ trees_end f n (tree_end f o) ≡ tree_end f o = trees-again f base us n (tree_end f o) p.1 in
    rw (tree-labelled f base us (tree_read f o))
    (append_assoc (tree_saved f (tree_read f o)) rest (trees_end f n (tree_end f o)) ∙ ap (λ (l : List ℕ). tree_saved f (tree_read f o) ++ l) later ∙ tree_again f o p.0)

trees-count : (f : Form) (base : ℕ) (us : List Use) (n : ℕ) (o : List ℕ) → length (all_labelled base us (trees_read f n o)) ≡ n
unfolding all_labelled trees_read
trees-count f base us zero o = refl
trees-count f base us (suc n) o = ap suc (trees-count f base us n (tree_end f o))

trees-written : (f : Form) (ts : List Tree) (rest : List ℕ) → all is_tree ts ≡ true → all (is_short_tree f) ts ≡ true → trees_written f (length ts) (trees_saved f ts ++ rest) ≡ true
unfolding trees_written trees_saved is_short_tree
trees-written f [] rest h room = refl
trees-written f (t ∷ ts) rest h room =
    let p = all_cons is_tree t ts h in
    let q = all_cons (is_short_tree f) t ts room in
    let ok = tree-ok t p.0 in
    rw append_assoc (rw (tree-written f t ok.sixteen (trees_saved f ts ++ rest) ok.name q.0 ok.labels, tree-after f t ok.sixteen (trees_saved f ts ++ rest)) (trees-written f ts rest p.1 q.1))

-- ---- labels in use: each takes a place that was free, behind all that are taken

-- all places from p on
abbrev FreeFrom : ℕ → List Use → Type 0
FreeFrom p us = (q : ℕ) → p ≤ q → get_or us q free ≡ free

none-saved : (f : Form) (l : ℕ) (us : List Use) → FreeFrom 0 us → uses_saved f l us ≡ []
unfolding uses_saved use_saved
none-saved f l [] h = refl
none-saved f l (u ∷ us) h = rw (h 0 zero-le, none-saved f (suc l) us (λ q k. h (suc q) zero-le)) refl

saved-behind : (f : Form) (l : ℕ) (us : List Use) (q : ℕ) (u : Use) → q < length us → FreeFrom q us → uses_saved f l (set us q u) ≡ uses_saved f l us ++ use_saved f (l + q) u
unfolding uses_saved
saved-behind f l [] q u h none = absurd (not-suc-le-zero h)
saved-behind f l (x ∷ us) zero u h none =
    let here : l + 0 ≡ l = omega arith in
    rw (none-saved f (suc l) us (λ q k. none (suc q) zero-le), none 0 zero-le, here) (unfold use_saved in append-nil (use_saved f l u))
saved-behind f l (x ∷ us) (suc q) u h none =
    let there : suc l + q ≡ l + suc q = omega arith in
    ap (λ (o : List ℕ). use_saved f l x ++ o) (saved-behind f (suc l) us q u (le_of_suc-le-suc h) (λ r k. none (suc r) (suc-le-suc k)) ∙ ap (λ (k : ℕ). uses_saved f (suc l) us ++ use_saved f k u) there)
    ∙ sym (append_assoc (use_saved f l x) (uses_saved f (suc l) us) (use_saved f (l + suc q) u))

used-read : (f : Form) (o : List ℕ) → is_free (use_read f o) ≡ false
unfolding use_read is_free
used-read f o = by-test (eqb (get_or o 7 0) 1) (λ e. rw e refl) (λ e. rw e refl)

-- the place of a record's label, what is stored there, and what is left free
module _ (f : Form) (base p : ℕ) (o : List ℕ) (us : List Use) (many : length us ≡ label_count) (none : FreeFrom p us) (h : use_written f base (base + p) o ≡ true) where
  abbrev place_of : ℕ
  place_of = four_at o 3 - base

  low-enough : base + p ≤ four_at o 3
  low-enough = (use-tells f base (base + p) o h).low

  within : place_of < length us
  within = omega (arith, low-enough, (use-tells f base (base + p) o h).high)

  stored-saved : uses_saved f base (set us place_of (use_read f o)) ≡ uses_saved f base us ++ use_saved f (four_at o 3) (use_read f o)
  stored-saved =
      let there : base + place_of ≡ four_at o 3 = omega (arith, low-enough) in
      saved-behind f base us place_of (use_read f o) within (λ q k. none q (omega (arith, low-enough))) ∙ ap (λ (l : ℕ). uses_saved f base us ++ use_saved f l (use_read f o)) there

  stored-free : FreeFrom (suc place_of) (set us place_of (use_read f o))
  stored-free q k = get_or-set_other us place_of q (use_read f o) free (λ e. omega arith) ∙ none q (omega (arith, low-enough))

  stored-count : suc (count is_free (set us place_of (use_read f o))) ≡ count is_free us
  stored-count = count_less is_free us place_of (use_read f o) free (ap is_free (none place_of (omega (arith, low-enough))) ∙ unfold is_free in refl) (used-read f o) within

  next-label : base + suc place_of ≡ suc (four_at o 3)
  next-label = omega (arith, low-enough)

uses-again : (f : Form) (base p n : ℕ) (o : List ℕ) (us : List Use) → length us ≡ label_count → FreeFrom p us → uses_written f base (base + p) n o ≡ true
    → (uses_saved f base (uses_read f base n o us) ≡ uses_saved f base us ++ o) × (count is_free (uses_read f base n o us) + n ≡ count is_free us)
unfolding uses_written uses_read
uses-again f base p zero o us many none h =
    (sym (append-nil (uses_saved f base us)) ∙ ap (λ (l : List ℕ). uses_saved f base us ++ l) (sym (empty o (eqb-true _ _ h))), omega arith)
  where
    empty : (o : List ℕ) → length o ≡ 0 → o ≡ []
    empty [] e = refl
    empty (x ∷ o) e = absurd (omega arith)
uses-again f base p (suc n) o us many none h =
    let k = next_of (use_written f base (base + p) o) _ h in
    let us' : List Use = set us (four_at o 3 - base) (use_read f o) in
    let least : base + suc (four_at o 3 - base) ≡ suc (four_at o 3) = next-label f base p o us many none k.0 in
    let later = uses-again f base (suc (four_at o 3 - base)) n (use_end f o) us' (length-set us _ _ ∙ many) (stored-free f base p o us many none k.0) (ap (λ (l : ℕ). uses_written f base l n (use_end f o)) least ∙ k.1) in (
      later.0
          ∙ ap (λ (l : List ℕ). l ++ use_end f o) (stored-saved f base p o us many none k.0)
          ∙ append_assoc (uses_saved f base us) (use_saved f (four_at o 3) (use_read f o)) (use_end f o)
          ∙ ap (λ (l : List ℕ). uses_saved f base us ++ l) (use-tells f base (base + p) o k.0).again,
      omega (arith, later.1, stored-count f base p o us many none k.0),
    )

-- one record, and those behind it (the state is 1 or 2)
used-written : (f : Form) (base least l : ℕ) (u : Use) (state n k : ℕ) (a rest : List ℕ) → pick (eqb state 1) (mapped n a) (awaiting n a) ≡ u → use_saved f l u ≡ use_record f l state n a → element_refusal a ≡ 0 → is_short f a ≡ true → n < neighbour_count → least ≤ l → l < base + label_count → l < 4294967296
    → uses_written f base (suc l) k rest ≡ true → uses_written f base least (suc k) (use_saved f l u ++ rest) ≡ true
unfolding uses_written
used-written f base least l u state n k a rest is-it its-record ok room near low high small later =
    rw its-record (rw (use-written f base least l u state n a rest is-it its-record ok room near low high small, use-label f l state n a rest small, use-after f l state n a rest) later)

-- (the labels from l on)
uses-written : (f : Form) (base least l : ℕ) (us : List Use) → all is_use us ≡ true → all (is_short_use f) us ≡ true → least ≤ l → l + length us ≤ base + label_count → base + label_count ≤ 4294967296 → uses_written f base least (count in_use us) (uses_saved f l us) ≡ true
unfolding uses_saved use_saved use_record count in_use is_free is_short_use
uses-written f base least l [] h room low high small = unfold uses_written in refl
uses-written f base least l (free ∷ us) h room low high small = uses-written f base least (suc l) us (all_cons is_use free us h).1 (all_cons (is_short_use f) free us room).1 (omega arith) (omega arith) small
uses-written f base least l (mapped n a ∷ us) h room low high small =
    let p = all_cons is_use (mapped n a) us h in
    let q = all_cons (is_short_use f) (mapped n a) us room in
    let ok = mapped-ok n a p.0 in
    used-written f base least l (mapped n a) 1 n (count in_use us) a (uses_saved f (suc l) us) refl refl ok.1 q.0 ok.0 low (omega arith) (omega arith) (uses-written f base (suc l) (suc l) us p.1 q.1 (omega arith) (omega arith) small)
uses-written f base least l (awaiting n a ∷ us) h room low high small =
    let p = all_cons is_use (awaiting n a) us h in
    let q = all_cons (is_short_use f) (awaiting n a) us room in
    let ok = awaiting-ok n a p.0 in
    used-written f base least l (awaiting n a) 2 n (count in_use us) a (uses_saved f (suc l) us) refl refl ok.1 q.0 ok.0 low (omega arith) (omega arith) (uses-written f base (suc l) (suc l) us p.1 q.1 (omega arith) (omega arith) small)

-- ---- the head

module _ (f : Form) (o : List ℕ) (small : Octets o) (c : Card) (h : head_written f o ≡ true)
    (base : c.base ≡ four_at o 3) (next : c.next ≡ four_at o 7) (routes : length c.routes ≡ get_or o 11 0) (trees : length c.trees ≡ get_or o 12 0) (labels : label_count - free_labels c ≡ two_at o 13) where
  abbrev fields : List ℕ
  fields = get_or o 3 0 ∷ get_or o 4 0 ∷ get_or o 5 0 ∷ get_or o 6 0 ∷ get_or o 7 0 ∷ get_or o 8 0 ∷ get_or o 9 0 ∷ get_or o 10 0 ∷ get_or o 11 0 ∷ get_or o 12 0 ∷ get_or o 13 0 ∷ get_or o 14 0 ∷ []

  head-fields : head_saved f c ≡ marked (head_kind f) (fields ++ last_saved f c)
  unfolding head_saved
  head-fields = rw (labels, routes, trees, base, next, four-spelt o small 3, four-spelt o small 7, two-spelt o small 13) refl

head-again : (f : Form) (o : List ℕ) → Octets o → (c : Card) → head_written f o ≡ true → c.base ≡ four_at o 3 → c.next ≡ four_at o 7 → length c.routes ≡ get_or o 11 0 → length c.trees ≡ get_or o 12 0 → label_count - free_labels c ≡ two_at o 13 → c.last ≡ last_in f o c.base c.labels
    → head_saved f c ++ drop (head_size f) o ≡ o
unfolding head_written marked last_saved last_in tab
head-again old o small c h base next routes trees labels last =
    let p = both (leb last_place (length o)) _ h in
    let long : last_place ≤ length o = leb-true _ _ p.0 in
    ap (λ (l : List ℕ). l ++ drop last_place o) (head-fields old o small c h base next routes trees labels)
    ∙ ap (λ (l : List ℕ). 0x4C ∷ 0x53 ∷ 1 ∷ l) (sym (ap (drop 3) (front-spelt last_place o long)))
    ∙ sym (marked-spelt 1 o p.1)
head-again new o small c h base next routes trees labels last =
    let p = both (leb (last_place + 4) (length o)) _ h in
    let long : last_place + 4 ≤ length o = leb-true _ _ p.0 in
    let last-spelt : four c.last ≡ get_or o 15 0 ∷ get_or o 16 0 ∷ get_or o 17 0 ∷ get_or o 18 0 ∷ [] = ap four last ∙ four-spelt o small last_place in
    ap (λ (l : List ℕ). l ++ drop (last_place + 4) o) (head-fields new o small c h base next routes trees labels ∙ ap (λ (l : List ℕ). marked 5 (fields new o small c h base next routes trees labels ++ l)) last-spelt)
    ∙ ap (λ (l : List ℕ). 0x4C ∷ 0x53 ∷ 5 ∷ l) (sym (ap (drop 3) (front-spelt (last_place + 4) o long)))
    ∙ sym (marked-spelt 5 o p.1)

head-written : (f : Form) (c : Card) (rest : List ℕ) → head_written f (head_saved f c ++ rest) ≡ true
unfolding head_written
head-written f c rest =
    let long : head_size f ≤ length (head_saved f c ++ rest) = simp length-append (omega (arith, head-length f c)) in
    rw (le-leb (head_size f) (length (head_saved f c ++ rest)) long) (unfold head_saved marked in marked-front (head_kind f) _)

-- ---- the whole

all-free : (n : ℕ) → count is_free (replicate n free) ≡ n
unfolding count is_free
all-free zero = refl
all-free (suc n) = ap suc (all-free n)

module _ (f : Form) (o : List ℕ) where
  abbrev after-routes : List ℕ
  after-routes = drop (head_size f + get_or o 11 0 * route_size) o

  abbrev after-trees : List ℕ
  after-trees = trees_end f (get_or o 12 0) after-routes

  table-routes : length (table_in f o).routes ≡ get_or o 11 0
  unfolding table_in
  table-routes = routes-count _ (get_or o 11 0) (drop (head_size f) o)

  table-trees : length (table_in f o).trees ≡ get_or o 12 0
  unfolding table_in
  table-trees = trees-count f _ _ (get_or o 12 0) after-routes

  module _ (small : Octets o) (h : written f o ≡ true) where
    record Parts : Type 0 where
      pub head : head_written f o ≡ true
      pub routes : routes_written (get_or o 11 0) (drop (head_size f) o) ≡ true
      pub trees : trees_written f (get_or o 12 0) after-routes ≡ true
      pub labels : uses_written f (four_at o 3) (four_at o 3) (two_at o 13) after-trees ≡ true

    parts : Parts
    unfolding written rows_written
    parts =
        let p = both (head_written f o) _ h in
        let q = both (routes_written (get_or o 11 0) (drop (head_size f) o)) _ p.1 in
        let r = both (trees_written f (get_or o 12 0) after-routes) _ q.1 in
        record { head = p.0; routes = q.0; trees = r.0; labels = r.1 }

    labels-again : (uses_saved f (four_at o 3) (table_in f o).labels ≡ after-trees) × (label_count - free_labels (table_in f o) ≡ two_at o 13)
    unfolding table_in free_labels
    labels-again =
        let base : ℕ = four_at o 3 in
        let here : base + 0 ≡ base = omega arith in
        let none : FreeFrom 0 (replicate label_count free) = λ q _. get_d-all label_count q free in
        let again = uses-again f base 0 (two_at o 13) after-trees (replicate label_count free) (length-replicate label_count free) none (ap (λ (l : ℕ). uses_written f base l (two_at o 13) after-trees) here ∙ parts.labels) in
        (again.0 ∙ ap (λ (l : List ℕ). l ++ after-trees) (none-saved f base (replicate label_count free) none), omega (arith, again.1, all-free label_count))

    trees-part : trees_saved f (table_in f o).trees ++ after-trees ≡ after-routes
    unfolding table_in
    trees-part = trees-again f _ _ (get_or o 12 0) after-routes parts.trees

    routes-part : routes_saved (table_in f o).routes ++ after-routes ≡ drop (head_size f) o
    unfolding table_in
    routes-part =
        rw (← drop-drop (get_or o 11 0 * route_size) (head_size f) o) (routes-again _ (get_or o 11 0) (drop (head_size f) o) parts.routes)

    -- Octets that are laid out as a save is are what is written of the table in them.
    pub written-again : saved f (table_in f o) ≡ o
    unfolding saved
    written-again =
        let c : Card = table_in f o in
        let base : c.base ≡ four_at o 3 = unfold table_in in refl in
        let next : c.next ≡ four_at o 7 = unfold table_in in refl in
        let last : c.last ≡ last_in f o c.base c.labels = unfold table_in in refl in
        let labels : uses_saved f c.base c.labels ≡ after-trees = ap (λ (l : ℕ). uses_saved f l c.labels) base ∙ labels-again.0 in
        ap (λ (l : List ℕ). head_saved f c ++ (routes_saved c.routes ++ (trees_saved f c.trees ++ l))) labels
        ∙ ap (λ (l : List ℕ). head_saved f c ++ (routes_saved c.routes ++ l)) trees-part
        ∙ ap (λ (l : List ℕ). head_saved f c ++ l) routes-part
        ∙ head-again f o small c parts.head base next table-routes table-trees labels-again.1 last

  -- A save is so laid out.
  module _ (c : Card) (R : Rules c) (room : fits_save f c ≡ true) (e : saved f c ≡ o) (its-base : four_at o 3 ≡ c.base) (its-routes : get_or o 11 0 ≡ length c.routes) (its-trees : get_or o 12 0 ≡ length c.trees) where
    abbrev trees-on : List ℕ
    trees-on = trees_saved f c.trees ++ uses_saved f c.base c.labels

    its-head : head_written f o ≡ true
    unfolding saved
    its-head = subst (λ (s : List ℕ). head_written f s ≡ true) e (head-written f c (routes_saved c.routes ++ trees-on))

    its-labels : two_at o 13 ≡ count in_use c.labels
    its-labels = ap (λ (s : List ℕ). two_at s 13) (sym e) ∙ head-labels f c R

    routes-on : drop (head_size f) o ≡ routes_saved c.routes ++ trees-on
    routes-on = ap (drop (head_size f)) (sym e) ∙ after-head f c

    trees-begin : after-routes ≡ trees-on
    trees-begin =
        sym (drop-drop (get_or o 11 0 * route_size) (head_size f) o)
        ∙ ap (drop (get_or o 11 0 * route_size)) routes-on
        ∙ drop_at (routes_saved c.routes) trees-on (get_or o 11 0 * route_size) (routes-length c.routes ∙ ap (λ (n : ℕ). n * route_size) (sym its-routes))

    labels-begin : after-trees ≡ uses_saved f c.base c.labels
    labels-begin = ap₂ (λ (n : ℕ) (s : List ℕ). trees_end f n s) its-trees trees-begin ∙ trees-after f c.trees (uses_saved f c.base c.labels) R.trees

    fits : (all (is_short_tree f) c.trees ≡ true) × (all (is_short_use f) c.labels ≡ true)
    unfolding fits_save
    fits = both (all (is_short_tree f) c.trees) (all (is_short_use f) c.labels) room

    save-written : written f o ≡ true
    unfolding written rows_written
    save-written =
        let routes : routes_written (get_or o 11 0) (drop (head_size f) o) ≡ true = rw (its-routes, routes-on) (routes-written c.routes trees-on R.routes) in
        let trees : trees_written f (get_or o 12 0) after-routes ≡ true = ap₂ (λ (n : ℕ) (s : List ℕ). trees_written f n s) its-trees trees-begin ∙ trees-written f c.trees (uses_saved f c.base c.labels) R.trees fits.0 in
        let labels : uses_written f (four_at o 3) (four_at o 3) (two_at o 13) after-trees ≡ true = rw (labels-begin, its-labels, its-base) (uses-written f c.base c.base c.base c.labels R.uses fits.1 (omega arith) (omega (arith, R.many)) (omega (arith, R.high))) in
        rw (its-head, routes, trees, labels) refl

  pub written-save : is_save f o ≡ true → written f o ≡ true
  written-save h =
      let p = taken-is-save f o h in
      let base : four_at o 3 ≡ (table_in f o).base = unfold table_in in refl in
      save-written (table_in f o) (rules (table_in f o) (ruled-keeps f (table_in f o) p.0)) (read_fits f o) p.1 base (sym table-routes) (sym table-trees)

  -- Where the table that is read keeps the rules, the octets are a save exactly where they are so laid out.
  pub written-is-save : Octets o → rows_ruled f (table_in f o) ≡ true → written f o ≡ is_save f o
  unfolding is_save
  written-is-save small k =
      by-test (written f o)
      (λ e. e ∙ sym (rw (read-ruled f o, k, written-again small e) (same_refl o)))
      (λ e. by-test (is_save f o) (λ t. absurd (never (sym e ∙ written-save t))) (λ t. e ∙ sym (unfold is_save in t)))
