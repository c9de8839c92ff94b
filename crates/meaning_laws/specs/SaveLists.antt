-- The save's three lists of records: their lengths, and each read back from octets that begin with it.
-- Assumes nothing.
use Rattle.std.specs.Prelude.{ℕ, zero, suc, ◌+◌, ◌*◌, ◌-◌, ◌≤◌, ◌<◌, ◌≡◌, Bool, true, false, not, ◌&&◌, ◌||◌, List, [], ◌∷◌, ◌++◌, drop, get_or, set, replicate, eqb, leb, ltb}
use Rattle.std.proofs.Common.{suc-le-suc, zero-le, arith, ap, ap₂, ◌∙◌, append_assoc, length-append, drop_at, drop-drop, eqb-true, leb-true, ltb-true}
use Rattle.std.proofs.Math.Nat.{add-sub_cancel_left}
use Rattle.std.proofs.Math.Path.{refl}
use Rattle.std.proofs.Math.ListN.{length}
use Rattle.std.proofs.Math.Seq.{set-append_seam}
use Rattle.std.proofs.lemmas.Bool.{not-true, not-false}
use Rattle.meaning.specs.Octets.{pick, place, count, all, four_at}
use Rattle.meaning.specs.Lists.{by-test, picked}
use Rattle.meaning.specs.Wire.{element_refusal, root_limit, name_limit}
use Rattle.meaning.specs.Card.{Route, Tree, Use, free, mapped, awaiting, with_label, bare, is_free, is_empty, neighbour_count}
use Rattle.meaning.specs.Events.{not_root}
use Rattle.meaning_laws.specs.Counts.{plains}
use Rattle.meaning_laws.specs.RoundTrip.{both}
use Rattle.meaning_save.specs.Save.{Form, old, new, spaced_name, route_size, tree_beside, use_beside, is_short, is_short_tree, is_short_use, route_saved, tree_saved, use_saved, routes_saved, trees_saved, uses_saved, tree_read, tree_end, use_read, use_end, routes_read, trees_read, trees_end, uses_read, is_mapped_for, labelled, all_labelled, is_name, is_route, is_branch_label, is_tree, is_use}
use Rattle.meaning_laws.specs.SaveFields.{all_cons, name_size, name-most, name-room, route-length, route-back, tree-length, tree-after, tree-back, use_record, use-length, use-label, use-after, use-back}

-- ---- what the tests of one record tell

pub either {ℓ} : {X : Type ℓ} (a b : Bool) → (a || b) ≡ true → (a ≡ true → X) → (b ≡ true → X) → X
either true b e f g = f refl
either false b e f g = g e

pub name-ok : (a : List ℕ) → is_name a ≡ true → element_refusal a ≡ 0
unfolding is_name
name-ok a h = eqb-true _ _ h

pub route-ok : (r : Route) → is_route r ≡ true → (length r.root ≤ root_limit) × (r.via ≤ 16)
unfolding is_route not_root
route-ok r h =
    let n : ℕ = length r.root in
    let p = both (not (not (eqb n 4 || eqb n 16))) (leb r.via 16) h in (
      either (eqb n 4) (eqb n 16) (not-false _ (not-true _ p.0)) (λ e. omega (arith, eqb-true n 4 e)) (λ e. omega (arith, eqb-true n 16 e)),
      leb-true _ _ p.1,
    )

pub record TreeOk (t : Tree) : Type 0 where
  pub name : element_refusal t.name ≡ 0
  pub sixteen : length t.branches ≡ neighbour_count
  pub labels : all is_branch_label t.branches ≡ true
  pub full : is_empty t ≡ false

pub tree-ok : (t : Tree) → is_tree t ≡ true → TreeOk t
unfolding is_tree
tree-ok t h =
    let p = both (is_name t.name && eqb (length t.branches) neighbour_count && all is_branch_label t.branches) (not (is_empty t)) h in
    let q = both (is_name t.name && eqb (length t.branches) neighbour_count) (all is_branch_label t.branches) p.0 in
    let r = both (is_name t.name) (eqb (length t.branches) neighbour_count) q.0 in
    record { name = name-ok t.name r.0; sixteen = eqb-true _ _ r.1; labels = q.1; full = not-true _ p.1 }

pub mapped-ok : (n : ℕ) (a : List ℕ) → is_use (mapped n a) ≡ true → (n < neighbour_count) × (element_refusal a ≡ 0)
unfolding is_use
mapped-ok n a h = let p = both (ltb n neighbour_count) (is_name a) h in (ltb-true n neighbour_count p.0, name-ok a p.1)

pub awaiting-ok : (n : ℕ) (a : List ℕ) → is_use (awaiting n a) ≡ true → (n < neighbour_count) × (element_refusal a ≡ 0)
unfolding is_use
awaiting-ok n a h = let p = both (ltb n neighbour_count) (is_name a) h in (ltb-true n neighbour_count p.0, name-ok a p.1)

-- ---- routes

pub routes-length : (rs : List Route) → length (routes_saved rs) ≡ length rs * route_size
unfolding routes_saved
routes-length [] = refl
routes-length (r ∷ rs) = length-append (route_saved r) (routes_saved rs) ∙ omega (arith, route-length r, routes-length rs)

pub routes-back : (rs : List Route) (rest : List ℕ) → all is_route rs ≡ true → routes_read (length rs) (routes_saved rs ++ rest) ≡ plains rs
unfolding routes_saved routes_read plains
routes-back [] rest h = refl
routes-back (r ∷ rs) rest h =
    let p = all_cons is_route r rs h in
    let ok = route-ok r p.0 in
    rw append_assoc
    (ap₂ ◌∷◌ (route-back r ok.0 (omega (arith, ok.1)) (routes_saved rs ++ rest))
    (rw (drop_at (route_saved r) (routes_saved rs ++ rest) route_size (route-length r)) (routes-back rs rest p.1)))

-- ---- trees

-- how many octets their records take
unfoldable pub trees_size : Form → List Tree → ℕ
trees_size f [] = 0
trees_size f (t ∷ ts) = tree_beside + name_size f t.name + trees_size f ts

pub trees-length : (f : Form) (ts : List Tree) → ((i : ℕ) → i < length ts → length (get_or ts i (bare [])).branches ≡ neighbour_count) → length (trees_saved f ts) ≡ trees_size f ts
unfolding trees_saved trees_size
trees-length f [] h = refl
trees-length f (t ∷ ts) h = length-append (tree_saved f t) (trees_saved f ts) ∙ omega (arith, tree-length f t (h 0 (suc-le-suc zero-le)), trees-length f ts (λ i k. h (suc i) (suc-le-suc k)))

-- in the old form all have one size; in the new one a name takes at most 151
pub trees-old : (ts : List Tree) → trees_size old ts ≡ (tree_beside + spaced_name) * length ts
unfolding trees_size name_size
trees-old [] = refl
trees-old (t ∷ ts) = let n = trees-old ts in omega arith

pub trees-new : (ts : List Tree) → trees_size new ts ≤ (tree_beside + suc name_limit) * length ts
unfolding trees_size
trees-new [] = zero-le
trees-new (t ∷ ts) = let n = trees-new ts in let k = name-most t.name in omega arith

-- What is read finds room in the form, whatever the octets.
tree-fits : (f : Form) (base : ℕ) (us : List Use) (o : List ℕ) → is_short_tree f (labelled base us (tree_read f o)) ≡ true
unfolding is_short_tree labelled with_label tree_read
tree-fits f base us o = name-room f (drop 3 o)

pub trees-fit : (f : Form) (base : ℕ) (us : List Use) (n : ℕ) (o : List ℕ) → all (is_short_tree f) (all_labelled base us (trees_read f n o)) ≡ true
unfolding all trees_read all_labelled
trees-fit f base us zero o = refl
trees-fit f base us (suc n) o = rw (tree-fits f base us o) (trees-fit f base us n (tree_end f o))

-- without their labels
unfoldable pub unlabelled : List Tree → List Tree
unlabelled [] = []
unlabelled (t ∷ ts) = with_label 0 t ∷ unlabelled ts

pub trees-back : (f : Form) (ts : List Tree) (rest : List ℕ) → all is_tree ts ≡ true → all (is_short_tree f) ts ≡ true → trees_read f (length ts) (trees_saved f ts ++ rest) ≡ unlabelled ts
unfolding trees_saved trees_read unlabelled is_short_tree
trees-back f [] rest h room = refl
trees-back f (t ∷ ts) rest h room =
    let p = all_cons is_tree t ts h in
    let q = all_cons (is_short_tree f) t ts room in
    let ok = tree-ok t p.0 in
    rw append_assoc
    (ap₂ ◌∷◌ (tree-back f t ok.sixteen (trees_saved f ts ++ rest) ok.name q.0 ok.labels)
    (rw (tree-after f t ok.sixteen (trees_saved f ts ++ rest)) (trees-back f ts rest p.1 q.1)))

pub trees-after : (f : Form) (ts : List Tree) (rest : List ℕ) → all is_tree ts ≡ true → trees_end f (length ts) (trees_saved f ts ++ rest) ≡ rest
unfolding trees_saved trees_end
trees-after f [] rest h = refl
trees-after f (t ∷ ts) rest h =
    let p = all_cons is_tree t ts h in
    ap (trees_end f (length ts)) (ap (tree_end f) (append_assoc (tree_saved f t) (trees_saved f ts) rest) ∙ tree-after f t (tree-ok t p.0).sixteen (trees_saved f ts ++ rest)) ∙ trees-after f ts rest p.1

-- in the old form all records have one size
pub trees-after-old : (n : ℕ) (o : List ℕ) → trees_end old n o ≡ drop (n * (tree_beside + spaced_name)) o
unfolding trees_end tree_end
trees-after-old zero o = refl
trees-after-old (suc n) o = let at : tree_beside + spaced_name + n * (tree_beside + spaced_name) ≡ suc n * (tree_beside + spaced_name) = omega arith in trees-after-old n (drop (tree_beside + spaced_name) o) ∙ drop-drop (n * (tree_beside + spaced_name)) (tree_beside + spaced_name) o ∙ ap (λ (k : ℕ). drop k o) at

-- the label that the labels give to a tree
unfoldable pub label_for : ℕ → List Use → List ℕ → ℕ
label_for base us a = pick (ltb (place (is_mapped_for a) us) (length us)) (base + place (is_mapped_for a) us) 0

pub labels-back : (base : ℕ) (us : List Use) (ts : List Tree) → ((i : ℕ) → i < length ts → label_for base us (get_or ts i (bare [])).name ≡ (get_or ts i (bare [])).label) → all_labelled base us (unlabelled ts) ≡ ts
unfolding all_labelled unlabelled labelled label_for with_label
labels-back base us [] h = refl
labels-back base us (t ∷ ts) h =
    ap₂ ◌∷◌ (λ i. record { name = t.name; branches = t.branches; leaf = t.leaf; label = h 0 (suc-le-suc zero-le) i })
    (labels-back base us ts (λ i k. h (suc i) (suc-le-suc k)))

-- ---- labels in use

unfoldable pub in_use : Use → Bool
in_use u = not (is_free u)

pub used-free : (us : List Use) → count in_use us + count is_free us ≡ length us
unfolding count in_use
used-free [] = refl
used-free (u ∷ us) =
    let n = used-free us in
    by-test (is_free u) (λ e. rw e (omega arith)) (λ e. rw e (omega arith))

-- how many octets the records of the labels in use take
unfoldable pub use_size : Form → Use → ℕ
use_size f free = 0
use_size f (mapped n a) = use_beside + name_size f a
use_size f (awaiting n a) = use_beside + name_size f a

unfoldable pub uses_size : Form → List Use → ℕ
uses_size f [] = 0
uses_size f (u ∷ us) = use_size f u + uses_size f us

pub uses-length : (f : Form) (l : ℕ) (us : List Use) → length (uses_saved f l us) ≡ uses_size f us
unfolding uses_saved use_saved use_size uses_size use_record
uses-length f l [] = refl
uses-length f l (free ∷ us) = uses-length f (suc l) us ∙ omega arith
uses-length f l (mapped n a ∷ us) = length-append (use_record f l 1 n a) (uses_saved f (suc l) us) ∙ omega (arith, use-length f l 1 n a, uses-length f (suc l) us)
uses-length f l (awaiting n a ∷ us) = length-append (use_record f l 2 n a) (uses_saved f (suc l) us) ∙ omega (arith, use-length f l 2 n a, uses-length f (suc l) us)

pub uses-old : (us : List Use) → uses_size old us ≡ (use_beside + spaced_name) * count in_use us
unfolding use_size uses_size name_size count in_use is_free
uses-old [] = refl
uses-old (free ∷ us) = let k = uses-old us in omega arith
uses-old (mapped n a ∷ us) = let k = uses-old us in omega arith
uses-old (awaiting n a ∷ us) = let k = uses-old us in omega arith

pub uses-new : (us : List Use) → uses_size new us ≤ (use_beside + suc name_limit) * length us
unfolding use_size uses_size
uses-new [] = zero-le
uses-new (free ∷ us) = let k = uses-new us in omega arith
uses-new (mapped n a ∷ us) = let k = uses-new us in let m = name-most a in omega arith
uses-new (awaiting n a ∷ us) = let k = uses-new us in let m = name-most a in omega arith

set-fits : (f : Form) (us : List Use) (i : ℕ) (u : Use) → all (is_short_use f) us ≡ true → is_short_use f u ≡ true → all (is_short_use f) (set us i u) ≡ true
unfolding all
set-fits f [] i u h k = h
set-fits f (x ∷ us) zero u h k = rw k (all_cons (is_short_use f) x us h).1
set-fits f (x ∷ us) (suc i) u h k = rw (all_cons (is_short_use f) x us h).0 (set-fits f us i u (all_cons (is_short_use f) x us h).1 k)

pub uses-fit : (f : Form) (base n : ℕ) (o : List ℕ) (us : List Use) → all (is_short_use f) us ≡ true → all (is_short_use f) (uses_read f base n o us) ≡ true
unfolding uses_read
uses-fit f base zero o us h = h
uses-fit f base (suc n) o us h =
    uses-fit f base n (use_end f o) _ (set-fits f us (four_at o 3 - base) (use_read f o) h
    (unfold use_read in picked (λ (u : Use). is_short_use f u ≡ true) (eqb (get_or o 7 0) 1) (λ _. unfold is_short_use in name-room f (drop 9 o)) (λ _. unfold is_short_use in name-room f (drop 9 o))))

pub free-fit : (f : Form) (n : ℕ) → all (is_short_use f) (replicate n free) ≡ true
unfolding all is_short_use
free-fit f zero = refl
free-fit f (suc n) = free-fit f n

-- in the new form any value finds room
pub trees-any : (ts : List Tree) → all (is_short_tree new) ts ≡ true
unfolding all is_short_tree is_short
trees-any [] = refl
trees-any (t ∷ ts) = trees-any ts

pub uses-any : (us : List Use) → all (is_short_use new) us ≡ true
unfolding all is_short_use is_short
uses-any [] = refl
uses-any (free ∷ us) = uses-any us
uses-any (mapped n a ∷ us) = uses-any us
uses-any (awaiting n a ∷ us) = uses-any us

-- one more label is behind us
further : (f : Form) (base : ℕ) (before : List Use) (u : Use) (us : List Use)
    → uses_read f base (count in_use us) (uses_saved f (base + length (before ++ (u ∷ []))) us) ((before ++ (u ∷ [])) ++ replicate (length us) free) ≡ (before ++ (u ∷ [])) ++ us
    → uses_read f base (count in_use us) (uses_saved f (suc (base + length before)) us) (before ++ (u ∷ replicate (length us) free)) ≡ before ++ (u ∷ us)
further f base before u us h =
    let n : base + length (before ++ (u ∷ [])) ≡ suc (base + length before) = rw length-append (omega arith) in
    let e : (before ++ (u ∷ [])) ++ replicate (length us) free ≡ before ++ (u ∷ replicate (length us) free) = append_assoc before (u ∷ []) (replicate (length us) free) in
    let f : (before ++ (u ∷ [])) ++ us ≡ before ++ (u ∷ us) = append_assoc before (u ∷ []) us in
    rw (n, e, f) at h

-- the record of a label is read, and stored in its place
one-read : (f : Form) (base k state n : ℕ) (a rest : List ℕ) (before after : List Use) → element_refusal a ≡ 0 → is_short f a ≡ true → n < neighbour_count → base + length before < 4294967296
    → uses_read f base (suc k) (use_record f (base + length before) state n a ++ rest) (before ++ (free ∷ after)) ≡ uses_read f base k rest (before ++ (pick (eqb state 1) (mapped n a) (awaiting n a) ∷ after))
unfolding uses_read
one-read f base k state n a rest before after ok room near h =
    rw (use-after f (base + length before) state n a rest, use-label f (base + length before) state n a rest h, use-back f (base + length before) state n a rest ok room near, add-sub_cancel_left base (length before), set-append_seam before free after (pick (eqb state 1) (mapped n a) (awaiting n a))) refl

pub uses-back : (f : Form) (base : ℕ) (before us : List Use) → all is_use us ≡ true → all (is_short_use f) us ≡ true → base + length before + length us ≤ 4294967296
    → uses_read f base (count in_use us) (uses_saved f (base + length before) us) (before ++ replicate (length us) free) ≡ before ++ us
unfolding uses_saved use_saved count in_use is_free
uses-back f base before [] h room k = unfold uses_read in refl
uses-back f base before (free ∷ us) h room k =
    further f base before free us (uses-back f base (before ++ (free ∷ [])) us (all_cons is_use free us h).1 (all_cons (is_short_use f) free us room).1 (rw length-append (omega arith)))
uses-back f base before (mapped n a ∷ us) h room k =
    let p = all_cons is_use (mapped n a) us h in
    mapped-read ∙ further f base before (mapped n a) us (uses-back f base (before ++ (mapped n a ∷ [])) us p.1 (all_cons (is_short_use f) (mapped n a) us room).1 (rw length-append (omega arith)))
  where
    mapped-read : uses_read f base (suc (count in_use us)) (use_saved f (base + length before) (mapped n a) ++ uses_saved f (suc (base + length before)) us) (before ++ (free ∷ replicate (length us) free))
        ≡ uses_read f base (count in_use us) (uses_saved f (suc (base + length before)) us) (before ++ (mapped n a ∷ replicate (length us) free))
    mapped-read = unfold use_saved use_record in one-read f base (count in_use us) 1 n a (uses_saved f (suc (base + length before)) us) before (replicate (length us) free) (mapped-ok n a (all_cons is_use (mapped n a) us h).0).1 (unfold is_short_use in (all_cons (is_short_use f) (mapped n a) us room).0) (mapped-ok n a (all_cons is_use (mapped n a) us h).0).0 (omega arith)
uses-back f base before (awaiting n a ∷ us) h room k =
    let p = all_cons is_use (awaiting n a) us h in
    awaiting-read ∙ further f base before (awaiting n a) us (uses-back f base (before ++ (awaiting n a ∷ [])) us p.1 (all_cons (is_short_use f) (awaiting n a) us room).1 (rw length-append (omega arith)))
  where
    awaiting-read : uses_read f base (suc (count in_use us)) (use_saved f (base + length before) (awaiting n a) ++ uses_saved f (suc (base + length before)) us) (before ++ (free ∷ replicate (length us) free))
        ≡ uses_read f base (count in_use us) (uses_saved f (suc (base + length before)) us) (before ++ (awaiting n a ∷ replicate (length us) free))
    awaiting-read = unfold use_saved use_record in one-read f base (count in_use us) 2 n a (uses_saved f (suc (base + length before)) us) before (replicate (length us) free) (awaiting-ok n a (all_cons is_use (awaiting n a) us h).0).1 (unfold is_short_use in (all_cons (is_short_use f) (awaiting n a) us room).0) (awaiting-ok n a (all_cons is_use (awaiting n a) us h).0).0 (omega arith)
