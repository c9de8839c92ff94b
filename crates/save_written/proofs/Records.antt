-- What the code tests of a record, and that it is the same as to write the record anew from what is read and to compare. And a record that is written passes.
-- Assumes nothing.
use Prim.Native.Nat.{ℕ, zero, suc, ◌+◌, ◌*◌, ◌%◌, ◌≤◌, ◌<◌}
use native.Mathlib.Omega.{arith}
use mathlib.Core.Path.{◌≡◌, refl, sym, ap, ap₂, ◌∙◌}
use mathlib.Core.Bool.{Bool, true, false, not, ◌&&◌}
use mathlib.Core.List.{List, ◌∷◌, ◌++◌, append_assoc}
use lib.ListN.{take, drop, get_or, length, length-append, length-drop}
use lib.Seq.{take_at, drop-drop, drop-cons, get_or_at, get_or-drop}
use lib.Dec.{eqb, leb, ltb}
use borrow.Author.Tests.{eqb-true, eqb-false, leb-true, le-leb, ltb-true, lt-ltb}
use Rattle.meaning.specs.Octets.{pick, same, four, four_at, all}
use Rattle.meaning.specs.Lists.{by-test, same_refl}
use Rattle.meaning.specs.Wire.{element_refusal, root_limit}
use Rattle.meaning.specs.Card.{Route, Tree, Use, mapped, awaiting, with_label, label_count, neighbour_count}
use Rattle.meaning_laws.specs.Counts.{plain}
use Rattle.meaning_laws.specs.RoundTrip.{both}
use Rattle.meaning_laws.specs.NoticeLaws.{Octets, four-spelt}
use Rattle.meaning_laws.specs.SaveFields.{name-length, name-extent, spaced-short, route-length, route-back, tree-length, tree-back, tree-after, use_record, use-length, use-label, use-after, use-back}
use Rattle.meaning_save.specs.Save.{Form, route_kind, tree_kind, use_kind, route_size, tree_beside, use_beside, is_short, is_branch_label, marked, name_saved, spaced, spaced_in, name_in, extent, route_saved, route_read, fours_of, fours_in, tree_saved, tree_read, tree_end, use_saved, use_read, use_end}
use Rattle.octets.specs.Part.{tab}
use Rattle.save_written.specs.Written.{marked_as, space_written, name_written, is_state, label_written, route_written, tree_written, use_written}
use Rattle.save_written.proofs.Fields.{alike, front-spelt, same-front, front_same, marked-spelt, marked-front, spaced-written, name-again, name-written}

-- what stands behind octets are octets
pub octets-behind : (n : ℕ) (o : List ℕ) → Octets o → Octets (drop n o)
octets-behind n o small i = rw (get_or-drop n o i 0) (small (n + i))

-- a test that cannot come out true
never_true : (b : Bool) → (b ≡ true → ⊥) → b ≡ false
never_true b none = by-test b (λ e. absurd (none e)) (λ e. e)

-- what is written has no more octets than there are
front_long : (x o : List ℕ) (m : ℕ) → x ++ drop m o ≡ o → length x ≤ length o
front_long x o m e = omega (arith, sym (length-append x (drop m o)) ∙ ap length e)

-- ---- a route

pub route-again : (o : List ℕ) → route_written o ≡ true → route_saved (route_read o) ++ drop route_size o ≡ o
unfolding route_written
route-again o h = same-front (route_saved (route_read o)) o route_size h

pub route-short : (o : List ℕ) → length o < route_size → route_written o ≡ false
route-short o short = never_true (route_written o) (λ e. omega (arith, route-length (route_read o), front_long (route_saved (route_read o)) o route_size (route-again o e)))

abbrev pub route_test : List ℕ → Bool
route_test o = marked_as route_kind o && space_written root_limit (drop 4 o)

route-fields : (r : Route) (rest : List ℕ) → length r.root ≤ root_limit → route_test (route_saved r ++ rest) ≡ true
unfolding route_saved marked
route-fields r rest fits = rw (marked-front route_kind (r.via % 256 ∷ (spaced root_limit r.root ++ rest)), spaced-written root_limit r.root rest fits) refl

root-room : (o : List ℕ) → length (route_read o).root ≤ root_limit
unfolding route_read
root-room o = spaced-short root_limit (drop 4 o)

module _ (o : List ℕ) (small : Octets o) (long : route_size ≤ length o) where
  fields-route : route_test o ≡ true → route_saved (route_read o) ++ drop route_size o ≡ o
  unfolding route_saved route_read marked space_written
  fields-route h =
      let q = both (marked_as route_kind o) _ h in
      let via : get_or o 3 0 % 256 ≡ get_or o 3 0 = omega (arith, small 3) in
      let root : spaced root_limit (spaced_in root_limit (drop 4 o)) ++ drop (suc root_limit) (drop 4 o) ≡ drop 4 o = same-front _ (drop 4 o) (suc root_limit) q.1 in
      rw (via, ← drop-drop (suc root_limit) 4 o)
      (ap (λ (l : List ℕ). 0x4C ∷ 0x53 ∷ route_kind ∷ get_or o 3 0 ∷ l) root
      ∙ ap (λ (l : List ℕ). 0x4C ∷ 0x53 ∷ route_kind ∷ l) (sym (drop-cons o 3 0 (omega arith)))
      ∙ sym (marked-spelt route_kind o q.0))

  pub route-tests : route_test o ≡ route_written o
  route-tests =
      alike (route_test o) (route_written o)
      (λ e. unfold route_written in front_same (route_saved (route_read o)) o route_size long (fields-route e))
      (λ e. ap route_test (sym (route-again o e)) ∙ route-fields (route_read o) (drop route_size o) (root-room o))

pub route-written : (r : Route) (rest : List ℕ) → length r.root ≤ root_limit → r.via < 256 → route_written (route_saved r ++ rest) ≡ true
unfolding route_written
route-written r rest fits low =
    let its_own : route_saved (plain r) ≡ route_saved r = unfold route_saved plain in refl in
    rw (route-back r fits low rest, its_own, take_at (route_saved r) rest route_size (route-length r)) (same_refl (route_saved r))

-- ---- a tree

fours-again : (n : ℕ) (o : List ℕ) → Octets o → 4 * n ≤ length o → fours_of (fours_in n o) ++ drop (4 * n) o ≡ o
unfolding fours_of fours_in tab
fours-again zero o small long = refl
fours-again (suc n) o small long =
    let rest : fours_of (fours_in n (drop 4 o)) ++ drop (4 * n) (drop 4 o) ≡ drop 4 o = fours-again n (drop 4 o) (octets-behind 4 o small) (simp length-drop (omega arith)) in
    let there : 4 * suc n ≡ 4 + 4 * n = omega arith in
    rw (four-spelt o small 0, there, ← drop-drop (4 * n) 4 o)
    (ap (λ (l : List ℕ). get_or o 0 0 ∷ get_or o 1 0 ∷ get_or o 2 0 ∷ get_or o 3 0 ∷ l) rest ∙ sym (front-spelt 4 o (omega arith)))

fours-count : (n : ℕ) (o : List ℕ) → length (fours_in n o) ≡ n
unfolding fours_in
fours-count zero o = refl
fours-count (suc n) o = ap suc (fours-count n (drop 4 o))

leaf-again : (x : ℕ) → x ≤ 1 → pick (not (eqb x 0)) 1 0 ≡ x
leaf-again x h = by-test (eqb x 0) (λ e. rw e (sym (eqb-true x 0 e))) (λ e. rw e (omega (arith, eqb-false x 0 e)))

leaf-small : (b : Bool) → leb (pick b 1 0) 1 ≡ true
leaf-small true = refl
leaf-small false = refl

-- the leaf mark stands behind the name, and is one of two; the branches may be any octets
abbrev pub tree_test : Form → List ℕ → Bool
tree_test f o = marked_as (tree_kind f) o && (leb (get_or o (3 + extent f (drop 3 o)) 0) 1 && name_written f (drop 3 o))

module _ (f : Form) (o : List ℕ) where
  abbrev name-takes : ℕ
  name-takes = extent f (drop 3 o)

  pub tree_again : tree_written f o ≡ true → tree_saved f (tree_read f o) ++ tree_end f o ≡ o
  unfolding tree_written tree_end
  tree_again h = same-front (tree_saved f (tree_read f o)) o (tree_beside + name-takes) h

  fields-tree : Octets o → tree_beside + name-takes ≤ length o → tree_test f o ≡ true → tree_saved f (tree_read f o) ++ drop (tree_beside + name-takes) o ≡ o
  unfolding tree_saved tree_read marked
  fields-tree small long h =
      let n : ℕ = name-takes in
      let q = both (marked_as (tree_kind f) o) _ h in
      let r = both (leb (get_or o (3 + n) 0) 1) _ q.1 in
      let name : List ℕ = name_saved f (name_in f (drop 3 o)) in
      let branches : List ℕ = fours_of (fours_in neighbour_count (drop (4 + n) o)) in
      let behind : List ℕ = drop (tree_beside + n) o in
      let leaf : pick (not (eqb (get_or o (3 + n) 0) 0)) 1 0 ≡ get_or o (3 + n) 0 = leaf-again _ (leb-true _ _ r.0) in
      let there : 4 + n + 4 * neighbour_count ≡ tree_beside + n = omega arith in
      let fours : branches ++ behind ≡ drop (4 + n) o = ap (λ (k : ℕ). branches ++ drop k o) (sym there) ∙ ap (λ (l : List ℕ). branches ++ l) (sym (drop-drop (4 * neighbour_count) (4 + n) o)) ∙ fours-again neighbour_count (drop (4 + n) o) (octets-behind (4 + n) o small) (simp length-drop (omega arith)) in
      let next : suc (3 + n) ≡ 4 + n = omega arith in
      let from-leaf : get_or o (3 + n) 0 ∷ drop (4 + n) o ≡ drop n (drop 3 o) = ap (λ (k : ℕ). get_or o (3 + n) 0 ∷ drop k o) (sym next) ∙ sym (drop-cons o (3 + n) 0 (omega arith)) ∙ sym (drop-drop n 3 o) in
      rw leaf
      (ap (λ (l : List ℕ). 0x4C ∷ 0x53 ∷ tree_kind f ∷ l)
      (append_assoc name _ behind
      ∙ ap (λ (l : List ℕ). name ++ (get_or o (3 + n) 0 ∷ l)) fours
      ∙ ap (λ (l : List ℕ). name ++ l) from-leaf
      ∙ name-again f (drop 3 o) r.1)
      ∙ sym (marked-spelt (tree_kind f) o q.0))

  -- what is written of what is read there begins the octets
  module _ (again : tree_saved f (tree_read f o) ++ tree_end f o ≡ o) where
    abbrev its-name : List ℕ
    its-name = name_saved f (name_in f (drop 3 o))

    abbrev behind-name : List ℕ
    behind-name = pick (tree_read f o).leaf 1 0 ∷ (fours_of (tree_read f o).branches ++ tree_end f o)

    spread : o ≡ 0x4C ∷ 0x53 ∷ tree_kind f ∷ (its-name ++ behind-name)
    spread = sym (sym (ap (λ (l : List ℕ). 0x4C ∷ 0x53 ∷ tree_kind f ∷ l) (append_assoc its-name _ (tree_end f o))) ∙ whole)
      where
        whole : 0x4C ∷ 0x53 ∷ tree_kind f ∷ ((its-name ++ (pick (tree_read f o).leaf 1 0 ∷ fours_of (tree_read f o).branches)) ++ tree_end f o) ≡ o
        whole = unfold tree_saved tree_read marked in again

    from-name : drop 3 o ≡ its-name ++ behind-name
    from-name = ap (drop 3) spread

    name-size : name-takes ≡ length its-name
    name-size = ap (extent f) from-name ∙ name-extent f (name_in f (drop 3 o)) behind-name

    tree-long : tree_beside + name-takes ≤ length o
    tree-long =
        let sixteen : length (tree_read f o).branches ≡ neighbour_count = unfold tree_read in fours-count neighbour_count (drop (4 + name-takes) o) in
        let its_own : (tree_read f o).name ≡ name_in f (drop 3 o) = unfold tree_read in refl in
        let size = name-length f (tree_read f o).name in
        let named : length (name_saved f (tree_read f o).name) ≡ length its-name = ap (λ (a : List ℕ). length (name_saved f a)) its_own in
        omega (arith, tree-length f (tree_read f o) sixteen, size, named, name-size, front_long (tree_saved f (tree_read f o)) o (tree_beside + name-takes) (unfold tree_end in again))

    tree-told : tree_written f o ≡ true
    tree-told = unfold tree_written in front_same (tree_saved f (tree_read f o)) o (tree_beside + name-takes) tree-long (unfold tree_end in again)

    tree_fields : tree_test f o ≡ true
    tree_fields =
        let mark : marked_as (tree_kind f) o ≡ true = ap (marked_as (tree_kind f)) spread ∙ unfold marked in marked-front (tree_kind f) (its-name ++ behind-name) in
        let its-leaf : get_or o (3 + name-takes) 0 ≡ pick (tree_read f o).leaf 1 0 =
        sym (get_or-drop 3 o name-takes 0) ∙ ap (λ (l : List ℕ). get_or l name-takes 0) from-name ∙ get_or_at its-name (pick (tree_read f o).leaf 1 0) (fours_of (tree_read f o).branches ++ tree_end f o) 0 name-takes (sym name-size) in
        rw (mark, its-leaf, leaf-small (tree_read f o).leaf, name-written f (drop 3 o) behind-name from-name) refl

  pub tree-short : length o < tree_beside + name-takes → tree_written f o ≡ false
  tree-short short = never_true (tree_written f o) (λ e. omega (arith, tree-long (tree_again e)))

  pub tree-tests : Octets o → tree_beside + name-takes ≤ length o → tree_test f o ≡ tree_written f o
  tree-tests small long =
      alike (tree_test f o) (tree_written f o)
      (λ e. tree-told (unfold tree_end in fields-tree small long e))
      (λ e. tree_fields (tree_again e))

module _ (f : Form) (t : Tree) (sixteen : length t.branches ≡ neighbour_count) (rest : List ℕ) where
  pub tree-written : element_refusal t.name ≡ 0 → is_short f t.name ≡ true → all is_branch_label t.branches ≡ true → tree_written f (tree_saved f t ++ rest) ≡ true
  tree-written ok room h =
      let o : List ℕ = tree_saved f t ++ rest in
      let its_own : tree_saved f (tree_read f o) ≡ tree_saved f t = ap (tree_saved f) (tree-back f t sixteen rest ok room h) ∙ unfold tree_saved with_label in refl in
      tree-told f o (ap₂ (λ (x y : List ℕ). x ++ y) its_own (tree-after f t sixteen rest))

-- ---- a label in use

abbrev pub use_test : Form → ℕ → ℕ → List ℕ → Bool
use_test f base least o = marked_as (use_kind f) o && (label_written base least o && name_written f (drop 9 o))

state-small : (b : Bool) → is_state (pick b 1 2) ≡ true
state-small true = refl
state-small false = refl

state-again : (s : ℕ) → is_state s ≡ true → pick (eqb s 1) 1 2 ≡ s
state-again s h = by-test (eqb s 1) (λ e. rw e (sym (eqb-true s 1 e))) (λ e. rw e (sym (eqb-true s 2 (rw e at h))))

module _ (f : Form) (o : List ℕ) where
  abbrev use-takes : ℕ
  use-takes = extent f (drop 9 o)

  abbrev use-name : List ℕ
  use-name = name_in f (drop 9 o)

  abbrev use-fields : List ℕ
  use-fields = use_record f (four_at o 3) (pick (eqb (get_or o 7 0) 1) 1 2) (get_or o 8 0 % neighbour_count) use-name

  use-saved : use_saved f (four_at o 3) (use_read f o) ≡ use-fields
  unfolding use_saved use_record use_read
  use-saved = by-test (eqb (get_or o 7 0) 1) (λ e. rw e refl) (λ e. rw e refl)

  fields-use : Octets o → use_beside + use-takes ≤ length o → marked_as (use_kind f) o ≡ true → is_state (get_or o 7 0) ≡ true → get_or o 8 0 < neighbour_count → name_written f (drop 9 o) ≡ true → use_saved f (four_at o 3) (use_read f o) ++ use_end f o ≡ o
  unfolding use_record use_end marked tab
  fields-use small long mark state near name =
      let its-neighbour : get_or o 8 0 % neighbour_count ≡ get_or o 8 0 = omega arith in
      let its-name : name_saved f use-name ++ drop (use_beside + use-takes) o ≡ drop 9 o = ap (λ (l : List ℕ). name_saved f use-name ++ l) (sym (drop-drop use-takes 9 o)) ∙ name-again f (drop 9 o) name in
      let fields : drop 3 o ≡ get_or o 3 0 ∷ get_or o 4 0 ∷ get_or o 5 0 ∷ get_or o 6 0 ∷ get_or o 7 0 ∷ get_or o 8 0 ∷ drop 9 o = ap (drop 3) (front-spelt 9 o (omega arith)) in
      rw (use-saved, state-again (get_or o 7 0) state, its-neighbour, four-spelt o small 3)
      (ap (λ (l : List ℕ). 0x4C ∷ 0x53 ∷ use_kind f ∷ get_or o 3 0 ∷ get_or o 4 0 ∷ get_or o 5 0 ∷ get_or o 6 0 ∷ get_or o 7 0 ∷ get_or o 8 0 ∷ l) its-name
      ∙ ap (λ (l : List ℕ). 0x4C ∷ 0x53 ∷ use_kind f ∷ l) (sym fields)
      ∙ sym (marked-spelt (use_kind f) o mark))

  -- what is written of what is read there begins the octets
  module _ (again : use_saved f (four_at o 3) (use_read f o) ++ use_end f o ≡ o) where
    begins : use-fields ++ use_end f o ≡ o
    begins = ap (λ (l : List ℕ). l ++ use_end f o) (sym use-saved) ∙ again

    from-use-name : drop 9 o ≡ name_saved f use-name ++ use_end f o
    from-use-name = ap (drop 9) (sym begins) ∙ unfold use_record marked four in refl

    use-long : use_beside + use-takes ≤ length o
    use-long =
        let size : use-takes ≡ length (name_saved f use-name) = ap (extent f) from-use-name ∙ name-extent f use-name (use_end f o) in
        omega (arith, size, name-length f use-name, use-length f (four_at o 3) (pick (eqb (get_or o 7 0) 1) 1 2) (get_or o 8 0 % neighbour_count) use-name, front_long use-fields o (use_beside + use-takes) (unfold use_end in begins))

    use-told : same (use_saved f (four_at o 3) (use_read f o)) (take (use_beside + use-takes) o) ≡ true
    use-told = front_same (use_saved f (four_at o 3) (use_read f o)) o (use_beside + use-takes) use-long (unfold use_end in again)

    its-mark : marked_as (use_kind f) o ≡ true
    its-mark = ap (marked_as (use_kind f)) (sym begins) ∙ unfold use_record in unfold marked in marked-front (use_kind f) _

    its-state : is_state (get_or o 7 0) ≡ true
    its-state = ap (λ (l : List ℕ). is_state (get_or l 7 0)) (sym begins) ∙ unfold use_record marked four in state-small (eqb (get_or o 7 0) 1)

    its-neighbour : get_or o 8 0 < neighbour_count
    its-neighbour =
        let read : get_or o 8 0 ≡ get_or o 8 0 % neighbour_count = ap (λ (l : List ℕ). get_or l 8 0) (sym begins) ∙ unfold use_record marked four in refl in
        omega (arith, read)

    its-use-name : name_written f (drop 9 o) ≡ true
    its-use-name = name-written f (drop 9 o) (use_end f o) from-use-name

module _ (f : Form) (base least : ℕ) (o : List ℕ) where
  -- what a record tells that is written
  pub record UseTold : Type 0 where
    pub low : least ≤ four_at o 3
    pub high : four_at o 3 < base + label_count
    pub again : use_saved f (four_at o 3) (use_read f o) ++ use_end f o ≡ o

  pub use-tells : use_written f base least o ≡ true → UseTold
  unfolding use_written
  use-tells h =
      let p = both (leb least (four_at o 3)) _ h in
      let q = both (ltb (four_at o 3) (base + label_count)) _ p.1 in
      record { low = leb-true _ _ p.0; high = ltb-true _ _ q.0; again = unfold use_end in same-front _ o (use_beside + use-takes f o) q.1 }

  tells-use : UseTold → use_written f base least o ≡ true
  unfolding use_written
  tells-use t = rw (le-leb least (four_at o 3) t.low, lt-ltb (four_at o 3) (base + label_count) t.high) (use-told f o t.again)

  pub use-short : length o < use_beside + use-takes f o → use_written f base least o ≡ false
  use-short short = never_true (use_written f base least o) (λ e. omega (arith, use-long f o (use-tells e).again))

  passed : UseTold → use_test f base least o ≡ true
  passed t = rw (its-mark f o t.again, le-leb least (four_at o 3) t.low, lt-ltb (four_at o 3) (base + label_count) t.high, its-state f o t.again, lt-ltb (get_or o 8 0) neighbour_count (its-neighbour f o t.again), its-use-name f o t.again) refl

  pub use-tests : Octets o → use_beside + use-takes f o ≤ length o → use_test f base least o ≡ use_written f base least o
  use-tests small long = alike (use_test f base least o) (use_written f base least o) (λ e. tells-use (told e)) (λ e. passed (use-tells e))
    where
      told : use_test f base least o ≡ true → UseTold
      told h =
          let p = both (marked_as (use_kind f) o) _ h in
          let q = both (label_written base least o) _ p.1 in
          let r = both (leb least (four_at o 3)) _ q.0 in
          let s = both (ltb (four_at o 3) (base + label_count)) _ r.1 in
          let t = both (is_state (get_or o 7 0)) _ s.1 in
          record { low = leb-true _ _ r.0; high = ltb-true _ _ s.0; again = fields-use f o small long p.0 t.0 (ltb-true _ _ t.1) q.1 }

-- (the state is 1 or 2)
pub use-written : (f : Form) (base least l : ℕ) (u : Use) (state n : ℕ) (a rest : List ℕ) → pick (eqb state 1) (mapped n a) (awaiting n a) ≡ u → use_saved f l u ≡ use_record f l state n a → element_refusal a ≡ 0 → is_short f a ≡ true → n < neighbour_count → least ≤ l → l < base + label_count → l < 4294967296
    → use_written f base least (use_record f l state n a ++ rest) ≡ true
use-written f base least l u state n a rest is-it its-record ok room near low high small =
    let o : List ℕ = use_record f l state n a ++ rest in
    let label : four_at o 3 ≡ l = use-label f l state n a rest small in
    let read : use_saved f (four_at o 3) (use_read f o) ≡ use_record f l state n a = ap₂ (use_saved f) label (use-back f l state n a rest ok room near ∙ is-it) ∙ its-record in
    tells-use f base least o (record { low = rw label low; high = rw label high; again = ap₂ (λ (x y : List ℕ). x ++ y) read (use-after f l state n a rest) })
