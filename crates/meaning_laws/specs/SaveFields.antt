-- The save's records, one by one: their lengths, and each read back from octets that begin with it.
-- Assumes nothing.
use Prim.Native.Nat.{ℕ, suc, ◌+◌, ◌*◌, ◌-◌, ◌%◌, ◌≤◌, ◌<◌}
use Rattle.std.proofs.Common.{not-suc-le-zero, le_trans, ◌∙◌, length-take, take_all, take_at, get_or-drop, drop-drop, eqb-true, leb-true, le-leb}
use native.Mathlib.Omega.{arith}
use Rattle.std.specs.Prelude.{◌≡◌, Bool, ◌&&◌, take, replicate, eqb, leb}
use Rattle.std.proofs.Math.Path.{refl, sym, ap, ap₂, subst}
use Rattle.std.proofs.Math.Bool.{true, false, not}
use mathlib.Core.List.{List, [], ◌∷◌, ◌++◌, append_assoc}
use Rattle.std.proofs.Math.ListN.{drop, get_or, length, length-append, length-drop}
use Rattle.std.proofs.lemmas.List.{length-replicate}
use Rattle.std.proofs.Math.Seq.{take-take, drop_at, get_or_at, take-append_seam, drop-append_seam}
use Rattle.meaning.specs.Octets.{pick, two, four, four_at, two_at, all}
use Rattle.meaning.specs.Lists.{by-test, positive}
use Rattle.meaning.specs.Wire.{address_length, family_in, root_length, root_in, opaque_in, element_refusal, element, root_limit, name_limit, least_label, most_label}
use Rattle.meaning.specs.Card.{Route, Tree, mapped, awaiting, with_label, neighbour_count}
use Rattle.meaning_laws.specs.Counts.{plain}
use Rattle.meaning_laws.specs.WireLaws.{element-family}
use Rattle.meaning_laws.specs.RoundTrip.{both, Whole, whole, root-size, element-parts, name-fits}
use Rattle.meaning_laws.specs.NoticeLaws.{four-back}
use Rattle.meaning_save.specs.Save.{Form, old, new, tree_kind, use_kind, saved_opaque, spaced_name, route_size, tree_beside, use_beside, is_short, padded, spaced, name_saved, marked, route_saved, fours_of, tree_saved, spaced_in, name_in, extent, route_read, fours_in, tree_read, tree_end, use_read, use_end, is_branch_label}

pub all_cons {ℓ} : {A : Type ℓ} (t : A → Bool) (x : A) (xs : List A) → all t (x ∷ xs) ≡ true → (t x ≡ true) × (all t xs ≡ true)
unfolding all
all_cons t x xs h = by-test (t x) (λ e. (e, rw e at h)) (λ e. absurd (let z : false ≡ true = rw e at h in let z' : ◌≡◌ {A = ℕ} 0 1 = cc in omega arith))

-- ---- a space

pub padded-length : (n : ℕ) (o : List ℕ) → length o ≤ n → length (padded n o) ≡ n
unfolding padded
padded-length n o fits = length-append o (replicate (n - length o) 0) ∙ simp length-replicate (omega arith)

-- whatever the octets
pub spaced-length : (n : ℕ) (o : List ℕ) → length (spaced n o) ≡ suc n
unfolding spaced
spaced-length n o = ap suc (padded-length n (take n o) (simp length-take (omega arith)))

module _ (n : ℕ) (o : List ℕ) (fits : length o ≤ n) where
  -- nothing goes beyond the space
  spaced-is : spaced n o ≡ length o ∷ padded n o
  unfolding spaced
  spaced-is = rw (take_all n o fits) refl

  pub spaced-back : (rest : List ℕ) → spaced_in n (spaced n o ++ rest) ≡ o
  unfolding spaced_in
  spaced-back rest = rw spaced-is (ap (take (length o)) (take_at (padded n o) rest n (padded-length n o fits)) ∙ unfold padded in take-append_seam o (replicate (n - length o) 0))

-- ---- a name

-- how many octets it takes
unfoldable pub name_size : Form → List ℕ → ℕ
name_size old a = spaced_name
name_size new a = suc (length (take name_limit a))

pub name-length : (f : Form) (a : List ℕ) → length (name_saved f a) ≡ name_size f a
unfolding name_saved name_size
name-length old a = length-append (spaced root_limit (root_in a)) (spaced saved_opaque (opaque_in a)) ∙ rw (spaced-length root_limit (root_in a), spaced-length saved_opaque (opaque_in a)) refl
name-length new a = refl

pub name-most : (a : List ℕ) → name_size new a ≤ suc name_limit
unfolding name_size
name-most a = simp length-take (omega arith)

-- as a reader finds it
pub name-extent : (f : Form) (a rest : List ℕ) → extent f (name_saved f a ++ rest) ≡ length (name_saved f a)
unfolding name_size
name-extent old a rest = sym (name-length old a)
name-extent new a rest = unfold name_saved in refl

-- a known family by the length of its roots
family-back : (f : ℕ) → 0 < address_length f → pick (eqb (address_length f) 4) 1 2 ≡ f
unfolding address_length
family-back f h =
    by-test (eqb f 1)
    (λ e. rw e (sym (eqb-true f 1 e)))
    (λ e. by-test (eqb f 2)
    (λ k. rw (e, k) (sym (eqb-true f 2 k)))
    (λ k. absurd (not-suc-le-zero (rw (e, k) at h))))

module _ (a : List ℕ) (ok : element_refusal a ≡ 0) where
  pub root-long : length (root_in a) ≡ root_length a
  root-long = let w : Whole a = whole a ok in root-size a (omega (arith, w.fills))

  some-root : 0 < root_length a
  some-root = positive (root_length a) (λ z. let six = element-family a z in omega arith)

  pub root-fits : length (root_in a) ≤ root_limit
  root-fits = rw root-long (whole a ok).family.1

  old-back : is_short old a ≡ true → (rest : List ℕ) → name_in old (name_saved old a ++ rest) ≡ a
  unfolding name_in name_saved is_short
  old-back short rest =
      rw append_assoc
      (rw (spaced-back root_limit (root_in a) root-fits (spaced saved_opaque (opaque_in a) ++ rest), drop_at (spaced root_limit (root_in a)) (spaced saved_opaque (opaque_in a) ++ rest) (1 + root_limit) (spaced-length root_limit (root_in a)), spaced-back saved_opaque (opaque_in a) (leb-true _ _ short) rest)
      (ap (λ (f : ℕ). element f (root_in a) (opaque_in a)) (rw root-long (unfold root_length in family-back (family_in a) (unfold root_length in some-root))) ∙ sym (element-parts a ok)))

  new-back : (rest : List ℕ) → name_in new (name_saved new a ++ rest) ≡ a
  unfolding name_in name_saved spaced_in
  new-back rest =
      let small : length a ≤ name_limit = name-fits a ok in
      rw (take_all name_limit a small, take-take (length a) name_limit (a ++ rest) small) (take-append_seam a rest)

-- In either form a name that finds room in it is read back.
pub name_back : (f : Form) (a : List ℕ) → element_refusal a ≡ 0 → is_short f a ≡ true → (rest : List ℕ) → name_in f (name_saved f a ++ rest) ≡ a
name_back old a ok room rest = old-back a ok room rest
name_back new a ok room rest = new-back a ok rest

-- what is read from a space finds room in it
pub spaced-short : (n : ℕ) (o : List ℕ) → length (spaced_in n o) ≤ n
unfolding spaced_in
spaced-short n o = simp length-take (omega arith)

-- the value of an element whose root has at most 16 octets is no longer than it was given
module _ (r k : List ℕ) (small : length r ≤ root_limit) where
  long-one : length r ≡ 4 → length (opaque_in (element 1 r k)) ≤ length k
  unfolding opaque_in root_length family_in element two two_at address_length
  long-one h = omega (arith, length-drop 6 (r ++ (two (length k) ++ k)), length-append r (two (length k) ++ k))

  long-two : length (opaque_in (element 2 r k)) ≤ length k
  unfolding opaque_in root_length family_in element two two_at address_length
  long-two = omega (arith, length-drop 18 (r ++ (two (length k) ++ k)), length-append r (two (length k) ++ k))

  pub value-long : length (opaque_in (element (pick (eqb (length r) 4) 1 2) r k)) ≤ length k
  value-long = by-test (eqb (length r) 4) (λ e. rw e (long-one (eqb-true (length r) 4 e))) (λ e. rw e long-two)

-- The value of a name that is read finds room in the form, whatever the octets.
pub name-room : (f : Form) (o : List ℕ) → is_short f (name_in f o) ≡ true
unfolding is_short name_in
name-room old o = le-leb _ _ (le_trans (value-long (spaced_in root_limit o) (spaced_in saved_opaque (drop (1 + root_limit) o)) (spaced-short root_limit o)) (spaced-short saved_opaque (drop (1 + root_limit) o)))
name-room new o = refl

-- And a name that is read is no longer than the longest name, so that it has a place in the card's memory.
pub name-holds : (f : Form) (o : List ℕ) → length (name_in f o) ≤ name_limit
unfolding name_in element two
name-holds old o = let r = spaced-short root_limit o in let k = spaced-short saved_opaque (drop (1 + root_limit) o) in simp length-append (omega arith)
name-holds new o = spaced-short name_limit o

-- ---- a route: 21 octets

pub route-length : (r : Route) → length (route_saved r) ≡ route_size
unfolding route_saved marked
route-length r = omega (arith, spaced-length root_limit r.root)

-- (via is written modulo 256, so that a card which keeps no rule is written in octets too)
pub route-back : (r : Route) → length r.root ≤ root_limit → r.via < 256 → (rest : List ℕ) → route_read (route_saved r ++ rest) ≡ plain r
unfolding route_read route_saved marked plain
route-back r fits low rest = let same-via : r.via % 256 ≡ r.via = omega arith in λ i. record { root = spaced-back root_limit r.root fits rest i; via = same-via i; standing = 0; lone = 0 }

-- ---- branches: four octets each

pub branch_fits : (l : ℕ) → is_branch_label l ≡ true → l < 4294967296
unfolding is_branch_label
branch_fits l e =
    by-test (eqb l 0)
    (λ k. let z = eqb-true l 0 k in omega arith)
    (λ k. let e' : (leb least_label l && leb l most_label) ≡ true = rw k at e in omega (arith, leb-true l most_label (both (leb least_label l) (leb l most_label) e').1))

pub fours-length : (bs : List ℕ) → length (fours_of bs) ≡ 4 * length bs
unfolding fours_of four
fours-length [] = refl
fours-length (b ∷ bs) = let n = fours-length bs in omega arith

pub fours-back : (bs rest : List ℕ) → all is_branch_label bs ≡ true → fours_in (length bs) (fours_of bs ++ rest) ≡ bs
unfolding fours_of fours_in four four_at two_at
fours-back [] rest h = refl
fours-back (b ∷ bs) rest h = let p = all_cons is_branch_label b bs h in ap₂ ◌∷◌ (four-back b (branch_fits b p.0)) (fours-back bs rest p.1)

-- ---- a tree: 68 octets, and its name

-- as it is read, from its name on
tree_fields : (f : Form) (o : List ℕ) → tree_read f o ≡ record { name = name_in f (drop 3 o); branches = fours_in neighbour_count (drop (suc (extent f (drop 3 o))) (drop 3 o)); leaf = not (eqb (get_or (drop 3 o) (extent f (drop 3 o)) 0) 0); label = 0 }
unfolding tree_read
tree_fields f o =
    let n : ℕ = extent f (drop 3 o) in
    let at : 3 + suc n ≡ 4 + n = omega arith in
    let branches : drop (4 + n) o ≡ drop (suc n) (drop 3 o) = sym (drop-drop (suc n) 3 o ∙ ap (λ (k : ℕ). drop k o) at) in
    let leaf : get_or o (3 + n) 0 ≡ get_or (drop 3 o) n 0 = sym (get_or-drop 3 o n 0) in
    λ i. record { name = name_in f (drop 3 o); branches = fours_in neighbour_count (branches i); leaf = not (eqb (leaf i) 0); label = 0 }

module _ (f : Form) (t : Tree) (sixteen : length t.branches ≡ neighbour_count) where
  pub tree-length : length (tree_saved f t) ≡ tree_beside + name_size f t.name
  unfolding tree_saved marked
  tree-length = simp length-append (omega (arith, name-length f t.name, fours-length t.branches))

  module _ (rest : List ℕ) where
    abbrev behind-name : List ℕ
    behind-name = pick t.leaf 1 0 ∷ (fours_of t.branches ++ rest)

    spread : tree_saved f t ++ rest ≡ 0x4C ∷ 0x53 ∷ tree_kind f ∷ (name_saved f t.name ++ behind-name)
    unfolding tree_saved marked
    spread = ap (λ (o : List ℕ). 0x4C ∷ 0x53 ∷ tree_kind f ∷ o) (append_assoc (name_saved f t.name) _ rest)

    pub tree-after : tree_end f (tree_saved f t ++ rest) ≡ rest
    unfolding tree_end
    tree-after =
        let there : tree_beside + extent f (drop 3 (tree_saved f t ++ rest)) ≡ length (tree_saved f t) = ap (λ (o : List ℕ). tree_beside + extent f (drop 3 o)) spread ∙ omega (arith, name-extent f t.name behind-name, name-length f t.name, tree-length) in
        rw there (drop-append_seam (tree_saved f t) rest)

    -- all but its label
    pub tree-back : element_refusal t.name ≡ 0 → is_short f t.name ≡ true → all is_branch_label t.branches ≡ true → tree_read f (tree_saved f t ++ rest) ≡ with_label 0 t
    unfolding tree_read with_label
    tree-back ok room h =
        let name : List ℕ = name_saved f t.name in
        let n : ℕ = extent f (name ++ behind-name) in
        let long : length name ≡ n = sym (name-extent f t.name behind-name) in
        let its-leaf : get_or (name ++ behind-name) n 0 ≡ pick t.leaf 1 0 = get_or_at name (pick t.leaf 1 0) (fours_of t.branches ++ rest) 0 n long in
        let one_on : n + 1 ≡ suc n = omega arith in
        let after : drop (suc n) (name ++ behind-name) ≡ fours_of t.branches ++ rest = ap (λ (k : ℕ). drop k (name ++ behind-name)) (sym one_on) ∙ sym (drop-drop 1 n (name ++ behind-name)) ∙ ap (drop 1) (drop_at name behind-name n long) in
        let its-branches : fours_in neighbour_count (drop (suc n) (name ++ behind-name)) ≡ t.branches = ap (fours_in neighbour_count) after ∙ subst (λ (k : ℕ). fours_in k (fours_of t.branches ++ rest) ≡ t.branches) sixteen (fours-back t.branches rest h) in
        ap (tree_read f) spread ∙ tree_fields f (0x4C ∷ 0x53 ∷ tree_kind f ∷ (name ++ behind-name)) ∙ (λ i. record { name = name_back f t.name ok room behind-name i; branches = its-branches i; leaf = (ap (λ (k : ℕ). not (eqb k 0)) its-leaf ∙ leaf-back t.leaf) i; label = 0 })
      where
        leaf-back : (b : Bool) → not (eqb (pick b 1 0) 0) ≡ b
        leaf-back true = refl
        leaf-back false = refl

-- ---- a label in use: 9 octets, and the name

-- the record of a label in use
unfoldable pub use_record : Form → ℕ → ℕ → ℕ → List ℕ → List ℕ
use_record f l state n a = marked (use_kind f) (four l ++ (state ∷ n ∷ name_saved f a))

module _ (f : Form) (l state n : ℕ) (a : List ℕ) where
  pub use-length : length (use_record f l state n a) ≡ use_beside + name_size f a
  unfolding use_record marked four
  use-length = omega (arith, name-length f a)

  module _ (rest : List ℕ) where
    pub use-label : l < 4294967296 → four_at (use_record f l state n a ++ rest) 3 ≡ l
    unfolding use_record marked four four_at two_at
    use-label h = four-back l h

    use-there : use_beside + extent f (drop 9 (use_record f l state n a ++ rest)) ≡ length (use_record f l state n a)
    unfolding use_record marked four
    use-there = omega (arith, name-extent f a rest)

    pub use-after : use_end f (use_record f l state n a ++ rest) ≡ rest
    unfolding use_end
    use-after = rw use-there (drop-append_seam (use_record f l state n a) rest)

    pub use-back : element_refusal a ≡ 0 → is_short f a ≡ true → n < neighbour_count → use_read f (use_record f l state n a ++ rest) ≡ pick (eqb state 1) (mapped n a) (awaiting n a)
    unfolding use_read use_record marked four
    use-back ok room near = let same : n % 16 ≡ n = omega arith in ap₂ (λ (m : ℕ) (b : List ℕ). pick (eqb state 1) (mapped m b) (awaiting m b)) same (name_back f a ok room rest)
