-- Records at a place of the octets, and one record after the other: what each test tells, and what a loop knows. Assumes nothing.
use Prim.Native.Nat.{ℕ, suc, ◌+◌, ◌-◌, ◌≤◌, ◌<◌}
use native.Mathlib.Omega.{arith}
use mathlib.Core.Path.{◌≡◌, refl, sym, ap, ap₂, ◌∙◌}
use mathlib.Core.Bool.{Bool, true, false, not, ◌&&◌}
use mathlib.Core.List.{List}
use lib.ListN.{drop, get_or, length, length-drop}
use lib.Seq.{drop-drop, get_or-drop}
use lib.Dec.{eqb, leb, ltb}
use borrow.Author.Tests.{eqb-true, eq-eqb, leb-true, le-leb, lt-leb, lt-ltb, le-ltb}
use Rattle.meaning.specs.Octets.{four_at}
use Rattle.meaning.specs.Wire.{root_limit}
use Rattle.meaning.specs.Card.{label_count, neighbour_count}
use Rattle.meaning_laws.specs.NoticeLaws.{Octets}
use Rattle.meaning_laws.specs.SavePlaces.{tree-there, use-there}
use Rattle.meaning_save.specs.Save.{Form, route_kind, tree_kind, use_kind, route_size, tree_beside, use_beside, extent, tree_end, trees_end, use_end}
use Rattle.save_written.specs.Written.{marked_as, space_written, name_written, is_state, label_written, route_written, tree_written, use_written, routes_written, trees_written, uses_written}
use Rattle.save_written.proofs.Fields.{alike}
use Rattle.save_written.proofs.Records.{octets-behind, route-short, route-tests, tree-short, tree-tests, use-short, use-tests}
use Rattle.save_written.proofs.Places.{neither-not, neither-false}

use-passed : (f : Form) (base least : ℕ) (o : List ℕ) (n : ℕ) → use_written f base least o ≡ true → uses_written f base least (suc n) o ≡ uses_written f base (suc (four_at o 3)) n (use_end f o)
unfolding uses_written
use-passed f base least o n h = rw h refl

module _ (o : List ℕ) (at : ℕ) where
  few-there : (n : ℕ) → length o < at + n → 0 < n → length (drop at o) < n
  few-there n h some = simp length-drop (omega arith)

  enough-there : (n : ℕ) → at + n ≤ length o → n ≤ length (drop at o)
  enough-there n h = simp length-drop (omega arith)

  -- ---- a route

  pub route-few : length o < at + route_size → false ≡ route_written (drop at o)
  route-few h = sym (route-short (drop at o) (few-there route_size h (omega arith)))

  module _ (small : Octets o) (long : at + route_size ≤ length o) where
    route-test : (marked_as route_kind (drop at o) && space_written root_limit (drop (at + 4) o)) ≡ route_written (drop at o)
    route-test = rw (← drop-drop 4 at o) (route-tests (drop at o) (octets-behind at o small) (enough-there route_size long))

    pub route-unmarked : marked_as route_kind (drop at o) ≡ false → false ≡ route_written (drop at o)
    route-unmarked h = sym (rw h refl) ∙ route-test

    pub route-there : marked_as route_kind (drop at o) ≡ true → (r : Bool) → r ≡ space_written root_limit (drop (at + 4) o) → r ≡ route_written (drop at o)
    route-there h r e = e ∙ sym (rw h refl) ∙ route-test

  -- ---- a tree, whose name takes e octets

  module _ (f : Form) (e : ℕ) (he : e ≡ extent f (drop (at + 3) o)) where
    takes : extent f (drop 3 (drop at o)) ≡ e
    takes = ap (extent f) (drop-drop 3 at o) ∙ sym he

    pub tree-few : length o < at + (tree_beside + e) → false ≡ tree_written f (drop at o)
    tree-few h = sym (tree-short f (drop at o) (rw takes (few-there (tree_beside + e) h (omega arith))))

    module _ (small : Octets o) (long : at + (tree_beside + e) ≤ length o) where
      tree-test : (marked_as (tree_kind f) (drop at o) && (leb (get_or o (at + (3 + e)) 0) 1 && name_written f (drop (at + 3) o))) ≡ tree_written f (drop at o)
      tree-test =
          let test = tree-tests f (drop at o) (octets-behind at o small) (rw takes (enough-there (tree_beside + e) long)) in
          rw (← drop-drop 3 at o, ← get_or-drop at o (3 + e) 0) (ap (λ (n : ℕ). marked_as (tree_kind f) (drop at o) && (leb (get_or (drop at o) (3 + n) 0) 1 && name_written f (drop 3 (drop at o)))) (sym takes) ∙ test)

      pub tree-unmarked : marked_as (tree_kind f) (drop at o) ≡ false → false ≡ tree_written f (drop at o)
      tree-unmarked h = sym (rw h refl) ∙ tree-test

      module _ (mark : marked_as (tree_kind f) (drop at o) ≡ true) where
        pub tree-no-leaf : 1 < get_or o (at + (3 + e)) 0 → false ≡ tree_written f (drop at o)
        tree-no-leaf h = sym (rw (mark, lt-leb (get_or o (at + (3 + e)) 0) 1 h) refl) ∙ tree-test

        pub tree-stands : get_or o (at + (3 + e)) 0 ≤ 1 → (r : Bool) → r ≡ name_written f (drop (at + 3) o) → r ≡ tree_written f (drop at o)
        tree-stands h r er = er ∙ sym (rw (mark, le-leb (get_or o (at + (3 + e)) 0) 1 h) refl) ∙ tree-test

  -- ---- a label l

  module _ (base least l : ℕ) (el : l ≡ four_at (drop at o) 3) where
    abbrev state-at : ℕ
    state-at = get_or o (at + 7) 0

    label-test : (leb least l && (ltb l (base + label_count) && (is_state state-at && ltb (get_or o (at + 8) 0) neighbour_count))) ≡ label_written base least (drop at o)
    label-test = rw (el, ← get_or-drop at o 7 0, ← get_or-drop at o 8 0) refl

    pub label-low : l < least → false ≡ label_written base least (drop at o)
    label-low h = sym (rw (lt-leb least l h) refl) ∙ label-test

    module _ (low : least ≤ l) where
      pub label-high : base + label_count ≤ l → false ≡ label_written base least (drop at o)
      label-high h = sym (rw (le-leb least l low, le-ltb l (base + label_count) h) refl) ∙ label-test

      module _ (high : l < base + label_count) where
        pub label-stateless : (not (eqb state-at 1) && not (eqb state-at 2)) ≡ true → false ≡ label_written base least (drop at o)
        label-stateless h = sym (rw (le-leb least l low, lt-ltb l (base + label_count) high, neither-not (eqb state-at 1) (eqb state-at 2) h) refl) ∙ label-test

        pub label-there : (not (eqb state-at 1) && not (eqb state-at 2)) ≡ false → ltb (get_or o (at + 8) 0) neighbour_count ≡ label_written base least (drop at o)
        label-there h = sym (rw (le-leb least l low, lt-ltb l (base + label_count) high, neither-false (eqb state-at 1) (eqb state-at 2) h) refl) ∙ label-test

  -- ---- its record, whose name takes e octets

  module _ (f : Form) (base least e : ℕ) (he : e ≡ extent f (drop (at + 9) o)) where
    use-takes : extent f (drop 9 (drop at o)) ≡ e
    use-takes = ap (extent f) (drop-drop 9 at o) ∙ sym he

    pub use-few : length o < at + (use_beside + e) → false ≡ use_written f base least (drop at o)
    use-few h = sym (use-short f base least (drop at o) (rw use-takes (few-there (use_beside + e) h (omega arith))))

    module _ (small : Octets o) (long : at + (use_beside + e) ≤ length o) where
      use-test : (marked_as (use_kind f) (drop at o) && (label_written base least (drop at o) && name_written f (drop (at + 9) o))) ≡ use_written f base least (drop at o)
      use-test = rw (← drop-drop 9 at o) (use-tests f base least (drop at o) (octets-behind at o small) (rw use-takes (enough-there (use_beside + e) long)))

      pub use-unmarked : marked_as (use_kind f) (drop at o) ≡ false → false ≡ use_written f base least (drop at o)
      use-unmarked h = sym (rw h refl) ∙ use-test

      module _ (mark : marked_as (use_kind f) (drop at o) ≡ true) where
        pub use-no-label : label_written base least (drop at o) ≡ false → false ≡ use_written f base least (drop at o)
        use-no-label h = sym (rw (mark, h) refl) ∙ use-test

        pub use-stands : label_written base least (drop at o) ≡ true → (r : Bool) → r ≡ name_written f (drop (at + 9) o) → r ≡ use_written f base least (drop at o)
        use-stands h r er = er ∙ sym (rw (mark, h) refl) ∙ use-test

  -- ---- one record after the other: `left` of them are left, and one at least

  module _ (left : ℕ) (some : 0 < left) where
    one_more : suc (left - 1) ≡ left
    one_more = omega arith

    pub routes-stop : route_written (drop at o) ≡ false → routes_written left (drop at o) ≡ false
    routes-stop h = ap (λ (n : ℕ). routes_written n (drop at o)) (sym one_more) ∙ unfold routes_written in rw h refl

    pub routes-next : route_written (drop at o) ≡ true → routes_written left (drop at o) ≡ routes_written (left - 1) (drop (at + route_size) o)
    routes-next h = ap (λ (n : ℕ). routes_written n (drop at o)) (sym one_more) ∙ unfold routes_written in rw (h, drop-drop route_size at o) refl

    pub trees-stop : (f : Form) → tree_written f (drop at o) ≡ false → trees_written f left (drop at o) ≡ false
    trees-stop f h = ap (λ (n : ℕ). trees_written f n (drop at o)) (sym one_more) ∙ unfold trees_written in rw h refl

    module _ (f : Form) (e : ℕ) (he : e ≡ extent f (drop (at + 3) o)) where
      behind-tree : tree_end f (drop at o) ≡ drop (at + (tree_beside + e)) o
      behind-tree = tree-there f o at ∙ ap (λ (n : ℕ). drop (at + (tree_beside + n)) o) (sym he)

      pub trees-next : tree_written f (drop at o) ≡ true → trees_written f left (drop at o) ≡ trees_written f (left - 1) (drop (at + (tree_beside + e)) o)
      trees-next h = ap (λ (n : ℕ). trees_written f n (drop at o)) (sym one_more) ∙ unfold trees_written in rw (h, behind-tree) refl

      pub trees-further : trees_end f left (drop at o) ≡ trees_end f (left - 1) (drop (at + (tree_beside + e)) o)
      trees-further = ap (λ (n : ℕ). trees_end f n (drop at o)) (sym one_more) ∙ unfold trees_end in ap (trees_end f (left - 1)) behind-tree

    module _ (f : Form) (base least : ℕ) where
      pub uses-stop : use_written f base least (drop at o) ≡ false → uses_written f base least left (drop at o) ≡ false
      uses-stop h = ap (λ (n : ℕ). uses_written f base least n (drop at o)) (sym one_more) ∙ unfold uses_written in rw h refl

      pub uses-next : (l e : ℕ) → l ≡ four_at (drop at o) 3 → e ≡ extent f (drop (at + 9) o) → use_written f base least (drop at o) ≡ true
          → uses_written f base least left (drop at o) ≡ uses_written f base (l + 1) (left - 1) (drop (at + (use_beside + e)) o)
      uses-next l e el he h =
          let behind : use_end f (drop at o) ≡ drop (at + (use_beside + e)) o = use-there f o at ∙ ap (λ (n : ℕ). drop (at + (use_beside + n)) o) (sym he) in
          let next : suc (four_at (drop at o) 3) ≡ l + 1 = omega (arith, el) in
          ap (λ (n : ℕ). uses_written f base least n (drop at o)) (sym one_more) ∙ use-passed f base least (drop at o) (left - 1) h ∙ ap₂ (λ (n : ℕ) (s : List ℕ). uses_written f base n (left - 1) s) next behind

  -- none is left
  pub routes-done : (left : ℕ) → left ≡ 0 → routes_written left (drop at o) ≡ true
  routes-done left e = ap (λ (n : ℕ). routes_written n (drop at o)) e ∙ unfold routes_written in refl

  pub trees-done : (f : Form) (left : ℕ) → left ≡ 0 → (trees_written f left (drop at o) ≡ true) × (trees_end f left (drop at o) ≡ drop at o)
  trees-done f left e = (ap (λ (n : ℕ). trees_written f n (drop at o)) e ∙ unfold trees_written in refl, ap (λ (n : ℕ). trees_end f n (drop at o)) e ∙ unfold trees_end in refl)

  pub uses-done : (f : Form) (base least left : ℕ) → left ≡ 0 → leb (length o) at ≡ uses_written f base least left (drop at o)
  uses-done f base least left e = sym (ap (λ (n : ℕ). uses_written f base least n (drop at o)) e ∙ unfold uses_written in ended)
    where
      ended : eqb (length (drop at o)) 0 ≡ leb (length o) at
      ended = alike (eqb (length (drop at o)) 0) (leb (length o) at) (λ t. le-leb (length o) at (omega (arith, eqb-true (length (drop at o)) 0 t, length-drop at o))) (λ t. eq-eqb (length (drop at o)) 0 (omega (arith, leb-true (length o) at t, length-drop at o)))
