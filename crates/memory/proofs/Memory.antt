-- What a change of the memory leaves as it was: each part of the card depends on its own places alone. Assumes nothing.
use Prim.Native.Nat.{ℕ, ◌+◌, ◌*◌, ◌/◌, ◌≤◌, ◌<◌}
use native.Mathlib.Omega.{arith}
use mathlib.Core.Path.{◌≡◌, refl, ◌∙◌}
use mathlib.Core.List.{List, []}
use lib.ListN.{length, take, drop, get_or, set, length-drop}
use lib.Seq.{get_or-set_other, get_or-take, get_or-drop, length-take-le}
use lib.Dec.{leb, ltb}
use borrow.Author.Tests.{le-ltb, ltb-true, ltb-false, leb-true, not-false}
use Rattle.meaning.specs.Wire.{root_limit, name_limit, least_label}
use Rattle.meaning.specs.Lists.{by-test}
use Rattle.meaning_laws.specs.RoundTrip.{both}
use Rattle.meaning.specs.Card.{Route, Tree, Use, label_count, with_label, with_routes, with_trees, with_labels, bare, tree_at, tree_limit, route_limit, most_base}
use Rattle.meaning.specs.Events.{base_outside}
use Rattle.octets.specs.Part.{tab}
use Rattle.octets.proofs.Tab.{tab-length, tab-get, tab-ext, tab-is}
use Rattle.memory.specs.Sizes.{turn_place, root_space, name_space, route_column, own_column, row_width, row_column, branch_column, row_numbers, mark_column, word_column, word_count, label_numbers, tree_octets, label_octets, root_octets, label_names, root_names}
use Rattle.memory.specs.Memory.{up_to, text_at, tree_name, label_name, root_name, base_in, next_in, last_in, route_count, tree_count, route_in, mark_at, is_free_at, is_mapped_at, label_in, own_place, carries_at, own_label, tree_in, card_of}

-- ---- at most k

pub up_to-le : (k n : ℕ) → up_to k n ≤ k
unfolding up_to
up_to-le k n = by-test (ltb n k) (λ e. rw e (omega (arith, ltb-true n k e))) (λ e. rw e (omega arith))

pub up_to-in : (k n : ℕ) → n ≤ k → up_to k n ≡ n
unfolding up_to
up_to-in k n h = by-test (ltb n k) (λ e. rw e refl) (λ e. rw e (omega (arith, ltb-false n k e)))

pub up_to-above : (k n : ℕ) → k ≤ n → up_to k n ≡ k
unfolding up_to
up_to-above k n h = rw (le-ltb n k h) refl

pub route_count-le : (ns : List ℕ) → route_count ns ≤ route_limit
unfolding route_count
route_count-le ns = up_to-le route_limit _

pub tree_count-le : (ns : List ℕ) → tree_count ns ≤ tree_limit
unfolding tree_count
tree_count-le ns = up_to-le tree_limit _

pub base-range : (ns : List ℕ) → (least_label ≤ base_in ns) × (base_in ns ≤ most_base)
unfolding base_in
base-range ns =
    by-test (base_outside (get_or ns 0 0))
    (λ e. rw e (omega arith, omega arith))
    (λ e. let b = both (leb least_label (get_or ns 0 0)) (leb (get_or ns 0 0) most_base) (not-false _ (unfold base_outside in e)) in rw e (leb-true _ _ b.0, leb-true _ _ b.1))

-- ---- texts

-- the octets of two memories agree on the k places from p on
abbrev pub Agree : ℕ → ℕ → List ℕ → List ℕ → Type 0
Agree p k xs ys = (j : ℕ) → p ≤ j → j < p + k → get_or ys j 0 ≡ get_or xs j 0

pub text_same : (k p : ℕ) (os os' : List ℕ) → Agree p (k + 1) os os' → text_at k os' p ≡ text_at k os p
unfolding text_at
text_same k p os os' h =
    rw (h p (omega arith) (omega arith))
    (tab-ext (up_to k (get_or os p 0)) _ _ (λ j lt. h (p + 1 + j) (omega arith) (omega (arith, up_to-le k (get_or os p 0)))))

pub text-length : (k p : ℕ) (os : List ℕ) → length (text_at k os p) ≡ up_to k (get_or os p 0)
unfolding text_at
text-length k p os = tab-length _ _

pub text-le : (k p : ℕ) (os : List ℕ) → length (text_at k os p) ≤ k
text-le k p os = rw (text-length k p os) (up_to-le k _)

-- as a part of the octets
pub text-part : (k p n : ℕ) (os : List ℕ) → n ≡ up_to k (get_or os p 0) → p + 1 + n ≤ length os → take n (drop (p + 1) os) ≡ text_at k os p
unfolding text_at
text-part k p n os e h =
    rw (← e)
    (tab-is (take n (drop (p + 1) os)) n _ 0
    (length-take-le n (drop (p + 1) os) (omega (arith, length-drop (p + 1) os)))
    (λ j lt. get_or-take n (drop (p + 1) os) j 0 lt ∙ get_or-drop (p + 1) os j 0))

-- ---- each part of the card

module _ (ns ns' os os' : List ℕ) where
  pub base_same : Agree 0 1 ns ns' → base_in ns' ≡ base_in ns
  unfolding base_in
  base_same h = rw (h 0 (omega arith) (omega arith)) refl

  pub next-same : Agree 1 1 ns ns' → next_in ns' ≡ next_in ns
  unfolding next_in
  next-same h = rw (h 1 (omega arith) (omega arith)) refl

  pub last-same : Agree 0 1 ns ns' → Agree turn_place 1 ns ns' → last_in ns' ≡ last_in ns
  unfolding last_in base_in
  last-same g h = rw (g 0 (omega arith) (omega arith), h turn_place (omega arith) (omega arith)) refl

  pub route-same : (i : ℕ) → Agree (route_column + i) 1 ns ns' → Agree (root_names + i * root_space) root_space os os' → route_in ns' os' i ≡ route_in ns os i
  unfolding route_in root_name
  route-same i h k = rw (text_same root_limit (root_names + i * root_space) os os' k, h (route_column + i) (omega arith) (omega arith)) refl

  pub routes-same : Agree 2 1 ns ns' → Agree route_column route_limit ns ns' → Agree root_names root_octets os os' → tab (route_count ns') (route_in ns' os') ≡ tab (route_count ns) (route_in ns os)
  unfolding route_count
  routes-same h k r =
      rw (h 2 (omega arith) (omega arith))
      (tab-ext _ _ _ (λ i lt. let le = up_to-le route_limit (get_or ns 2 0) in
      route-same i (λ j a b. k j (omega arith) (omega arith)) (λ j a b. r j (omega arith) (omega arith))))

  -- a word says of its labels what it said
  pub free-same : Agree word_column word_count ns ns' → (p : ℕ) → p < label_count → is_free_at ns' p ≡ is_free_at ns p
  unfolding is_free_at
  free-same h p lt = rw (h (word_column + p / 64) (omega arith) (omega arith)) refl

  -- the label that a tree at place i carries, by the bit and the mark of its own place alone
  pub own_same : (i p : ℕ) → Agree 0 1 ns ns' → (p < label_count → mark_at ns' p ≡ mark_at ns p) → (p < label_count → is_free_at ns' p ≡ is_free_at ns p) → own_label ns' i p ≡ own_label ns i p
  unfolding own_label carries_at is_mapped_at
  own_same i p b m f =
      by-test (ltb p 256)
      (λ t. rw (t, m (ltb-true p 256 t), f (ltb-true p 256 t), base_same b) refl)
      (λ t. rw t refl)

  pub own-kept : (i : ℕ) → Agree 0 1 ns ns' → Agree (own_column + i) 1 ns ns' → Agree mark_column label_numbers ns ns' → own_label ns' i (own_place ns' i) ≡ own_label ns i (own_place ns i)
  own-kept i b o m =
      rw (o (own_column + i) (omega arith) (omega arith))
      (own_same i (own_place ns i) b
      (λ h. m (mark_column + own_place ns i) (omega arith) (omega arith))
      (λ h. free-same (λ j x y. m j (omega arith) (omega arith)) (own_place ns i) h))

  -- the row and the name of a tree as they were, and its label
  pub tree_with : (i w : ℕ) → own_label ns' i (own_place ns' i) ≡ w → Agree (row_column + i * row_width) row_width ns ns' → Agree (i * name_space) name_space os os' → tree_in ns' os' i ≡ with_label w (tree_in ns os i)
  unfolding tree_in tree_name with_label
  tree_with i w l r n =
      let same_name : text_at name_limit os' (i * name_space) ≡ text_at name_limit os (i * name_space) = text_same name_limit (i * name_space) os os' n in
      let same-branches : tab 16 (λ k. get_or ns' (branch_column + i * row_width + k) 0) ≡ tab 16 (λ k. get_or ns (branch_column + i * row_width + k) 0) = tab-ext 16 _ _ (λ k lt. r (branch_column + i * row_width + k) (omega arith) (omega arith)) in
      let same-leaf : get_or ns' (row_column + i * row_width) 0 ≡ get_or ns (row_column + i * row_width) 0 = r (row_column + i * row_width) (omega arith) (omega arith) in
      cc

  pub tree-same : (i : ℕ) → own_label ns' i (own_place ns' i) ≡ own_label ns i (own_place ns i) → Agree (row_column + i * row_width) row_width ns ns' → Agree (i * name_space) name_space os os' → tree_in ns' os' i ≡ tree_in ns os i
  tree-same i l r n = tree_with i (own_label ns i (own_place ns i)) l r n ∙ unfold tree_in with_label in refl

  pub trees-same : Agree 0 1 ns ns' → Agree 3 1 ns ns' → Agree own_column tree_limit ns ns' → Agree row_column row_numbers ns ns' → Agree mark_column label_numbers ns ns' → Agree 0 tree_octets os os' → tab (tree_count ns') (tree_in ns' os') ≡ tab (tree_count ns) (tree_in ns os)
  unfolding tree_count
  trees-same b h l r m n =
      rw (h 3 (omega arith) (omega arith))
      (tab-ext _ _ _ (λ i lt. let le = up_to-le tree_limit (get_or ns 3 0) in
      tree-same i (own-kept i b (λ j x y. l j (omega arith) (omega arith)) m) (λ j x y. r j (omega arith) (omega arith)) (λ j x y. n j (omega arith) (omega arith))))

  pub label_same : (p : ℕ) → mark_at ns' p ≡ mark_at ns p → is_free_at ns' p ≡ is_free_at ns p → Agree (label_names + p * name_space) name_space os os' → label_in ns' os' p ≡ label_in ns os p
  unfolding label_in label_name
  label_same p m f n = rw (text_same name_limit (label_names + p * name_space) os os' n, m, f) refl

  pub labels-same : Agree mark_column label_numbers ns ns' → Agree label_names label_octets os os' → tab label_count (label_in ns' os') ≡ tab label_count (label_in ns os)
  labels-same m n =
      tab-ext label_count _ _ (λ p lt.
      label_same p (m (mark_column + p) (omega arith) (omega arith)) (free-same (λ j x y. m j (omega arith) (omega arith)) p lt) (λ j x y. n j (omega arith) (omega arith)))

-- ---- the card, but for some of its parts

module _ (ns ns' os os' : List ℕ) where
  -- the memory of all but the trees and the labels is as it was
  pub but-rows : (ts : List Tree) (ls : List Use) → Agree 0 3 ns ns' → Agree turn_place (1 + route_limit) ns ns' → Agree root_names root_octets os os' → tab (tree_count ns') (tree_in ns' os') ≡ ts → tab label_count (label_in ns' os') ≡ ls → card_of ns' os' ≡ with_trees ts (with_labels ls (card_of ns os))
  unfolding card_of with_trees with_labels
  but-rows ts ls head vias roots trees labels =
      let b : base_in ns' ≡ base_in ns = base_same ns ns' os os' (λ j x y. head j (omega arith) (omega arith)) in
      let n : next_in ns' ≡ next_in ns = next-same ns ns' os os' (λ j x y. head j (omega arith) (omega arith)) in
      let r : tab (route_count ns') (route_in ns' os') ≡ tab (route_count ns) (route_in ns os) = routes-same ns ns' os os' (λ j x y. head j (omega arith) (omega arith)) (λ j x y. vias j (omega arith) (omega arith)) roots in
      let given : last_in ns' ≡ last_in ns = last-same ns ns' os os' (λ j x y. head j (omega arith) (omega arith)) (λ j x y. vias j (omega arith) (omega arith)) in
      cc

  -- of all but the trees
  pub but-trees : (ts : List Tree) → Agree 0 3 ns ns' → Agree turn_place (1 + route_limit) ns ns' → Agree root_names root_octets os os' → ((p : ℕ) → p < label_count → label_in ns' os' p ≡ label_in ns os p) → tab (tree_count ns') (tree_in ns' os') ≡ ts → card_of ns' os' ≡ with_trees ts (card_of ns os)
  but-trees ts head vias roots labels trees =
      but-rows ts (tab label_count (label_in ns os)) head vias roots trees (tab-ext label_count (label_in ns' os') (label_in ns os) labels) ∙ unfold card_of with_trees with_labels in refl

  -- and of all but the routes
  pub but-routes : (rs : List Route) → Agree 0 2 ns ns' → Agree 3 2 ns ns' → Agree own_column (tree_limit + row_numbers + label_numbers) ns ns' → Agree 0 root_names os os' → tab (route_count ns') (route_in ns' os') ≡ rs → card_of ns' os' ≡ with_routes rs (card_of ns os)
  unfolding card_of with_routes
  but-routes rs head count rows names routes =
      let b : base_in ns' ≡ base_in ns = base_same ns ns' os os' (λ j x y. head j (omega arith) (omega arith)) in
      let n : next_in ns' ≡ next_in ns = next-same ns ns' os os' (λ j x y. head j (omega arith) (omega arith)) in
      let t : tab (tree_count ns') (tree_in ns' os') ≡ tab (tree_count ns) (tree_in ns os) = trees-same ns ns' os os' (λ j x y. head j (omega arith) (omega arith)) (λ j x y. count j (omega arith) (omega arith)) (λ j x y. rows j (omega arith) (omega arith)) (λ j x y. rows j (omega arith) (omega arith)) (λ j x y. rows j (omega arith) (omega arith)) (λ j x y. names j (omega arith) (omega arith)) in
      let l : tab label_count (label_in ns' os') ≡ tab label_count (label_in ns os) = labels-same ns ns' os os' (λ j x y. rows j (omega arith) (omega arith)) (λ j x y. names j (omega arith) (omega arith)) in
      let given : last_in ns' ≡ last_in ns = last-same ns ns' os os' (λ j x y. head j (omega arith) (omega arith)) (λ j x y. count j (omega arith) (omega arith)) in
      cc

-- the same places of the same list
pub agree_refl : (p k : ℕ) (xs : List ℕ) → Agree p k xs xs
agree_refl p k xs j a b = refl

-- one place anew, outside them
pub agree-set : (p k : ℕ) (xs : List ℕ) (i v : ℕ) → (p ≤ i → i < p + k → ⊥) → Agree p k xs (set xs i v)
agree-set p k xs i v out j a b = get_or-set_other xs i j v 0 (λ e. out (omega arith) (omega arith))

-- ---- the card's parts by place

pub trees-length : (ns os : List ℕ) → length (card_of ns os).trees ≡ tree_count ns
unfolding card_of
trees-length ns os = tab-length _ _

pub routes-length : (ns os : List ℕ) → length (card_of ns os).routes ≡ route_count ns
unfolding card_of
routes-length ns os = tab-length _ _

pub labels_length : (ns os : List ℕ) → length (card_of ns os).labels ≡ 256
unfolding card_of
labels_length ns os = tab-length _ _

pub tree-at : (ns os : List ℕ) (i : ℕ) → i < tree_count ns → tree_at i (card_of ns os) ≡ tree_in ns os i
unfolding tree_at card_of
tree-at ns os i h = tab-get _ _ i (bare []) h
