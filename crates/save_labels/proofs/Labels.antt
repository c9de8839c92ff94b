-- The labels' records, one after the other, and the label that each tree then carries. Assumes nothing.
use Prim.Native.Nat.{ℕ, zero, suc, ◌+◌, ◌-◌, ◌%◌, ◌≤◌, ◌<◌}
use native.Mathlib.Nat.{not-suc-le-zero, le_of_suc-le-suc}
use native.Mathlib.Numerals.{add-one}
use native.Mathlib.Omega.{arith}
use mathlib.Core.Path.{◌≡◌, refl, sym, ap, ap₂, ◌∙◌, subst}
use mathlib.Core.Bool.{Bool, true, false, ◌&&◌, and-false}
use mathlib.Core.List.{List, [], ◌∷◌, ◌++◌, map}
use lib.ListN.{length, take, drop, get_or, set, length-append}
use lib.Seq.{drop-drop, get_or-drop, set-get_or, set_out, take_all, take-suc, length-take-le}
use lib.Dec.{eqb, leb, ltb}
use borrow.Author.Tests.{lt-ltb, le-ltb, ltb-true, ltb-false, leb-true, leb-false, eqb-true, eqb-false, eq-eqb, ne_eqb}
use Rattle.meaning.specs.Octets.{pick, place, any, all, same, two_at, four_at}
use Rattle.meaning.specs.Lists.{by-test, place-finds, same-eq, same_refl, same-flip}
use Rattle.meaning.specs.Card.{Route, Tree, Use, free, mapped, awaiting, Card, fresh, with_next, with_routes, with_trees, with_labels, with_label, bare, tree_at, tree_place, named, label_count, with_last, is_free}
use Rattle.meaning.specs.Events.{set_label, total, worked_out}
use Rattle.meaning_save.specs.Save.{Form, form_of, last_place, name_in, extent, use_read, use_end, uses_read, use_beside, is_mapped_for, labelled, all_labelled, once_each, same_name, same_root, all_worked_out, routes_read, route_read, head_size, route_size, holds_right, table_in, highest_used, last_in}
use Rattle.meaning_laws.specs.SavePlaces.{uses_end, use-there, uses-end-more, uses-read-more}
use Rattle.memory.specs.Memory.{card_of, base_in, tree_count, label_in, label_name, is_free_at, is_mapped_at, label_before}
use Rattle.memory.proofs.Memory.{base-range, trees-length, labels_length}
use Rattle.memory.proofs.Marks.{free_in}
use Rattle.memory.proofs.Trees.{label_at}
use Rattle.memory.proofs.Head.{label-before}
use Rattle.meaning_laws.specs.SaveLaws.{highest-is, highest-free}
use Rattle.meaning.specs.Wire.{least_label}
use Rattle.octets.proofs.Tab.{tab-get}
use Rattle.save_rules.proofs.Rules.{mapped-not, mapped-named}
use Rattle.save_rows.specs.Stages.{head_read, trees_begin, rows_read, labels_begin}
use Rattle.save_counts.specs.Counted.{counted}
use Rattle.save_counts.proofs.Held.{held-counted}
use Rattle.save_counts.proofs.Places.{one-changed}
use Rattle.save_fields.proofs.Read.{four-drop}
use Rattle.save_rows.proofs.Rows.{trees-bare}
use Rattle.save_labels.specs.Labels.{Unlabelled, given, OfBlock}

-- ---- a label's record

use-read : (f : Form) (o : List ℕ) (at : ℕ) → pick (eqb (get_or o (at + 7) 0) 1) (mapped (get_or o (at + 8) 0 % 16) (name_in f (drop (at + 9) o))) (awaiting (get_or o (at + 8) 0 % 16) (name_in f (drop (at + 9) o))) ≡ use_read f (drop at o)
unfolding use_read
use-read f o at = rw (← get_or-drop at o 7 0, ← get_or-drop at o 8 0, ← drop-drop 9 at o) refl

module _ (ns os o : List ℕ) (at p l b : ℕ) (hp : p ≡ l - b) (hl : l ≡ four_at o (at + 3)) (hb : b ≡ base_in ns) where
  place_is : four_at (drop at o) 3 - (card_of ns os).base ≡ p
  unfolding card_of
  place_is = let e = four-drop o at 3 in omega arith

  pub use-out : (u : Use) → label_count ≤ p → card_of ns os ≡ with_labels (set (card_of ns os).labels (four_at (drop at o) 3 - (card_of ns os).base) u) (card_of ns os)
  unfolding with_labels
  use-out u h = rw (place_is, set_out (card_of ns os).labels p u (rw labels_length h)) refl

  pub use-put : (f : Form) (c : Card) (held : Bool) (n : ℕ) (a : List ℕ) → c ≡ with_labels (set (card_of ns os).labels p (pick held (mapped n a) (awaiting n a))) (card_of ns os)
      → held ≡ eqb (get_or o (at + 7) 0) 1 → n ≡ get_or o (at + 8) 0 % 16 → a ≡ name_in f (drop (at + 9) o)
      → c ≡ with_labels (set (card_of ns os).labels (four_at (drop at o) 3 - (card_of ns os).base) (use_read f (drop at o))) (card_of ns os)
  use-put f c held n a e eh en ea = rw (e, eh, en, ea, place_is, use-read f o at) refl

-- no tree carries a label of the block, where none carries any
pub none-carries : (ns os : List ℕ) (p : ℕ) → Unlabelled (card_of ns os) → (j : ℕ) → j < tree_count ns → (tree_at j (card_of ns os)).label ≡ base_in ns + p → ⊥
none-carries ns os p h j lt e = let z = h j (rw trees-length lt) in omega (arith, base-range ns)

pub unlabelled-kept : (c d : Card) (ls : List Use) → Unlabelled c → d ≡ with_labels ls c → Unlabelled d
unfolding with_labels tree_at
unlabelled-kept c d ls h e j lt =
    let k : d.trees ≡ c.trees = ap (λ (x : Card). x.trees) e in
    rw k (h j (rw k at lt))

pub once-kept : (c d : Card) (ls : List Use) → once_each same_name c.trees ≡ true → d ≡ with_labels ls c → once_each same_name d.trees ≡ true
unfolding with_labels
once-kept c d ls h e = ap (λ (x : Card). once_each same_name x.trees) e ∙ h

-- ---- i labels were read

module _ (f : Form) (c : Card) (o : List ℕ) (from : ℕ) where
  pub labels-none : c ≡ with_labels (uses_read f c.base 0 (drop from o) c.labels) c
  unfolding with_labels uses_read
  labels-none = refl

  pub none-behind : drop from o ≡ uses_end f 0 (drop from o)
  unfolding uses_end
  none-behind = refl

  pub labels-more : (i at : ℕ) (d e : Card) → d ≡ with_labels (uses_read f c.base i (drop from o) c.labels) c → drop at o ≡ uses_end f i (drop from o)
      → e ≡ with_labels (set d.labels (four_at (drop at o) 3 - d.base) (use_read f (drop at o))) d
      → e ≡ with_labels (uses_read f c.base (i + 1) (drop from o) c.labels) c
  unfolding with_labels
  labels-more i at d e hd here he = rw (he, hd, here, add-one i, uses-read-more f c.base i (drop from o) c.labels) refl

  pub label-behind : (i at e : ℕ) → e ≡ extent f (drop (at + 9) o) → drop at o ≡ uses_end f i (drop from o) → drop (at + (use_beside + e)) o ≡ uses_end f (i + 1) (drop from o)
  label-behind i at e he here =
      ap (λ (k : ℕ). drop (at + (use_beside + k)) o) he
      ∙ sym (use-there f o at)
      ∙ ap (use_end f) here
      ∙ sym (uses-end-more f i (drop from o))
      ∙ ap (λ (k : ℕ). uses_end f k (drop from o)) (sym (add-one i))

-- ---- one label, and the tree of its name

map-still {ℓ} : {A : Type ℓ} (g : A → A) → ((x : A) → g x ≡ x) → (l : List A) → map g l ≡ l
map-still g h [] = refl
map-still g h (x ∷ l) = ap₂ (λ y ys. y ∷ ys) (h x) (map-still g h l)

module _ (ns os : List ℕ) (p : ℕ) where
  not-given : (t : Tree) → is_mapped_for t.name (label_in ns os p) ≡ false → given (base_in ns + p) (label_in ns os p) t ≡ t
  unfolding given
  not-given t e = rw e refl

  pub given-none : is_mapped_at ns p ≡ false → card_of ns os ≡ with_trees (map (given (base_in ns + p) (label_in ns os p)) (card_of ns os).trees) (card_of ns os)
  unfolding with_trees
  given-none m =
      ap (λ (ts : List Tree). with_trees ts (card_of ns os)) (sym (map-still _ (λ t. not-given t (mapped-not ns os p t.name m)) (card_of ns os).trees))

  -- whatever the octets
  pub none_has : ((j : ℕ) → j < tree_count ns → (tree_at j (card_of ns os)).label ≡ base_in ns + p → ⊥) → (qs : List ℕ) (j : ℕ) → j < tree_count ns → (tree_at j (card_of ns qs)).label ≡ base_in ns + p → ⊥
  none_has h qs j lt e = h j lt (label_at ns os j lt ∙ sym (label_at ns qs j lt) ∙ e)

  module _ (a : List ℕ) (i : ℕ) (m : is_mapped_at ns p ≡ true) (ea : a ≡ label_name os p) (ei : i ≡ tree_place a (card_of ns os)) (once : once_each same_name (card_of ns os).trees ≡ true) where
    for-name : (t : Tree) → is_mapped_for t.name (label_in ns os p) ≡ same a t.name
    for-name t = mapped-named ns os p t.name m ∙ ap (λ (b : List ℕ). same b t.name) (sym ea)

    -- the tree at place i alone
    one-given : map (given (base_in ns + p) (label_in ns os p)) (card_of ns os).trees ≡ set (card_of ns os).trees i (given (base_in ns + p) (label_in ns os p) (tree_at i (card_of ns os)))
    unfolding tree_at tree_place named same_name
    one-given =
        rw ei
        (one-changed (λ (t : Tree). t.name) (given (base_in ns + p) (label_in ns os p)) a (λ t k. not-given t (for-name t ∙ same-flip t.name a k)) (card_of ns os).trees (bare []) once)

    pub given_out : (n : ℕ) → n ≡ tree_count ns → n ≤ i → card_of ns os ≡ with_trees (map (given (base_in ns + p) (label_in ns os p)) (card_of ns os).trees) (card_of ns os)
    unfolding with_trees
    given_out n e h = ap (λ (ts : List Tree). with_trees ts (card_of ns os)) (sym (one-given ∙ set_out (card_of ns os).trees i _ (rw trees-length (omega arith))))

    has_one : (t : Tree) → (t.label ≡ 0 → ⊥) → given (base_in ns + p) (label_in ns os p) t ≡ t
    unfolding given
    has_one t ne = rw (ne_eqb t.label 0 ne, and-false (is_mapped_for t.name (label_in ns os p))) refl

    pub given-before : ((tree_at i (card_of ns os)).label ≡ 0 → ⊥) → card_of ns os ≡ with_trees (map (given (base_in ns + p) (label_in ns os p)) (card_of ns os).trees) (card_of ns os)
    unfolding with_trees tree_at
    given-before ne =
        ap (λ (ts : List Tree). with_trees ts (card_of ns os)) (sym (one-given ∙ ap (set (card_of ns os).trees i) (has_one (tree_at i (card_of ns os)) ne) ∙ set-get_or (card_of ns os).trees i (bare [])))

    its-name : i < tree_count ns → a ≡ (tree_at i (card_of ns os)).name
    unfolding tree_at tree_place named
    its-name h = sym (same-eq _ a (rw ei (place-finds (named a) (card_of ns os).trees (bare []) (rw trees-length (omega arith)))))

    takes_one : (t : Tree) → a ≡ t.name → t.label ≡ 0 → given (base_in ns + p) (label_in ns os p) t ≡ with_label (base_in ns + p) t
    unfolding given
    takes_one t e z = rw (for-name t, ← e, same_refl a, eq-eqb t.label 0 z) refl

    pub given-now : (d : Card) → i < tree_count ns → (tree_at i (card_of ns os)).label ≡ 0 → d ≡ set_label i (base_in ns + p) (card_of ns os) → d ≡ with_trees (map (given (base_in ns + p) (label_in ns os p)) (card_of ns os).trees) (card_of ns os)
    unfolding set_label
    given-now d h z e =
        e ∙ ap (λ (ts : List Tree). with_trees ts (card_of ns os)) (sym (one-given ∙ ap (set (card_of ns os).trees i) (takes_one (tree_at i (card_of ns os)) (its-name h) z)))

-- ---- one label more

found_before {ℓ} : {A : Type ℓ} (t : A → Bool) (xs ys : List A) → place t xs < length xs → place t (xs ++ ys) ≡ place t xs
unfolding place
found_before t [] ys h = absurd (not-suc-le-zero h)
found_before t (x ∷ xs) ys h = by-test (t x) (λ k. rw k refl) (λ k. rw k (ap suc (found_before t xs ys (le_of_suc-le-suc (rw k at h)))))

found-behind {ℓ} : {A : Type ℓ} (t : A → Bool) (xs ys : List A) → length xs ≤ place t xs → place t (xs ++ ys) ≡ length xs + place t ys
unfolding place
found-behind t [] ys h = omega arith
found-behind t (x ∷ xs) ys h =
    by-test (t x)
    (λ k. absurd (not-suc-le-zero (rw k at h)))
    (λ k. let e = found-behind t xs ys (le_of_suc-le-suc (rw k at h)) in rw k (omega arith))

-- the label of a tree of that name, where these are the labels from b on
unfoldable label_of : ℕ → List Use → List ℕ → ℕ
label_of b us a = pick (ltb (place (is_mapped_for a) us) (length us)) (b + place (is_mapped_for a) us) 0

labelled-is : (b : ℕ) (us : List Use) (t : Tree) → labelled b us t ≡ with_label (label_of b us t.name) t
unfolding labelled label_of
labelled-is b us t = refl

module _ (b : ℕ) (us : List Use) (a : List ℕ) where
  label-found : place (is_mapped_for a) us < length us → label_of b us a ≡ b + place (is_mapped_for a) us
  unfolding label_of
  label-found h = rw (lt-ltb _ _ h) refl

  label-missed : length us ≤ place (is_mapped_for a) us → label_of b us a ≡ 0
  unfolding label_of
  label-missed h = rw (le-ltb _ _ h) refl

module _ (b : ℕ) (us : List Use) (u : Use) (low : least_label ≤ b) where
  more-length : length (us ++ (u ∷ [])) ≡ length us + 1
  more-length = length-append us (u ∷ [])

  next-label : (a : List ℕ) → label_of b (us ++ (u ∷ [])) a ≡ pick (is_mapped_for a u && eqb (label_of b us a) 0) (b + length us) (label_of b us a)
  next-label a =
      by-test (ltb (place (is_mapped_for a) us) (length us))
      (λ k.
      let lt : place (is_mapped_for a) us < length us = ltb-true _ _ k in
      let e = found_before (is_mapped_for a) us (u ∷ []) lt in
      let was = label-found b us a lt in
      let is : label_of b (us ++ (u ∷ [])) a ≡ b + place (is_mapped_for a) us = label-found b (us ++ (u ∷ [])) a (omega (arith, e, more-length)) ∙ ap (λ (n : ℕ). b + n) e in
      rw (is, was, ne_eqb (b + place (is_mapped_for a) us) 0 (λ z. omega arith), and-false (is_mapped_for a u)) refl)
      (λ k.
      let ge : length us ≤ place (is_mapped_for a) us = ltb-false _ _ k in
      let e = found-behind (is_mapped_for a) us (u ∷ []) ge in
      let was = label-missed b us a ge in
      by-test (is_mapped_for a u)
      (λ t.
      let here : place (is_mapped_for a) (u ∷ []) ≡ 0 = unfold place in rw t refl in
      let at : place (is_mapped_for a) (us ++ (u ∷ [])) ≡ length us = omega arith in
      rw (was, t) (label-found b (us ++ (u ∷ [])) a (omega (arith, at, more-length)) ∙ ap (λ (n : ℕ). b + n) at))
      (λ t.
      let gone : place (is_mapped_for a) (u ∷ []) ≡ 1 = unfold place in rw t refl in
      rw (was, t) (label-missed b (us ++ (u ∷ [])) a (omega (arith, e, gone, more-length)))))

  given_is : (l n : ℕ) (t : Tree) → given l u (with_label n t) ≡ with_label (pick (is_mapped_for t.name u && eqb n 0) l n) t
  unfolding given with_label
  given_is l n t = by-test (is_mapped_for t.name u && eqb n 0) (λ k. rw k refl) (λ k. rw k refl)

  labelled-next : (t : Tree) → given (b + length us) u (labelled b us t) ≡ labelled b (us ++ (u ∷ [])) t
  labelled-next t =
      ap (given (b + length us) u) (labelled-is b us t)
      ∙ given_is (b + length us) (label_of b us t.name) t
      ∙ ap (λ (n : ℕ). with_label n t) (sym (next-label t.name))
      ∙ sym (labelled-is b (us ++ (u ∷ [])) t)

  all-next : (ts : List Tree) → map (given (b + length us) u) (all_labelled b us ts) ≡ all_labelled b (us ++ (u ∷ [])) ts
  unfolding all_labelled
  all-next [] = refl
  all-next (t ∷ ts) = ap₂ (λ (s : Tree) (ss : List Tree). s ∷ ss) (labelled-next t) (all-next ts)

-- ---- p labels were looked at

bare-label : (t : Tree) → t.label ≡ 0 → with_label 0 t ≡ t
unfolding with_label
bare-label t e = ap (λ (l : ℕ). with_label l t) (sym e)

none-labelled : (b : ℕ) (ts : List Tree) (d : Tree) → ((j : ℕ) → j < length ts → (get_or ts j d).label ≡ 0) → all_labelled b [] ts ≡ ts
unfolding all_labelled
none-labelled b [] d h = refl
none-labelled b (t ∷ ts) d h =
    ap₂ (λ (s : Tree) (ss : List Tree). s ∷ ss) (labelled-is b [] t ∙ ap (λ (n : ℕ). with_label n t) (label-missed b [] t.name (omega arith)) ∙ bare-label t (h 0 (omega arith))) (none-labelled b ts d (λ j k. h (suc j) (omega arith)))

all-length : (b : ℕ) (us : List Use) (ts : List Tree) → length (all_labelled b us ts) ≡ length ts
unfolding all_labelled
all-length b us [] = refl
all-length b us (t ∷ ts) = ap suc (all-length b us ts)

all-get : (b : ℕ) (us : List Use) (ts : List Tree) (j : ℕ) (d : Tree) → j < length ts → get_or (all_labelled b us ts) j d ≡ labelled b us (get_or ts j d)
unfolding all_labelled
all-get b us [] j d h = absurd (not-suc-le-zero h)
all-get b us (t ∷ ts) zero d h = refl
all-get b us (t ∷ ts) (suc j) d h = all-get b us ts j d (le_of_suc-le-suc h)

-- labels do not make names the same
any-named : (b : ℕ) (us : List Use) (t : Tree) (ts : List Tree) → any (same_name (labelled b us t)) (all_labelled b us ts) ≡ any (same_name t) ts
unfolding any all_labelled labelled with_label same_name named
any-named b us t [] = refl
any-named b us t (s ∷ ts) = rw (any-named b us t ts) refl

pub all_once : (b : ℕ) (us : List Use) (ts : List Tree) → once_each same_name (all_labelled b us ts) ≡ once_each same_name ts
unfolding once_each all_labelled
all_once b us [] = refl
all_once b us (t ∷ ts) = rw (any-named b us t ts, all_once b us ts) refl

module _ (ns₀ os : List ℕ) where
  abbrev pub Labelled : ℕ → List ℕ → Type 0
  Labelled p ns = card_of ns os ≡ with_trees (all_labelled (card_of ns₀ os).base (take p (card_of ns₀ os).labels) (card_of ns₀ os).trees) (card_of ns₀ os)

  pub labelled-none : Unlabelled (card_of ns₀ os) → Labelled 0 ns₀
  unfolding with_trees tree_at
  labelled-none un = ap (λ (ts : List Tree). with_trees ts (card_of ns₀ os)) (sym (none-labelled (card_of ns₀ os).base (card_of ns₀ os).trees (bare []) un))

  base-low : 16 ≤ (card_of ns₀ os).base
  unfolding card_of
  base-low = (base-range ns₀).0

  module _ (p : ℕ) (ns : List ℕ) (e : Labelled p ns) where
    kept-base : base_in ns ≡ (card_of ns₀ os).base
    unfolding with_trees card_of
    kept-base = ap (λ (x : Card). x.base) e

    kept-labels : (card_of ns os).labels ≡ (card_of ns₀ os).labels
    unfolding with_trees
    kept-labels = ap (λ (x : Card). x.labels) e

    kept-trees : (card_of ns os).trees ≡ all_labelled (card_of ns₀ os).base (take p (card_of ns₀ os).labels) (card_of ns₀ os).trees
    unfolding with_trees
    kept-trees = ap (λ (x : Card). x.trees) e

    pub labelled-many : tree_count ns ≡ tree_count ns₀
    labelled-many = sym (trees-length ns os) ∙ ap length kept-trees ∙ all-length _ _ (card_of ns₀ os).trees ∙ trees-length ns₀ os

    pub labelled-once : once_each same_name (card_of ns₀ os).trees ≡ true → once_each same_name (card_of ns os).trees ≡ true
    labelled-once once = ap (once_each same_name) kept-trees ∙ all_once _ _ (card_of ns₀ os).trees ∙ once

    module _ (h : p < label_count) where
      p-labels : length (take p (card_of ns₀ os).labels) ≡ p
      p-labels = length-take-le p (card_of ns₀ os).labels (rw labels_length (omega arith))

      -- no tree carries the next one
      pub labelled-alone : (j : ℕ) → j < tree_count ns → (tree_at j (card_of ns os)).label ≡ base_in ns + p → ⊥
      unfolding tree_at with_label
      labelled-alone j lt k =
          let b : ℕ = (card_of ns₀ os).base in
          let us : List Use = take p (card_of ns₀ os).labels in
          let t : Tree = get_or (card_of ns₀ os).trees j (bare []) in
          let many : j < length (card_of ns₀ os).trees = omega (arith, trees-length ns os, ap length kept-trees, all-length b us (card_of ns₀ os).trees) in
          let l : label_of b us t.name ≡ b + p = sym (ap (λ (s : Tree). s.label) (ap (λ (ts : List Tree). get_or ts j (bare [])) kept-trees ∙ all-get b us (card_of ns₀ os).trees j (bare []) many ∙ labelled-is b us t)) ∙ k ∙ ap (λ (n : ℕ). n + p) kept-base in
          by-test (ltb (place (is_mapped_for t.name) us) (length us))
          (λ x. let lt : place (is_mapped_for t.name) us < length us = ltb-true _ _ x in omega (arith, l, label-found b us t.name lt, p-labels))
          (λ x. omega (arith, l, base-low, label-missed b us t.name (ltb-false _ _ x)))

      use-at : get_or (card_of ns os).labels p free ≡ label_in ns os p
      unfolding card_of
      use-at = tab-get label_count (label_in ns os) p free h

      its-use : label_in ns os p ≡ get_or (card_of ns₀ os).labels p free
      its-use = sym use-at ∙ ap (λ (l : List Use). get_or l p free) kept-labels

      pub labelled-more : (ns' : List ℕ) → card_of ns' os ≡ with_trees (map (given (base_in ns + p) (label_in ns os p)) (card_of ns os).trees) (card_of ns os) → Labelled (p + 1) ns'
      unfolding with_trees
      labelled-more ns' k =
          let b : ℕ = (card_of ns₀ os).base in
          let us : List Use = take p (card_of ns₀ os).labels in
          let u : Use = get_or (card_of ns₀ os).labels p free in
          let more : us ++ (u ∷ []) ≡ take (p + 1) (card_of ns₀ os).labels = rw (add-one p) (sym (take-suc (card_of ns₀ os).labels p free (rw labels_length h))) in
          let step : map (given (b + p) u) (all_labelled b us (card_of ns₀ os).trees) ≡ all_labelled b (take (p + 1) (card_of ns₀ os).labels) (card_of ns₀ os).trees = rw (← more) (rw p-labels at (all-next b us u base-low (card_of ns₀ os).trees)) in
          k ∙ ap (λ (c : Card). with_trees (map (given (base_in ns + p) (label_in ns os p)) c.trees) c) e ∙ rw (kept-base, its-use) (ap (λ (ts : List Tree). with_trees ts (card_of ns₀ os)) step)

  pub labelled-all : (p : ℕ) (ns : List ℕ) → label_count ≤ p → Labelled p ns → card_of ns os ≡ with_trees (all_labelled (card_of ns₀ os).base (card_of ns₀ os).labels (card_of ns₀ os).trees) (card_of ns₀ os)
  labelled-all p ns h e = e ∙ ap (λ (us : List Use). with_trees (all_labelled (card_of ns₀ os).base us (card_of ns₀ os).trees) (card_of ns₀ os)) (take_all p (card_of ns₀ os).labels (rw labels_length h))

-- ---- all labels, after the routes and the trees

module _ (f : Form) (o : List ℕ) where
  pub rows-unlabelled : (c : Card) → c ≡ rows_read f o → Unlabelled c
  unfolding rows_read with_trees tree_at
  rows-unlabelled c e j lt = rw e (trees-bare f (get_or o 12 0) j (drop (trees_begin f o) o))

  -- no entry counts a tree yet
  none-counted : (n : ℕ) (rest : List ℕ) → all_worked_out [] (routes_read n rest) ≡ routes_read n rest
  unfolding all_worked_out routes_read route_read worked_out total
  none-counted zero rest = refl
  none-counted (suc n) rest = ap (λ (rs : List Route). route_read rest ∷ rs) (none-counted n (drop route_size rest))

  pub rows-uncounted : (c d t s : Card) (us : List Use) (ts : List Tree) (l : ℕ) → c ≡ rows_read f o → d ≡ with_labels us c → t ≡ with_trees ts d → s ≡ with_last l t
      → once_each same_root c.routes ≡ true → (once_each same_root s.routes ≡ true) × (all_worked_out [] s.routes ≡ s.routes)
  unfolding rows_read with_last with_labels with_trees with_routes
  rows-uncounted c d t s us ts l ec ed et es once =
      let k : s.routes ≡ c.routes = ap (λ (x : Card). x.routes) es ∙ ap (λ (x : Card). x.routes) et ∙ ap (λ (x : Card). x.routes) ed in
      let r : s.routes ≡ (rows_read f o).routes = k ∙ ap (λ (x : Card). x.routes) ec in
      (rw k once, rw r (none-counted (get_or o 11 0) (drop (head_size f) o)))

  -- the base that the head says
  pub base_kept : (c d : Card) (us : List Use) (ns os : List ℕ) (ts : List Tree) → c ≡ rows_read f o → d ≡ with_labels us c → card_of ns os ≡ with_trees ts d → four_at o 3 ≡ base_in ns
  unfolding rows_read head_read with_labels with_trees with_routes with_next fresh card_of
  base_kept c d us ns os ts ec ed et = sym (ap (λ (x : Card). x.base) et ∙ ap (λ (x : Card). x.base) ed ∙ ap (λ (x : Card). x.base) ec)

  pub table-whole : (n at : ℕ) (c d t s u : Card) → c ≡ rows_read f o → drop at o ≡ labels_begin f o
      → d ≡ with_labels (uses_read f c.base n (drop at o) c.labels) c → t ≡ with_trees (all_labelled d.base d.labels d.trees) d
      → n ≡ two_at o 13 → s ≡ with_last (last_in f o t.base t.labels) t → u ≡ counted s → u ≡ table_in f o
  unfolding counted table_in rows_read head_read trees_begin labels_begin with_last with_labels with_trees with_routes with_next fresh
  table-whole n at c d t s u ec ea ed et en es eu = rw (eu, es, et, ed, ec, en, ea) refl

  -- whether its trees hold a label for whom they are to, with the counts or without
  pub table-held : (s : Card) (r : Bool) → counted s ≡ table_in f o → r ≡ all (holds_right s) s.trees → r ≡ all (holds_right (table_in f o)) (table_in f o).trees
  table-held s r e h = h ∙ sym (held-counted s) ∙ ap (λ (x : Card). all (holds_right x) x.trees) e

-- ---- the highest label in use, from the block's end down

-- none is in use from place p on
abbrev pub NoneFrom : List ℕ → ℕ → Type 0
NoneFrom ns p = (q : ℕ) → p ≤ q → q < label_count → is_free_at ns q ≡ true

pub none_more : (ns : List ℕ) (p : ℕ) → 0 < p → NoneFrom ns p → is_free_at ns (p - 1) ≡ true → NoneFrom ns (p - 1)
none_more ns p some none f q lo hi =
    by-test (eqb q (p - 1))
    (λ e. rw (eqb-true q (p - 1) e) f)
    (λ e. let ne = eqb-false q (p - 1) e in none q (by-test (leb p q) (λ h. leb-true p q h) (λ h. let k = leb-false p q h in absurd (ne (omega arith)))) hi)

module _ (ns os : List ℕ) where
  at_place : (q : ℕ) → q < label_count → is_free (get_or (card_of ns os).labels q free) ≡ is_free_at ns q
  unfolding card_of
  at_place q h = ap is_free (tab-get label_count (label_in ns os) q free h) ∙ free_in ns q os

  pub used-highest : (p : ℕ) → 0 < p → p ≤ label_count → is_free_at ns (p - 1) ≡ false → NoneFrom ns p → label_before (base_in ns) p ≡ highest_used (base_in ns) (card_of ns os).labels
  used-highest p some few used none =
      let e : p - 1 + 1 ≡ p = omega arith in
      let before : label_before (base_in ns) p ≡ base_in ns + (p - 1) = rw e at (label-before (base_in ns) (p - 1) (omega arith)) in
      before ∙ sym (highest-is (base_in ns) (card_of ns os).labels (p - 1) (rw labels_length (omega arith)) (at_place (p - 1) (omega arith) ∙ used)
      (λ q lo hi. let k : q < label_count = rw labels_length at hi in at_place q k ∙ none q (omega arith) k))

  pub used-none : NoneFrom ns 0 → label_before (base_in ns) 0 ≡ highest_used (base_in ns) (card_of ns os).labels
  unfolding label_before
  used-none none = sym (highest-free (base_in ns) (card_of ns os).labels (λ q hi. let k : q < label_count = rw labels_length at hi in at_place q k ∙ none q (omega arith) k))

  pub settled_is : (f : Form) (o ms : List ℕ) (v : ℕ) → card_of ms os ≡ with_last (label_before (base_in ns) v) (card_of ns os) → label_before (base_in ns) v ≡ last_in f o (base_in ns) (card_of ns os).labels
      → card_of ms os ≡ with_last (last_in f o (card_of ns os).base (card_of ns os).labels) (card_of ns os)
  unfolding card_of
  settled_is f o ms v e h = e ∙ ap (λ (l : ℕ). with_last l (card_of ns os)) h

-- by the form
module _ (b : Bool) (o : List ℕ) (base : ℕ) (us : List Use) where
  pub turn-old : (v : ℕ) → b ≡ false → label_before base v ≡ highest_used base us → label_before base v ≡ last_in (form_of b) o base us
  unfolding form_of last_in
  turn-old v e h = rw e h

  pub turn-none : (l : ℕ) → b ≡ true → l ≡ four_at o last_place → l ≡ 0 → label_before base 0 ≡ last_in (form_of b) o base us
  unfolding form_of last_in label_before
  turn-none l e h z = rw e (sym z ∙ h)

  pub turn-some : (l n : ℕ) → b ≡ true → l ≡ four_at o last_place → n ≡ base → OfBlock base (four_at o last_place) → (l ≡ 0 → ⊥) → label_before base (l - n + 1) ≡ last_in (form_of b) o base us
  unfolding form_of last_in
  turn-some l n e h en range some =
      let p : (base ≤ l) × (l < base + label_count) = rw h (range (λ z. some (h ∙ z))) in
      let q : base + (l - n) ≡ l = omega arith in
      rw e (label-before base (l - n) (omega arith) ∙ q ∙ h)

-- what the head says is of the block of the memory that was read
pub block-kept : (b : Bool) (base l n : ℕ) → base ≡ n → (b ≡ true → OfBlock base l) → b ≡ true → OfBlock n l
block-kept b base l n e h k = subst (λ (m : ℕ). OfBlock m l) e (h k)
