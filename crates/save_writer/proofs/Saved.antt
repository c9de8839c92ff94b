-- The laws by which the writer of saves follows the definitions. Assumes nothing.
use Prim.Native.Nat.{ℕ, zero, suc, ◌+◌, ◌*◌, ◌-◌, ◌≤◌, ◌<◌}
use native.Mathlib.Omega.{arith}
use mathlib.Core.Path.{◌≡◌, refl, sym, ap, ap₂, ◌∙◌}
use mathlib.Core.Bool.{Bool, true, false}
use mathlib.Core.List.{List, ◌++◌, append_assoc}
use lib.ListN.{length, length-append}
use borrow.Author.Tests.{lt-ltb, le-ltb}
use Rattle.meaning.specs.Card.{Card, Use, is_free, tree_at, free_labels, label_count}
use Rattle.meaning_save.specs.Save.{Form, old, form_of, head_saved, route_saved, tree_saved, use_saved, routes_saved, trees_saved, uses_saved, saved, save, fits_save, head_size, route_size, tree_beside, use_beside, spaced_name}
use Rattle.meaning.specs.Events.{room_short, refuse}
use Rattle.meaning.specs.Calls.{over, Does}
use Rattle.meaning_laws.specs.SaveFields.{name_size, tree-length, use_record, use-length}
use Rattle.meaning_laws.specs.SaveLists.{routes-length, trees-length, trees-old, used-free, uses-length, uses-old}
use Rattle.octets.specs.Part.{mid, tab}
use Rattle.octets.proofs.Parts.{mid_none}
use Rattle.memory.specs.Memory.{card_of, base_in, route_count, tree_count, route_in, tree_in, label_in, label_name}
use Rattle.memory.proofs.Memory.{tree-at, routes-length as routes-count, trees-length as trees-count, labels_length}
use Rattle.memory.proofs.Trees.{branches-length}
use Rattle.memory.proofs.Marks.{by-use}
use Rattle.save_texts.specs.Laid.{laid}
use Rattle.save_texts.proofs.Parts.{laid-part, laid_then}
use Rattle.save_records.proofs.Rows.{joined, joined-more, joined-first, joined-ext, all-joined, Lot}
use Rattle.save_records.proofs.Sizes.{use-none}
use Rattle.meaning_laws.specs.SaveLaws.{head-length}

-- ---- rows

-- the labels' numbers rise
uses-joined : (g : Form) (n l : ℕ) (f : ℕ → Use) → uses_saved g l (tab n f) ≡ joined n (λ i. use_saved g (l + i) (f i))
unfolding uses_saved tab
uses-joined g zero l f = unfold joined in refl
uses-joined g (suc n) l f =
    let z : l + 0 ≡ l = omega arith in
    ap₂ ◌++◌ (ap (λ (k : ℕ). use_saved g k (f 0)) (sym z)) (uses-joined g n (suc l) (λ i. f (suc i)) ∙ joined-ext n _ _ (λ i h. let q : suc l + i ≡ l + suc i = omega arith in ap (λ (k : ℕ). use_saved g k (f (suc i))) q))
    ∙ sym (joined-first n (λ i. use_saved g (l + i) (f i)))

module _ (ns os : List ℕ) where
  abbrev pub route_row : ℕ → List ℕ
  route_row i = route_saved (route_in ns os i)

  pub routes-rows : routes_saved (card_of ns os).routes ≡ joined (route_count ns) route_row
  unfolding card_of routes_saved
  routes-rows = all-joined route_saved routes_saved refl (λ x xs. refl) (route_count ns) (route_in ns os)

  abbrev pub routes-lot : (at : ℕ) (xs : List ℕ) → at + length (routes_saved (card_of ns os).routes) ≤ length xs → Lot
  routes-lot at xs h = record { row = route_row; many = route_count ns; from = at; whole = routes_saved (card_of ns os).routes; out = xs; all = routes-rows; fits = h }

module _ (f : Form) (ns os : List ℕ) where
  abbrev pub tree_row : ℕ → List ℕ
  tree_row i = tree_saved f (tree_in ns os i)

  abbrev pub label_row : ℕ → List ℕ
  label_row p = use_saved f (base_in ns + p) (label_in ns os p)

  pub trees-rows : trees_saved f (card_of ns os).trees ≡ joined (tree_count ns) tree_row
  unfolding card_of trees_saved
  trees-rows = all-joined (tree_saved f) (trees_saved f) refl (λ x xs. refl) (tree_count ns) (tree_in ns os)

  pub labels-rows : uses_saved f (base_in ns) (card_of ns os).labels ≡ joined label_count label_row
  unfolding card_of
  labels-rows = uses-joined f label_count (base_in ns) (label_in ns os)

  module _ (at : ℕ) (xs : List ℕ) where
    abbrev pub trees-lot : at + length (trees_saved f (card_of ns os).trees) ≤ length xs → Lot
    trees-lot h = record { row = tree_row; many = tree_count ns; from = at; whole = trees_saved f (card_of ns os).trees; out = xs; all = trees-rows; fits = h }

    abbrev pub labels-lot : at + length (uses_saved f (base_in ns) (card_of ns os).labels) ≤ length xs → Lot
    labels-lot h = record { row = label_row; many = 256; from = at; whole = uses_saved f (base_in ns) (card_of ns os).labels; out = xs; all = labels-rows; fits = h }

-- ---- sizes

pub tree-size : (f : Form) (ns os : List ℕ) (i : ℕ) → i < tree_count ns → length (tree_row f ns os i) ≡ tree_beside + name_size f (tree_at i (card_of ns os)).name
tree-size f ns os i h = rw (sym (tree-at ns os i h)) (tree-length f (tree_at i (card_of ns os)) (branches-length ns os i h))

-- a label in use, or nothing
module _ (f : Form) (ns os : List ℕ) (p l : ℕ) where
  pub use-sized : is_free (label_in ns os p) ≡ false → length (use_saved f l (label_in ns os p)) ≡ use_beside + name_size f (label_name os p)
  unfolding use_saved is_free use_record
  use-sized e =
      by-use ns p os
      (λ k. let z : true ≡ false = rw k at e in cc)
      (λ n h k. rw k (use-length f l 1 n (label_name os p)))
      (λ n k. rw k (use-length f l 2 n (label_name os p)))

  module _ (at : ℕ) (xs : List ℕ) where
    pub label-skip : is_free (label_in ns os p) ≡ true → (xs ≡ laid at (use_saved f l (label_in ns os p)) xs) × (at ≡ at + length (use_saved f l (label_in ns os p)))
    label-skip e = rw (use-none f l (label_in ns os p) e) (mid_none at xs, omega arith)

    pub label-put : (n : ℕ) (r : List ℕ) → is_free (label_in ns os p) ≡ false → n ≡ use_beside + name_size f (label_name os p) → r ≡ use_saved f l (label_in ns os p)
        → (mid at (at + n - at) xs r ≡ laid at (use_saved f l (label_in ns os p)) xs) × (at + n ≡ at + length (use_saved f l (label_in ns os p)))
    label-put n r e en er =
        let k : length (use_saved f l (label_in ns os p)) ≡ n = use-sized e ∙ sym en in
        let q : at + n - at ≡ length (use_saved f l (label_in ns os p)) = omega arith in
        (rw (er, q) refl, omega arith)

  pub label-none : is_free (label_in ns os p) ≡ true → 0 ≡ length (use_saved f l (label_in ns os p))
  label-none e = rw (use-none f l (label_in ns os p) e) refl

-- the sum of the sizes so far
pub sum-none : (g : ℕ → List ℕ) → 0 ≡ length (joined 0 g)
unfolding joined
sum-none g = refl

pub sum_more : (g : ℕ → List ℕ) (i total n : ℕ) → total ≡ length (joined i g) → n ≡ length (g i) → total + n ≡ length (joined (i + 1) g)
sum_more g i total n e k = rw (joined-more i g) (omega (arith, length-append (joined i g) (g i)))

pub sum_done : (g : ℕ → List ℕ) (i n total : ℕ) (whole : List ℕ) → whole ≡ joined n g → i ≤ n → n ≤ i → total ≡ length (joined i g) → total ≡ length whole
sum_done g i n total whole e h k s = let z : i ≡ n = omega arith in rw (e, ← z) s

-- in the old form all records of a kind have one size
module _ (ns os : List ℕ) where
  pub spaced-labels : (n : ℕ) → n ≡ free_labels (card_of ns os) → (label_count - n) * (use_beside + spaced_name) ≡ length (uses_saved old (base_in ns) (card_of ns os).labels)
  unfolding free_labels
  spaced-labels n e =
      let us = (card_of ns os).labels in
      omega (arith, uses-length old (base_in ns) us, uses-old us, used-free us, labels_length ns os)

  pub spaced-trees : (b : Bool) (n : ℕ) → b ≡ false → n ≡ tree_count ns → n * (tree_beside + spaced_name) ≡ length (trees_saved (form_of b) (card_of ns os).trees)
  unfolding form_of tree_at
  spaced-trees b n eb e =
      let ts = (card_of ns os).trees in
      let m : length ts ≡ tree_count ns = trees-count ns os in
      rw eb (omega (arith, trees-length old ts (λ i h. branches-length ns os i (omega arith)), trees-old ts))

pub labels-old : (b : Bool) (l r : ℕ) (us : List Use) → b ≡ false → r ≡ length (uses_saved old l us) → r ≡ length (uses_saved (form_of b) l us)
unfolding form_of
labels-old b l r us e h = rw e h

-- ---- the whole save: the head, and three lots of rows

fields-length : (f : Form) (c : Card) → length (saved f c) ≡ head_size f + (length (routes_saved c.routes) + (length (trees_saved f c.trees) + length (uses_saved f c.base c.labels)))
unfolding saved
fields-length f c = simp length-append (omega (arith, head-length f c))

pub parts-length : (f : Form) (ns os : List ℕ) → length (saved f (card_of ns os))
    ≡ head_size f + (length (routes_saved (card_of ns os).routes) + (length (trees_saved f (card_of ns os).trees) + length (uses_saved f (base_in ns) (card_of ns os).labels)))
parts-length f ns os = fields-length f (card_of ns os) ∙ unfold card_of in refl

pub saved-size : (f : Form) (ns os : List ℕ) (h r t u : ℕ) → h ≡ head_size f → r ≡ route_count ns → t ≡ length (trees_saved f (card_of ns os).trees) → u ≡ length (uses_saved f (base_in ns) (card_of ns os).labels) → h + r * route_size + t + u ≡ length (saved f (card_of ns os))
saved-size f ns os h r t u eh er et eu = omega (arith, parts-length f ns os, routes-length (card_of ns os).routes, routes-count ns os)

module _ (f : Form) (ns os xs : List ℕ) (fits : length (saved f (card_of ns os)) ≤ length xs) where
  pub parts-laid : (hs us vs ws : List ℕ) (h z a b r : ℕ) → h ≡ head_size f → z ≡ h → hs ≡ head_saved f (card_of ns os)
      → (us ≡ laid h (routes_saved (card_of ns os).routes) (mid 0 z xs hs)) × (a ≡ h + length (routes_saved (card_of ns os).routes))
      → (vs ≡ laid a (trees_saved f (card_of ns os).trees) us) × (b ≡ a + length (trees_saved f (card_of ns os).trees))
      → (ws ≡ laid b (uses_saved f (base_in ns) (card_of ns os).labels) vs) × (r ≡ b + length (uses_saved f (base_in ns) (card_of ns os).labels))
      → (ws ≡ over (saved f (card_of ns os)) xs) × (r ≡ length (saved f (card_of ns os)))
  parts-laid hs us vs ws h z a b r en ez eh eu ev ew =
      let c = card_of ns os in
      let head = head_saved f c in
      let rs = routes_saved c.routes in
      let ts = trees_saved f c.trees in
      let ls = uses_saved f (base_in ns) c.labels in
      let n : length head ≡ h = head-length f c ∙ sym en in
      let all : length (saved f c) ≡ head_size f + (length rs + (length ts + length ls)) = parts-length f ns os in
      let x0 : mid 0 z xs hs ≡ laid 0 head xs = ap₂ (λ (k : ℕ) (o : List ℕ). mid 0 k xs o) ez eh ∙ laid-part 0 h head xs n in
      let l1 : length (head ++ rs) ≡ length head + length rs = length-append head rs in
      let x1 : us ≡ laid 0 (head ++ rs) xs = eu.0 ∙ laid_then 0 h (length rs) head rs xs (mid 0 z xs hs) (omega arith) x0 (omega arith) refl in
      let l2 : length ((head ++ rs) ++ ts) ≡ length (head ++ rs) + length ts = length-append (head ++ rs) ts in
      let x2 : vs ≡ laid 0 ((head ++ rs) ++ ts) xs = ev.0 ∙ laid_then 0 a (length ts) (head ++ rs) ts xs us (omega arith) x1 (omega arith) refl in
      let x3 : ws ≡ laid 0 (((head ++ rs) ++ ts) ++ ls) xs = ew.0 ∙ laid_then 0 b (length ls) ((head ++ rs) ++ ts) ls xs vs (omega arith) x2 (omega arith) refl in
      let g : ((head ++ rs) ++ ts) ++ ls ≡ saved f c = append_assoc (head ++ rs) ts ls ∙ append_assoc head rs (ts ++ ls) ∙ unfold saved card_of in refl in
      (x3 ∙ ap (λ (w : List ℕ). laid 0 w xs) g ∙ unfold over in refl, omega arith)

-- ---- the call

module _ (f : Form) (c : Card) (out : List ℕ) (n : ℕ) (size : n ≡ length (saved f c)) where
  pub does-short : fits_save f c ≡ true → length out < n → Does (save f (length out) c) 16 0 out out c
  unfolding save room_short refuse over
  does-short s h = rw (s, lt-ltb (length out) (length (saved f c)) (omega arith)) (record { answers = refl; counts = refl; writes = refl; leaves = refl })

  pub does-save : fits_save f c ≡ true → n ≤ length out → (out' : List ℕ) (r : ℕ) → (out' ≡ over (saved f c) out) × (r ≡ length (saved f c)) → Does (save f (length out) c) 0 r out out' c
  unfolding save room_short
  does-save s h out' r e = rw (s, le-ltb (length out) (length (saved f c)) (omega arith)) (record { answers = refl; counts = e.1; writes = e.0; leaves = refl })

pub does-long : (f : Form) (c : Card) (out : List ℕ) → fits_save f c ≡ false → Does (save f (length out) c) 19 0 out out c
unfolding save refuse over
does-long f c out s = rw s (record { answers = refl; counts = refl; writes = refl; leaves = refl })
