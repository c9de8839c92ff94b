-- What is read of the labels in the memory, and what a change of one leaves, as laws of the card that it denotes. Assumes nothing.
use Prim.Native.Nat.{ℕ, ◌+◌, ◌*◌, ◌-◌, ◌/◌, ◌%◌, ◌^◌, ◌≤◌, ◌<◌}
use native.Mathlib.Omega.{arith}
use mathlib.Core.Path.{◌≡◌, refl, sym, ◌∙◌}
use mathlib.Core.Bool.{Bool, true, false}
use mathlib.Core.List.{List}
use lib.ListN.{drop, get_or, set}
use lib.Dec.{ltb}
use lib.Count.{ones, ones-le}
use borrow.Author.Tests.{ltb-true, ltb-false, le-leb, lt-leb, eq-eqb, ne_eqb}
use Rattle.meaning.specs.Octets.{count, same}
use Rattle.meaning.specs.Lists.{by-test, get_d-out, never}
use Rattle.meaning.specs.Card.{Tree, Use, with_trees, free, with_labels, is_free, is_awaiting, mapped_to, use_of, free_labels, mapped, awaiting, tree_limit, label_count, neighbour_count, nobody}
use Rattle.meaning.specs.Events.{set_use}
use Rattle.octets.specs.Part.{tab}
use Rattle.octets.proofs.Tab.{tab-length, tab-get, tab-ext, tab-set, count_none}
use Rattle.octets.proofs.Bits.{Says, count_word, all_set}
use Rattle.memory.specs.Sizes.{name_space, own_column, word_count, root_octets, label_names, root_names}
use Rattle.memory.specs.Memory.{base_in, next_in, route_count, tree_count, route_in, word_at, is_free_at, mark_at, mark_use, is_mapped_at, label_in, own_place, carries_at, tree_in, label_name, card_of, Relabelled, InBlock, last_in}
use Rattle.memory.proofs.Memory.{tree_count-le, base_same, next-same, routes-same, tree-same, label_same, agree_refl, last-same}
use Rattle.memory.proofs.Marks.{mapped_at, mapped-use, unmapped-free, unmapped-above, label-free, label-mapped, label-awaiting, free_in, not-mapped, own-beside}

-- ---- labels

-- what a label is used for: of the block, and outside it

pub use-in : (ns os : List ℕ) (label p : ℕ) → label ≡ base_in ns + p → p < label_count → use_of label (card_of ns os) ≡ label_in ns os p
unfolding use_of card_of
use-in ns os label p e h =
    let q : label - base_in ns ≡ p = omega arith in
    rw (le-leb (base_in ns) label (omega arith), q) (tab-get label_count (label_in ns os) p free h)

-- the neighbour to which the label at a place is mapped
module _ (ns : List ℕ) (p : ℕ) where
  abbrev pub MapsTo : ℕ → Type 0
  MapsTo r = ((os : List ℕ) → r ≡ mapped_to (label_in ns os p)) × (r ≤ nobody) × (r ≡ nobody → is_mapped_at ns p ≡ false) × ((r ≡ nobody → ⊥) → is_mapped_at ns p ≡ true)

  pub maps-free : is_free_at ns p ≡ true → MapsTo nobody
  unfolding mapped_to
  maps-free e = ((λ os. rw (label-free ns p os e) refl), omega arith, (λ _. unmapped-free ns p e), (λ ne. absurd (ne refl)))

  pub maps-some : is_free_at ns p ≡ false → mark_use (mark_at ns p) < neighbour_count → MapsTo (mark_use (mark_at ns p))
  unfolding mapped_to
  maps-some e h = ((λ os. rw (label-mapped ns p os e h) refl), omega arith, (λ q. absurd (omega arith)), (λ _. mapped_at ns p e h))

  pub maps-other : is_free_at ns p ≡ false → neighbour_count ≤ mark_use (mark_at ns p) → MapsTo nobody
  unfolding mapped_to
  maps-other e h = ((λ os. rw (label-awaiting ns p os e h) refl), omega arith, (λ _. unmapped-above ns p h), (λ ne. absurd (ne refl)))

-- whether the label at a place awaits release
module _ (ns os : List ℕ) (p n : ℕ) (a : List ℕ) where
  awaiting-free : is_free_at ns p ≡ true → is_awaiting n a (label_in ns os p) ≡ false
  unfolding is_awaiting
  awaiting-free e = rw (label-free ns p os e) refl

  awaiting-this : is_free_at ns p ≡ false → n < neighbour_count → mark_use (mark_at ns p) ≡ neighbour_count + n → is_awaiting n a (label_in ns os p) ≡ same (label_name os p) a
  unfolding is_awaiting
  awaiting-this t h e =
      let q : mark_use (mark_at ns p) - 16 ≡ n = omega arith in
      rw (label-awaiting ns p os t (omega arith)) (rw (eq-eqb (mark_use (mark_at ns p) - neighbour_count) n q) refl)

  awaiting-not : (mark_use (mark_at ns p) ≡ neighbour_count + n → ⊥) → is_awaiting n a (label_in ns os p) ≡ false
  unfolding is_awaiting
  awaiting-not ne =
      by-test (is_free_at ns p)
      (λ e. rw (label-free ns p os e) refl)
      (λ e.
      by-test (ltb (mark_use (mark_at ns p)) neighbour_count)
      (λ t. rw (label-mapped ns p os e (ltb-true _ _ t)) refl)
      (λ t.
      let k : neighbour_count ≤ mark_use (mark_at ns p) = ltb-false _ _ t in
      rw (label-awaiting ns p os e k) (rw (ne_eqb (mark_use (mark_at ns p) - neighbour_count) n (λ q. ne (omega arith))) refl)))

-- a label of any number: its place in the block
module _ (ns : List ℕ) (label b : ℕ) (e : b ≡ base_in ns) where
  pub block-under : (p : ℕ) → label < b → label_count ≤ p → InBlock ns label p
  block-under p h far = record {
    inside = λ k. absurd (omega arith);
    outside = λ _ os. unfold use_of card_of in rw (lt-leb (base_in ns) label (rw e at h)) refl;
  }

  pub block-from : b ≤ label → InBlock ns label (label - b)
  block-from h = record {
    inside = λ _. omega arith;
    outside = λ k os. unfold use_of card_of in rw (le-leb (base_in ns) label (rw e at h)) (get_d-out (tab label_count (label_in ns os)) (label - base_in ns) free (rw tab-length (rw e at k)));
  }

-- and what it is used for
module _ (ns os : List ℕ) (label p : ℕ) (r : InBlock ns label p) where
  pub use-at : p < label_count → use_of label (card_of ns os) ≡ label_in ns os p
  use-at h = use-in ns os label p (r.inside h) h

  pub maps-out : label_count ≤ p → nobody ≡ mapped_to (use_of label (card_of ns os))
  unfolding mapped_to
  maps-out h = rw (r.outside h os) refl

  -- whether it awaits release

  abbrev pub Awaits : ℕ → List ℕ → Bool → Type 0
  Awaits n a r = (r ≡ is_awaiting n a (use_of label (card_of ns os))) × (r ≡ true → (base_in ns ≤ label) × (label < base_in ns + label_count) × (is_mapped_at ns (label - base_in ns) ≡ false))

  pub awaits-out : (n : ℕ) (a : List ℕ) → label_count ≤ p → Awaits n a false
  unfolding is_awaiting
  awaits-out n a h = (rw (r.outside h os) refl, λ z. absurd (never z))

  pub awaits-free : (n : ℕ) (a : List ℕ) → p < label_count → is_free_at ns p ≡ true → Awaits n a false
  awaits-free n a h f = (rw (use-at h) (sym (awaiting-free ns os p n a f)), λ z. absurd (never z))

  pub awaits-not : (n : ℕ) (a : List ℕ) → p < label_count → (mark_use (mark_at ns p) ≡ neighbour_count + n → ⊥) → Awaits n a false
  awaits-not n a h ne = (rw (use-at h) (sym (awaiting-not ns os p n a ne)), λ z. absurd (never z))

  pub awaits-same : (n : ℕ) (a : List ℕ) (b : Bool) → p < label_count → is_free_at ns p ≡ false → n < neighbour_count → mark_use (mark_at ns p) ≡ neighbour_count + n → b ≡ same (label_name os p) a → Awaits n a b
  awaits-same n a b h t n16 m s =
      let at : label ≡ base_in ns + p = r.inside h in
      let back : label - base_in ns ≡ p = omega arith in
      (rw (use-at h) (s ∙ sym (awaiting-this ns os p n a t n16 m)), λ z. (omega arith, omega arith, rw back (unmapped-above ns p (omega arith))))

-- all labels, from the front

pub count-start : (ns os : List ℕ) → free_labels (card_of ns os) ≡ 0 + count is_free (drop 0 (tab label_count (label_in ns os)))
unfolding free_labels card_of
count-start ns os = omega arith

-- by words: each says which of its 64 labels are free; with all its bits set, all are

pub word-free : (ns : List ℕ) (w : ℕ) → word_at ns w ≡ 18446744073709551615 → (p : ℕ) → p / 64 ≡ w → is_free_at ns p ≡ true
unfolding is_free_at
word-free ns w h p e = rw (e, h) (all_set (p % 64) (omega arith))

pub says : (ns os : List ℕ) (w : ℕ) → w < word_count → Says is_free label_count (label_in ns os) 64 (w * 64) (word_at ns w)
unfolding is_free_at
says ns os w h j lt =
    let q : (w * 64 + j) / 64 ≡ w = omega arith in
    let m : (w * 64 + j) % 64 ≡ j = omega arith in
    free_in ns (w * 64 + j) os ∙ rw (q, m) refl

-- the ones of the four words
pub few-in : (ns : List ℕ) → ((w : ℕ) → word_at ns w < 2 ^ 64) → (w : ℕ) → ones (word_at ns w) ≤ 64
few-in ns l w = ones-le 64 (word_at ns w) (l w)

pub counted : (ns os : List ℕ) → ((w : ℕ) → word_at ns w < 2 ^ 64) → ones (word_at ns 0) + ones (word_at ns 1) + ones (word_at ns 2) + ones (word_at ns 3) ≡ free_labels (card_of ns os)
counted ns os l =
    let z : 0 + ones (word_at ns 0) ≡ ones (word_at ns 0) = omega arith in
    sym (count-start ns os ∙ word 0 0 (omega arith) ∙ rw z (word 1 _ (omega arith) ∙ word 2 _ (omega arith) ∙ word 3 _ (omega arith) ∙ count_none is_free 256 (label_in ns os) 256 _ (omega arith)))
  where
    word : (w k : ℕ) → w < word_count → k + count is_free (drop (w * 64) (tab label_count (label_in ns os))) ≡ k + ones (word_at ns w) + count is_free (drop (w * 64 + 64) (tab label_count (label_in ns os)))
    word w k h = count_word is_free label_count (label_in ns os) 64 (w * 64) (word_at ns w) k (omega arith) (l w) (says ns os w h)

-- ---- one label anew

module _ (ns ms os : List ℕ) (p : ℕ) (h : p < label_count) (label : ℕ) (e : label ≡ base_in ns + p) (r : Relabelled p ns ms) where
  -- with the label's use and the trees, as they are then
  pub relabelled : (u : Use) (ts : List Tree) → label_in ms os p ≡ u → tab (tree_count ns) (tree_in ms os) ≡ ts → card_of ms os ≡ with_trees ts (set_use label u (card_of ns os))
  unfolding card_of with_trees set_use with_labels tree_count
  relabelled u ts eu et =
      let q : label - base_in ns ≡ p = omega arith in
      let n : get_or ms 3 0 ≡ get_or ns 3 0 = r.rest 3 (omega arith) in
      let b : base_in ms ≡ base_in ns = base_same ns ms os os (λ j x y. r.rest j (omega arith)) in
      let i : next_in ms ≡ next_in ns = next-same ns ms os os (λ j x y. r.rest j (omega arith)) in
      let given : last_in ms ≡ last_in ns = last-same ns ms os os (λ j x y. r.rest j (omega arith)) (λ j x y. r.rest j (omega arith)) in
      let rs : tab (route_count ms) (route_in ms os) ≡ tab (route_count ns) (route_in ns os) = routes-same ns ms os os (λ j x y. r.rest j (omega arith)) (λ j x y. r.rest j (omega arith)) (agree_refl root_names root_octets os) in
      let ls : tab label_count (label_in ms os) ≡ set (tab label_count (label_in ns os)) p u =
      tab-set label_count (label_in ns os) (label_in ms os) p u h eu (λ j ne lt. label_same ns ms os os j (r.marks j lt ne) (r.frees j lt ne) (agree_refl (label_names + j * name_space) name_space os)) in
      cc

  -- a tree whose label it is not
  pub beside : (j : ℕ) → j < tree_limit → (own_place ns j ≡ p → (carries_at ns j p ≡ false) × (carries_at ms j p ≡ false)) → tree_in ms os j ≡ tree_in ns os j
  beside j j64 f =
      let o : own_place ms j ≡ own_place ns j = r.rest (own_column + j) (omega arith) in
      tree-same ns ms os os j
      (rw o (own-beside ns ms p j (own_place ns j) r (λ q. rw q (f q))))
      (λ k x y. r.rest k (omega arith))
      (agree_refl (j * name_space) name_space os)

pub free-label : (ns ms os : List ℕ) (label b : ℕ) → b ≡ base_in ns → b ≤ label → label < b + label_count → is_mapped_at ns (label - b) ≡ false
    → Relabelled (label - b) ns ms → is_free_at ms (label - b) ≡ true → card_of ms os ≡ set_use label free (card_of ns os)
free-label ns ms os label b e low high m r now =
    relabelled ns ms os p h label e' r free (card_of ns os).trees (label-free ms p os now)
    (unfold card_of in tab-ext (tree_count ns) (tree_in ms os) (tree_in ns os) (λ j lt. beside ns ms os p h label e' r j (omega (arith, tree_count-le ns)) (λ _. (not-mapped ns j p m, not-mapped ms j p (unmapped-free ms p now)))))
    ∙ unfold card_of with_trees set_use with_labels in refl
  where
    p : ℕ
    p = label - b

    h : p < label_count
    h = omega arith

    e' : label ≡ base_in ns + p
    e' = omega arith

-- ---- a mapped label, and one that is neither free nor mapped

module _ (ns : List ℕ) (p : ℕ) (os : List ℕ) where
  pub mapped-is : is_mapped_at ns p ≡ true → label_in ns os p ≡ mapped (mapped_to (label_in ns os p)) (label_name os p)
  unfolding mapped_to
  mapped-is m = let u = mapped-use ns p m in rw (label-mapped ns p os u.0 u.1) refl

  pub awaits-use : is_free_at ns p ≡ false → is_mapped_at ns p ≡ false → neighbour_count ≤ mark_use (mark_at ns p)
  awaits-use e m =
      by-test (ltb (mark_use (mark_at ns p)) neighbour_count)
      (λ t. absurd (let z : ◌≡◌ {A = Bool} false true = sym m ∙ mapped_at ns p e (ltb-true _ _ t) in let z' : ◌≡◌ {A = ℕ} 0 1 = cc in omega arith))
      (λ t. ltb-false _ _ t)

  pub awaited-is : is_free_at ns p ≡ false → is_mapped_at ns p ≡ false → label_in ns os p ≡ awaiting (mark_use (mark_at ns p) - neighbour_count) (label_name os p)
  awaited-is e m = label-awaiting ns p os e (awaits-use e m)
