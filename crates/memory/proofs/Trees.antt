-- What is read of the trees in the memory, and what a change of one leaves, as laws of the card that it denotes. Assumes nothing.
use Prim.Native.Nat.{ℕ, ◌+◌, ◌*◌, ◌-◌, ◌≤◌, ◌<◌}
use native.Mathlib.Omega.{arith}
use mathlib.Core.Path.{◌≡◌, refl, sym, ap, ◌∙◌}
use mathlib.Core.Bool.{Bool, true, false, not}
use mathlib.Core.List.{List}
use lib.ListN.{length, drop, get_or, set}
use lib.Seq.{get_or-set_same, get_or-set_other}
use lib.Dec.{eqb}
use borrow.Author.Tests.{eq-eqb, ne_eqb}
use Rattle.meaning.specs.Octets.{place, same}
use Rattle.meaning.specs.Lists.{by-test, never}
use Rattle.meaning.specs.Card.{Tree, with_trees, with_branch, with_leaf, with_label, tree_at, named, tree_place, with_labels, mapped_to, use_of, held_for, carries, tree_limit, label_count, neighbour_count, nobody}
use Rattle.meaning.specs.Events.{set_label, set_use, ended}
use Rattle.octets.specs.Part.{tab}
use Rattle.octets.proofs.Tab.{tab-length, tab-get, tab-ext, tab-set, place-start, place-past, place-hit, place_none}
use Rattle.memory.specs.Sizes.{name_space, own_column, row_width, row_column, branch_column, mark_column, label_numbers, Numbers}
use Rattle.memory.specs.Memory.{tree_name, base_in, tree_count, is_free_at, mark_at, mark_use, mark_place, is_mapped_at, label_in, own_place, carries_at, own_label, tree_in, card_of, Relabelled}
use Rattle.memory.proofs.Memory.{tree_count-le, base-range, own-kept, tree_with, tree-same, agree_refl, agree-set, tree-at}
use Rattle.memory.proofs.Marks.{mapped-use, unmapped-above, label-mapped, label-awaiting, remarked, remarked-free, carried-in, carried-out, not-mapped, not_named, own-some, own-none}
use Rattle.memory.proofs.Labels.{use-in, block-under, maps-out, relabelled, beside}
use Rattle.memory.proofs.Head.{base-away, next-away, routes-away, labels-away, last-away}

-- ---- what a tree's numbers say

module _ (ns os : List ℕ) (i : ℕ) (h : i < tree_count ns) where
  pub label_at : (tree_at i (card_of ns os)).label ≡ own_label ns i (own_place ns i)
  unfolding tree_in
  label_at = ap (λ (t : Tree). t.label) (tree-at ns os i h)

  pub label-some : (b : ℕ) → b ≡ base_in ns → carries_at ns i (own_place ns i) ≡ true → b + own_place ns i ≡ (tree_at i (card_of ns os)).label
  label-some b e c = rw (label_at, own-some ns i (own_place ns i) c, e) refl

  pub label-none : carries_at ns i (own_place ns i) ≡ false → 0 ≡ (tree_at i (card_of ns os)).label
  label-none c = rw (label_at, own-none ns i (own_place ns i) c) refl

  pub label-carried : ((tree_at i (card_of ns os)).label ≡ 0 → ⊥) → carries_at ns i (own_place ns i) ≡ true
  label-carried ne = by-test (carries_at ns i (own_place ns i)) (λ t. t) (λ t. absurd (ne (sym (label-none t))))

  pub leaf-at : not (eqb (get_or ns (row_column + i * row_width) 0) 0) ≡ (tree_at i (card_of ns os)).leaf
  unfolding tree_in
  leaf-at = sym (ap (λ (t : Tree). t.leaf) (tree-at ns os i h))

  pub branches_at : (tree_at i (card_of ns os)).branches ≡ tab 16 (λ n. get_or ns (branch_column + i * row_width + n) 0)
  unfolding tree_in
  branches_at = ap (λ (t : Tree). t.branches) (tree-at ns os i h)

  pub branches-length : length (tree_at i (card_of ns os)).branches ≡ neighbour_count
  branches-length = rw branches_at (tab-length 16 (λ n. get_or ns (branch_column + i * row_width + n) 0))

  pub branch-at : (n : ℕ) → n < neighbour_count → get_or ns (branch_column + i * row_width + n) 0 ≡ get_or (tree_at i (card_of ns os)).branches n 0
  branch-at n k = rw branches_at (sym (tab-get 16 (λ m. get_or ns (branch_column + i * row_width + m) 0) n 0 k))

  pub name-at : (tree_at i (card_of ns os)).name ≡ tree_name os i
  unfolding tree_in
  name-at = ap (λ (t : Tree). t.name) (tree-at ns os i h)

-- ---- trees by name

pub trees-start : (a ns os : List ℕ) (n : ℕ) → n ≡ tree_count ns → tree_place a (card_of ns os) ≡ 0 + place (named a) (drop 0 (tab n (tree_in ns os)))
unfolding tree_place card_of
trees-start a ns os n e = rw e (omega arith)

pub named-at : (a ns os : List ℕ) (i : ℕ) (n : List ℕ) → n ≡ tree_name os i → named a (tree_in ns os i) ≡ same n a
unfolding named tree_in
named-at a ns os i n e = rw e refl

-- ---- one number of a tree anew

module _ (ns os : List ℕ) (i : ℕ) (l : Numbers ns) (h : i < tree_count ns) (i64 : i < tree_limit) where
  -- the labels that trees carry are as they were
  row-own : (k v j : ℕ) → row_column + i * row_width ≤ k → k < row_column + i * row_width + row_width → j < tree_limit → own_label (set ns k v) j (own_place (set ns k v) j) ≡ own_label ns j (own_place ns j)
  row-own k v j low high j64 =
      own-kept ns (set ns k v) os os j
      (agree-set 0 1 ns k v (λ a b. omega arith))
      (agree-set (own_column + j) 1 ns k v (λ a b. omega arith))
      (agree-set mark_column label_numbers ns k v (λ a b. omega arith))

  -- at a place k of its row
  tree_set : (k v : ℕ) (t : Tree) → row_column + i * row_width ≤ k → k < row_column + i * row_width + row_width → tree_in (set ns k v) os i ≡ t
      → card_of (set ns k v) os ≡ with_trees (set (card_of ns os).trees i t) (card_of ns os)
  unfolding card_of with_trees tree_count
  tree_set k v t low high e =
      let n : get_or (set ns k v) 3 0 ≡ get_or ns 3 0 = get_or-set_other ns k 3 v 0 (λ q. omega arith) in
      let ts : tab (tree_count ns) (tree_in (set ns k v) os) ≡ set (tab (tree_count ns) (tree_in ns os)) i t =
      tab-set (tree_count ns) (tree_in ns os) (tree_in (set ns k v) os) i t h e (λ j ne lt.
      tree-same ns (set ns k v) os os j
      (row-own k v j low high (omega (arith, tree_count-le ns)))
      (agree-set (row_column + j * row_width) row_width ns k v (λ a b. ne (omega arith)))
      (agree_refl (j * name_space) name_space os)) in
      cc (base-away ns os k v (omega arith), next-away ns os k v (omega arith), last-away ns os k v (omega arith) (λ e. omega arith), routes-away ns os k v (λ a b. omega arith), labels-away ns os k v (omega arith))

  pub set-branch : (n v : ℕ) → n < neighbour_count
      → card_of (set ns (branch_column + i * row_width + n) v) os ≡ with_trees (set (card_of ns os).trees i (with_branch n v (tree_at i (card_of ns os)))) (card_of ns os)
  unfolding tree_in with_branch
  set-branch n v n16 =
      let k : ℕ = branch_column + i * row_width + n in
      let bs : tab 16 (λ m. get_or (set ns k v) (branch_column + i * row_width + m) 0) ≡ set (tab 16 (λ m. get_or ns (branch_column + i * row_width + m) 0)) n v =
      tab-set 16 _ _ n v n16 (get_or-set_same ns k v 0 (omega arith)) (λ m ne lt. get_or-set_other ns k (branch_column + i * row_width + m) v 0 (λ q. ne (omega arith))) in
      let f : get_or (set ns k v) (row_column + i * row_width) 0 ≡ get_or ns (row_column + i * row_width) 0 = get_or-set_other ns k (row_column + i * row_width) v 0 (λ q. omega arith) in
      let o = row-own k v i (omega arith) (omega arith) i64 in
      rw (tree-at ns os i h) (tree_set k v _ (omega arith) (omega arith) (cc))

  row-away : (k v : ℕ) → k < branch_column + i * row_width → tab 16 (λ m. get_or (set ns k v) (branch_column + i * row_width + m) 0) ≡ tab 16 (λ m. get_or ns (branch_column + i * row_width + m) 0)
  row-away k v low = tab-ext 16 _ _ (λ m lt. get_or-set_other ns k (branch_column + i * row_width + m) v 0 (λ q. omega arith))

  pub set-leaf : (v : ℕ) (f : Bool) → not (eqb v 0) ≡ f
      → card_of (set ns (row_column + i * row_width) v) os ≡ with_trees (set (card_of ns os).trees i (with_leaf f (tree_at i (card_of ns os)))) (card_of ns os)
  unfolding tree_in with_leaf
  set-leaf v f e =
      let k : ℕ = row_column + i * row_width in
      let bs = row-away k v (omega arith) in
      let g : get_or (set ns k v) k 0 ≡ v = get_or-set_same ns k v 0 (omega arith) in
      let o = row-own k v i (omega arith) (omega arith) i64 in
      rw (tree-at ns os i h) (tree_set k v _ (omega arith) (omega arith) (cc))

-- the neighbour for which a tree holds its label
module _ (ns os : List ℕ) (i : ℕ) (h : i < tree_count ns) where
  pub held-some : (r : ℕ) → carries_at ns i (own_place ns i) ≡ true → r ≡ mapped_to (label_in ns os (own_place ns i)) → r ≡ held_for (card_of ns os) (tree_at i (card_of ns os))
  unfolding held_for
  held-some r c e =
      let own : (tree_at i (card_of ns os)).label ≡ base_in ns + own_place ns i = sym (label-some ns os i h (base_in ns) refl c) in
      e ∙ ap mapped_to (sym (use-in ns os (tree_at i (card_of ns os)).label (own_place ns i) own (carried-out ns i (own_place ns i) c).0))

  pub held_none : carries_at ns i (own_place ns i) ≡ false → nobody ≡ held_for (card_of ns os) (tree_at i (card_of ns os))
  unfolding held_for
  held_none c = rw (← label-none ns os i h c) (maps-out ns os 0 label_count (block-under ns 0 (base_in ns) refl label_count (omega (arith, base-range ns)) (omega arith)) (omega arith))

-- ---- the tree that carries a label

module _ (ns os : List ℕ) (label p : ℕ) (h : p < label_count) (e : label ≡ base_in ns + p) where
  carries-this : (i : ℕ) → own_place ns i ≡ p → carries_at ns i p ≡ true → carries label (tree_in ns os i) ≡ true
  unfolding carries tree_in
  carries-this i o c = rw (o, own-some ns i p c) (eq-eqb (base_in ns + p) label (sym e))

  carries-not : (i : ℕ) → (own_place ns i ≡ p → carries_at ns i p ≡ true → ⊥) → carries label (tree_in ns os i) ≡ false
  unfolding carries tree_in
  carries-not i f =
      by-test (carries_at ns i (own_place ns i))
      (λ t. rw (own-some ns i (own_place ns i) t) (ne_eqb (base_in ns + own_place ns i) label (λ q. let o : own_place ns i ≡ p = omega arith in f o (rw o at t))))
      (λ t. rw (own-none ns i (own_place ns i) t) (ne_eqb 0 label (λ q. omega (arith, base-range ns))))

  abbrev pub Carrier : ℕ → Type 0
  Carrier r = r ≡ place (carries label) (card_of ns os).trees

  -- the tree that the mark names, where it has the label for its own
  pub carrier-named : (n i : ℕ) → n ≡ tree_count ns → i < n → is_mapped_at ns p ≡ true → mark_place (mark_at ns p) ≡ i → own_place ns i ≡ p → Carrier i
  unfolding card_of
  carrier-named n i en lt m q o =
      rw (← en) (sym (place-start (carries label) (tab n (tree_in ns os)) ∙ place-past (carries label) n (tree_in ns os) 0 i (omega arith) (omega arith)
      (λ j _ l. carries-not j (λ _ c. omega (arith, (carried-out ns j p c).2)))
      ∙ place-hit (carries label) n (tree_in ns os) i lt (carries-this i o (carried-in ns i p h m q))))

  carrier-none : (n : ℕ) → n ≡ tree_count ns → ((i : ℕ) → i < n → own_place ns i ≡ p → carries_at ns i p ≡ true → ⊥) → Carrier n
  unfolding card_of
  carrier-none n en f = rw (← en) (sym (place-start (carries label) (tab n (tree_in ns os)) ∙ place-past (carries label) n (tree_in ns os) 0 n (omega arith) (omega arith) (λ j _ l. carries-not j (f j l)) ∙ place_none (carries label) n (tree_in ns os) n (omega arith) (omega arith)))

  -- none, where the label is not mapped, or its mark names no tree, or one that has another for its own
  pub carrier-unmapped : (n : ℕ) → n ≡ tree_count ns → is_mapped_at ns p ≡ false → Carrier n
  carrier-unmapped n en m = carrier-none n en (λ i _ _ c. never (sym m ∙ (carried-out ns i p c).1))

  pub carrier-beyond : (n : ℕ) → n ≡ tree_count ns → n ≤ mark_place (mark_at ns p) → Carrier n
  carrier-beyond n en m = carrier-none n en (λ i lt _ c. omega (arith, (carried-out ns i p c).2))

  pub carrier-other : (n : ℕ) → n ≡ tree_count ns → (own_place ns (mark_place (mark_at ns p)) ≡ p → ⊥) → Carrier n
  carrier-other n en f = carrier-none n en (λ i _ o c. f (ap (own_place ns) (carried-out ns i p c).2 ∙ o))

-- the tree carries its label no more, which awaits release

module _ (ns os : List ℕ) (i : ℕ) (l : Numbers ns) (h : i < tree_count ns) (i64 : i < tree_limit) (c : carries_at ns i (own_place ns i) ≡ true) where
  pub own-inside : own_place ns i < label_count
  own-inside = (carried-out ns i (own_place ns i) c).0

  own-label : (tree_at i (card_of ns os)).label ≡ base_in ns + own_place ns i
  own-label = sym (label-some ns os i h (base_in ns) refl c)

  own-ended : (ms : List ℕ) → mark_at ms (own_place ns i) ≡ mark_use (mark_at ns (own_place ns i)) + 16 → is_free_at ms (own_place ns i) ≡ false → (is_mapped_at ms (own_place ns i) ≡ false) × (label_in ms os (own_place ns i) ≡ ended (use_of (tree_at i (card_of ns os)).label (card_of ns os)))
  unfolding ended
  own-ended ms e f =
      let p : ℕ = own_place ns i in
      let u = mapped-use ns p (carried-out ns i p c).1 in
      let v : mark_use (mark_at ms p) ≡ mark_use (mark_at ns p) + 16 = omega arith in
      let back : mark_use (mark_at ms p) - 16 ≡ mark_use (mark_at ns p) = omega arith in (
        unmapped-above ms p (omega arith),
        rw (use-in ns os (tree_at i (card_of ns os)).label p own-label own-inside, label-mapped ns p os u.0 u.1, label-awaiting ms p os f (omega arith), back) refl,
      )

  pub ends : card_of (set ns (mark_column + own_place ns i) (mark_use (mark_at ns (own_place ns i)) + 16)) os
      ≡ set_label i 0 (set_use (tree_at i (card_of ns os)).label (ended (use_of (tree_at i (card_of ns os)).label (card_of ns os))) (card_of ns os))
  unfolding set_label
  ends =
      relabelled ns ms os p own-inside label own-label r _ (set (card_of ns os).trees i (with_label 0 (tree_at i (card_of ns os)))) done.1
      (unfold card_of in tab-set (tree_count ns) (tree_in ns os) (tree_in ms os) i _ h this (λ j ne lt.
      beside ns ms os p own-inside label own-label r j (omega (arith, tree_count-le ns)) (λ _. (not_named ns j p (λ q. ne (sym q ∙ named)), not-mapped ms j p done.0))))
      ∙ unfold card_of with_trees set_use with_labels tree_at in refl
    where
      p : ℕ
      p = own_place ns i

      label : ℕ
      label = (tree_at i (card_of ns os)).label

      v : ℕ
      v = mark_use (mark_at ns p) + 16

      ms : List ℕ
      ms = set ns (mark_column + p) v

      r : Relabelled p ns ms
      r = remarked ns p v own-inside

      -- the bit stays: the label was mapped, so it was not free
      taken : is_free_at ms p ≡ false
      taken = remarked-free ns p v own-inside ∙ (mapped-use ns p (carried-out ns i p c).1).0

      done : (is_mapped_at ms p ≡ false) × (label_in ms os p ≡ ended (use_of label (card_of ns os)))
      done = own-ended ms (get_or-set_same ns (mark_column + p) v 0 (omega (arith, own-inside))) taken

      named : mark_place (mark_at ns p) ≡ i
      named = (carried-out ns i p c).2

      this : tree_in ms os i ≡ with_label 0 (tree_at i (card_of ns os))
      this =
          let o : own_place ms i ≡ p = r.rest (own_column + i) (omega arith) in
          rw (tree-at ns os i h)
          (tree_with ns ms os os i 0
          (rw o (own-none ms i p (not-mapped ms i p done.0)))
          (λ k x y. r.rest k (omega arith))
          (agree_refl (i * name_space) name_space os))
