-- The card after a label was mapped, after one was entered as a save has it, and after a tree took it up. Assumes nothing.
use Prim.Native.Nat.{ℕ, ◌+◌, ◌*◌, ◌-◌, ◌≤◌, ◌<◌}
use native.Mathlib.Omega.{arith}
use mathlib.Core.Path.{◌≡◌, refl, sym, ap, ◌∙◌}
use mathlib.Core.Bool.{Bool, true, false}
use mathlib.Core.List.{List}
use lib.ListN.{length, take, drop, get_or, set, length-set, length-drop}
use lib.Seq.{get_or-set_same, get_or-set_other, get_or-take, get_or-drop, length-take-le}
use lib.Dec.{eqb}
use borrow.Author.Tests.{eqb-true, eqb-false}
use Rattle.meaning.specs.Octets.{pick}
use Rattle.meaning.specs.Wire.{name_limit}
use Rattle.meaning.specs.Lists.{by-test, picked}
use Rattle.meaning.specs.Card.{Use, mapped, awaiting, with_trees, with_labels, with_label, tree_at, label_count, tree_limit, neighbour_count}
use Rattle.meaning.specs.Events.{set_use, set_label}
use Rattle.octets.specs.Part.{mid}
use Rattle.octets.proofs.Tab.{tab-ext, tab-set}
use Rattle.memory.specs.Sizes.{name_space, own_column, mark_column, word_column, word_count, nowhere, root_octets, label_names, root_names, Numbers, Names}
use Rattle.memory.specs.Parts.{Written}
use Rattle.memory.specs.Memory.{Placed, tree_name, label_name, base_in, tree_count, is_free_at, mark_at, mark_use, mark_place, is_mapped_at, label_in, carries_at, own_place, own_label, tree_in, card_of, Relabelled}
use Rattle.memory.proofs.Memory.{tree_count-le, base_same, free-same, own_same, tree_with, tree-same, label_same, but-rows, but-trees, agree_refl, agree-set, tree-at}
use Rattle.memory.proofs.Marks.{mapped_at, mapped-use, unmapped-free, label-mapped, label-awaiting, carried-in, not-mapped, not_named, own-some, use_kept, relabelled-again, remarked, remarked-free, own-beside}
use Rattle.memory.proofs.Parts.{written, Carries, text-brought}
use Rattle.memory.proofs.Trees.{label_at}

-- ---- a label mapped

-- where the octets of the tree's name were copied, the label remembers the name
remembered : (ns os ms qs : List ℕ) (p i n : ℕ) → n < neighbour_count → i < tree_count ns → is_free_at ms p ≡ false → mark_use (mark_at ms p) ≡ n → Carries (i * name_space) (label_names + p * name_space) (1 + length (tree_name os i)) os qs → label_in ms qs p ≡ mapped n (tree_at i (card_of ns os)).name
unfolding label_name tree_in tree_name
remembered ns os ms qs p i n hn hi f e h =
    rw (label-mapped ms p qs f (omega arith), e, text-brought name_limit (i * name_space) (label_names + p * name_space) os qs h, tree-at ns os i hi) refl

both-set : (ns os : List ℕ) (p i l : ℕ) (u : Use) → with_trees (set (card_of ns os).trees i (with_label l (tree_at i (card_of ns os)))) (with_labels (set (card_of ns os).labels p u) (card_of ns os)) ≡ set_label i l (set_use (base_in ns + p) u (card_of ns os))
unfolding set_label set_use with_trees with_labels tree_at card_of
both-set ns os p i l u =
    let back : base_in ns + p - base_in ns ≡ p = omega arith in
    rw back refl

pub map-label : (ns fs os qs : List ℕ) (p i n m : ℕ) → Numbers ns → Names os → p < label_count → i < tree_count ns → i < tree_limit → n < neighbour_count → is_free_at ns p ≡ true
    → Relabelled p ns fs → is_free_at fs p ≡ false → m ≡ 1 + length (tree_name os i) → m ≤ name_space → qs ≡ mid (label_names + p * name_space) m os (take m (drop (i * name_space) os))
    → card_of (set (set fs (mark_column + p) (n + 256 * i)) (own_column + i) p) qs ≡ set_label i (base_in ns + p) (set_use (base_in ns + p) (mapped n (tree_at i (card_of ns os)).name) (card_of ns os))
map-label ns fs os qs p i n m hl ho hp hi h64 hn hf hr ht hm hs hq =
    but-rows ns ms os qs (set (card_of ns os).trees i (with_label (base_in ns + p) (tree_at i (card_of ns os)))) (set (card_of ns os).labels p (mapped n (tree_at i (card_of ns os)).name))
    (λ j x y. keep j (omega arith) (λ e. omega arith))
    (λ j x y. keep j (omega arith) (λ e. omega arith))
    (λ j x y. w.rest j (λ u v. omega (arith, part)))
    (unfold card_of tree_count in rw count (tab-set (tree_count ns) (tree_in ns os) (tree_in ms qs) i _ hi this other))
    (unfold card_of in tab-set label_count (label_in ns os) (label_in ms qs) p _ hp
    (remembered ns os ms qs p i n hn hi taken (omega (arith, now)) copied)
    (λ q ne lt. label_same ns ms os qs q (marks q ∙ r.marks q lt ne) (frees q lt ∙ r.frees q lt ne) (λ j x y. w.rest j (λ u v. ne (omega (arith, part))))))
    ∙ both-set ns os p i (base_in ns + p) (mapped n (tree_at i (card_of ns os)).name)
  where
    v : ℕ
    v = n + 256 * i

    ks : List ℕ
    ks = set fs (mark_column + p) v

    ms : List ℕ
    ms = set ks (own_column + i) p

    r : Relabelled p ns ks
    r = relabelled-again p ns fs ks hr (remarked fs p v hp)

    -- the own label of the tree at i is none of the labels' numbers
    marks : (q : ℕ) → mark_at ms q ≡ mark_at ks q
    marks q = get_or-set_other ks (own_column + i) (mark_column + q) p 0 (λ e. omega arith)

    frees : (q : ℕ) → q < label_count → is_free_at ms q ≡ is_free_at ks q
    frees = free-same ks ms os os (agree-set word_column word_count ks (own_column + i) p (λ x y. omega arith))

    keep : (j : ℕ) → j < mark_column → (j ≡ own_column + i → ⊥) → get_or ms j 0 ≡ get_or ns j 0
    keep j lt me = get_or-set_other ks (own_column + i) j p 0 me ∙ r.rest j lt

    count : get_or ms 3 0 ≡ get_or ns 3 0
    count = keep 3 (omega arith) (λ e. omega arith)

    mark : mark_at ks p ≡ v
    mark = get_or-set_same fs (mark_column + p) v 0 (omega (arith, hr.long))

    now : mark_at ms p ≡ v
    now = marks p ∙ mark

    taken : is_free_at ms p ≡ false
    taken = frees p hp ∙ remarked-free fs p v hp ∙ ht

    own : own_place ms i ≡ p
    own = get_or-set_same ks (own_column + i) p 0 (omega (arith, r.long))

    slot : List ℕ
    slot = take m (drop (i * name_space) os)

    part : length slot ≡ m
    part = length-take-le m (drop (i * name_space) os) (simp length-drop (omega arith))

    w : Written (label_names + p * name_space) slot os qs
    w = rw hq (written (label_names + p * name_space) m os slot (omega arith) part)

    copied : Carries (i * name_space) (label_names + p * name_space) (1 + length (tree_name os i)) os qs
    copied j lt = w.here j (omega (arith, part)) ∙ get_or-take m (drop (i * name_space) os) j 0 (omega arith) ∙ get_or-drop (i * name_space) os j 0

    base : base_in ms ≡ base_in ns
    base = base_same ns ms os qs (λ j x y. keep j (omega arith) (λ e. omega arith))

    -- the tree carries the label, since its mark names the tree
    carried : own_label ms i (own_place ms i) ≡ base_in ns + p
    carried = rw (own, own-some ms i p (carried-in ms i p hp (mapped_at ms p taken (omega (arith, now))) (omega (arith, now)))) (ap (λ (b : ℕ). b + p) base)

    this : tree_in ms qs i ≡ with_label (base_in ns + p) (tree_at i (card_of ns os))
    this =
        rw (tree-at ns os i hi)
        (tree_with ns ms os qs i (base_in ns + p) carried
        (λ j x y. keep j (omega arith) (λ e. omega arith))
        (λ j x y. w.rest j (λ u v. omega arith)))

    -- no other tree does: it did not before, since the label was free
    others : (j q : ℕ) → (j ≡ i → ⊥) → own_label ks j q ≡ own_label ns j q
    others j q ne = own-beside ns ks p j q r (λ e. rw e (not-mapped ns j p (unmapped-free ns p hf), not_named ks j p (λ z. ne (sym z ∙ omega (arith, mark)))))

    other : (j : ℕ) → (j ≡ i → ⊥) → j < tree_count ns → tree_in ms qs j ≡ tree_in ns os j
    other j ne lt =
        let j64 : j < tree_limit = omega (arith, tree_count-le ns) in
        let o : own_place ms j ≡ own_place ns j = keep (own_column + j) (omega arith) (λ e. ne (omega arith)) in
        tree-same ns ms os qs j
        (rw o (own_same ks ms os os j (own_place ns j) (agree-set 0 1 ks (own_column + i) p (λ x y. omega arith)) (λ h. marks (own_place ns j)) (λ h. frees (own_place ns j) h) ∙ others j (own_place ns j) ne))
        (λ k x y. keep k (omega arith) (λ e. omega arith))
        (λ k x y. w.rest k (λ u v. omega arith))

-- ---- a label's use, and who carries it

-- a tree that does not carry the label at its own place p: it has another label, or none
not_own : (ns os : List ℕ) (p j : ℕ) → j < tree_count ns → ((tree_at j (card_of ns os)).label ≡ base_in ns + p → ⊥) → own_place ns j ≡ p → carries_at ns j p ≡ false
not_own ns os p j lt ne e =
    by-test (carries_at ns j p)
    (λ t. absurd (ne (label_at ns os j lt ∙ rw e (own-some ns j p t))))
    (λ t. t)

module _ (ns ks os qs a : List ℕ) (p n v : ℕ) (m : Bool) (hp : p < label_count) (hn : n < neighbour_count) (w : Placed name_limit (label_names + p * name_space) a os qs)
    (taken : Relabelled p ns ks) (not-Free : is_free_at ks p ≡ false) where
  used : (ms : List ℕ) → is_free_at ms p ≡ false → mark_use (mark_at ms p) ≡ pick m n (n + 16) → label_in ms qs p ≡ pick m (mapped n a) (awaiting n a)
  unfolding label_name
  used ms f e =
      by-test m
      (λ t.
      let u : mark_use (mark_at ms p) ≡ n = e ∙ rw t refl in
      rw (t, label-mapped ms p qs f (omega arith), u, w.reads) refl)
      (λ t.
      let u : mark_use (mark_at ms p) ≡ n + 16 = e ∙ rw t refl in
      let back : mark_use (mark_at ms p) - 16 ≡ n = omega arith in
      rw (t, label-awaiting ms p qs f (omega arith), back, w.reads) refl)

  pub enter-use : Numbers ns → ((j : ℕ) → j < tree_count ns → (tree_at j (card_of ns os)).label ≡ base_in ns + p → ⊥) → v ≡ pick m n (n + 16)
      → card_of (set ks (mark_column + p) (v + nowhere)) qs ≡ with_labels (set (card_of ns os).labels p (pick m (mapped n a) (awaiting n a))) (card_of ns os)
  enter-use hl hc hv =
      but-rows ns ms os qs (card_of ns os).trees (set (card_of ns os).labels p (pick m (mapped n a) (awaiting n a)))
      (λ j x y. both_ways.rest j (omega arith))
      (λ j x y. both_ways.rest j (omega arith))
      (λ j x y. w.rest j (λ u z. omega arith))
      (unfold card_of tree_count in rw count (tab-ext (tree_count ns) (tree_in ms qs) (tree_in ns os) (λ j lt. tree j lt)))
      (unfold card_of in tab-set label_count (label_in ns os) (label_in ms qs) p _ hp
      (used ms still (let e = now in let k = small in omega arith ∙ hv))
      (λ q ne lt. label_same ns ms os qs q (both_ways.marks q lt ne) (both_ways.frees q lt ne) (λ j x y. w.rest j (λ u z. ne (omega arith)))))
      ∙ unfold card_of with_trees with_labels in refl
    where
      ms : List ℕ
      ms = set ks (mark_column + p) (v + nowhere)

      both_ways : Relabelled p ns ms
      both_ways = relabelled-again p ns ks ms taken (remarked ks p (v + nowhere) hp)

      still : is_free_at ms p ≡ false
      still = remarked-free ks p (v + nowhere) hp ∙ not-Free

      small : v < 256
      small = rw hv (picked (λ (k : ℕ). k < 256) m (λ _. omega arith) (λ _. omega arith))

      now : mark_at ms p ≡ v + nowhere
      now = get_or-set_same ks (mark_column + p) (v + nowhere) 0 (omega (arith, taken.long))

      count : get_or ms 3 0 ≡ get_or ns 3 0
      count = both_ways.rest 3 (omega arith)

      nowhere-at : mark_place (mark_at ms p) ≡ tree_limit
      nowhere-at = let e = now in let k = small in omega arith

      tree : (j : ℕ) → j < tree_count ns → tree_in ms qs j ≡ tree_in ns os j
      tree j lt =
          let j64 : j < tree_limit = omega (arith, tree_count-le ns) in
          let o : own_place ms j ≡ own_place ns j = both_ways.rest (own_column + j) (omega arith) in
          tree-same ns ms os qs j
          (rw o (own-beside ns ms p j (own_place ns j) both_ways (λ e. (rw e (not_own ns os p j lt (hc j lt) e), rw e (not_named ms j p (λ z. omega (arith, nowhere-at)))))))
          (λ k x y. both_ways.rest k (omega arith))
          (λ k x y. w.rest k (λ u z. omega arith))

pub attach : (ns os : List ℕ) (p i : ℕ) → Numbers ns → p < label_count → i < tree_count ns → i < tree_limit → is_mapped_at ns p ≡ true → ((j : ℕ) → j < tree_count ns → (tree_at j (card_of ns os)).label ≡ base_in ns + p → ⊥)
    → card_of (set (set ns (mark_column + p) (mark_use (mark_at ns p) + 256 * i)) (own_column + i) p) os ≡ set_label i (base_in ns + p) (card_of ns os)
unfolding set_label
attach ns os p i hl hp hi h64 hm hc =
    but-trees ns ms os os (set (card_of ns os).trees i (with_label (base_in ns + p) (tree_at i (card_of ns os))))
    (λ j x y. keep j (λ e. omega arith) (λ e. omega arith))
    (λ j x y. keep j (λ e. omega arith) (λ e. omega arith))
    (agree_refl root_names root_octets os)
    uses
    (unfold card_of tree_count in rw count (tab-set (tree_count ns) (tree_in ns os) (tree_in ms os) i _ hi this other))
  where
    v : ℕ
    v = mark_use (mark_at ns p) + 256 * i

    ks : List ℕ
    ks = set ns (mark_column + p) v

    ms : List ℕ
    ms = set ks (own_column + i) p

    keep : (j : ℕ) → (j ≡ mark_column + p → ⊥) → (j ≡ own_column + i → ⊥) → get_or ms j 0 ≡ get_or ns j 0
    keep j ne me = get_or-set_other ks (own_column + i) j p 0 me ∙ get_or-set_other ns (mark_column + p) j v 0 ne

    count : get_or ms 3 0 ≡ get_or ns 3 0
    count = keep 3 (λ e. omega arith) (λ e. omega arith)

    then-use : mark_use v ≡ mark_use (mark_at ns p)
    then-use = omega arith

    then-place : mark_place v ≡ i
    then-place = omega arith

    now : mark_at ms p ≡ v
    now = get_or-set_other ks (own_column + i) (mark_column + p) p 0 (λ e. omega arith) ∙ get_or-set_same ns (mark_column + p) v 0 (omega arith)

    own : own_place ms i ≡ p
    own = get_or-set_same ks (own_column + i) p 0 (rw length-set (omega arith))

    frees : (q : ℕ) → q < label_count → is_free_at ms q ≡ is_free_at ns q
    frees q lt = free-same ns ms os os (λ j x y. keep j (λ e. omega arith) (λ e. omega arith)) q lt

    uses : (q : ℕ) → q < label_count → label_in ms os q ≡ label_in ns os q
    uses q lt =
        by-test (eqb q p)
        (λ t. let e : q ≡ p = eqb-true q p t in rw e (use_kept ns ms os p (ap mark_use now ∙ then-use) (frees p hp)))
        (λ t. label_same ns ms os os q (keep (mark_column + q) (λ e. eqb-false q p t (omega arith)) (λ e. omega arith)) (frees q lt) (agree_refl (label_names + q * name_space) name_space os))

    carried : own_label ms i (own_place ms i) ≡ base_in ns + p
    carried =
        let u = mapped-use ns p hm in
        let k : mark_use (mark_at ms p) ≡ mark_use (mark_at ns p) = ap mark_use now ∙ then-use in
        rw (own, own-some ms i p (carried-in ms i p hp (mapped_at ms p (frees p hp ∙ u.0) (omega (arith, u.1))) (ap mark_place now ∙ then-place)))
        (ap (λ (b : ℕ). b + p) (base_same ns ms os os (λ j x y. keep j (λ e. omega arith) (λ e. omega arith))))

    this : tree_in ms os i ≡ with_label (base_in ns + p) (tree_at i (card_of ns os))
    this =
        rw (tree-at ns os i hi)
        (tree_with ns ms os os i (base_in ns + p) carried
        (λ j x y. keep j (λ e. omega arith) (λ e. omega arith))
        (agree_refl (i * name_space) name_space os))

    other : (j : ℕ) → (j ≡ i → ⊥) → j < tree_count ns → tree_in ms os j ≡ tree_in ns os j
    other j ne lt =
        let j64 : j < tree_limit = omega (arith, tree_count-le ns) in
        let o : own_place ms j ≡ own_place ns j = keep (own_column + j) (λ e. omega arith) (λ e. ne (omega arith)) in
        tree-same ns ms os os j
        (rw o (own_same ks ms os os j (own_place ns j) (agree-set 0 1 ks (own_column + i) p (λ x y. omega arith)) (λ h. get_or-set_other ks (own_column + i) (mark_column + own_place ns j) p 0 (λ e. omega arith))
        (λ h. free-same ks ms os os (agree-set word_column word_count ks (own_column + i) p (λ x y. omega arith)) (own_place ns j) h)
        ∙ own-beside ns ks p j (own_place ns j) (remarked ns p v hp) (λ e. (rw e (not_own ns os p j lt (hc j lt) e), rw e (not_named ks j p (λ z. ne (sym z ∙ ap mark_place (get_or-set_same ns (mark_column + p) v 0 (omega arith)) ∙ then-place)))))))
        (λ k x y. keep k (λ e. omega arith) (λ e. omega arith))
        (agree_refl (j * name_space) name_space os)
