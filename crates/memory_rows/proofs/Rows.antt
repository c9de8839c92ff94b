-- The card after a tree has come or gone, and at the start. Assumes nothing.
use Prim.Native.Nat.{ℕ, zero, suc, ◌+◌, ◌*◌, ◌-◌, ◌/◌, ◌≤◌, ◌<◌, suc-le-suc, zero-le}
use native.Mathlib.Nat.{add-zero}
use native.Mathlib.Omega.{arith}
use mathlib.Core.Path.{◌≡◌, refl, ap, ◌∙◌, sym}
use mathlib.Core.Bool.{true}
use mathlib.Core.List.{List, [], ◌∷◌, ◌++◌}
use lib.ListN.{get_or, set, replicate, length-set}
use lib.Seq.{get_or-set_same, get_or-set_other}
use Rattle.meaning.specs.Octets.{cut}
use Rattle.meaning.specs.Wire.{name_limit, least_label}
use Rattle.meaning.specs.Lists.{get_d-all}
use Rattle.meaning.specs.Card.{free, label_count, fresh, with_trees, bare, tree_limit, most_base}
use Rattle.octets.specs.Part.{tab}
use Rattle.octets.proofs.Tab.{tab-ext, tab-snoc, tab-cut}
use Rattle.memory.proofs.Labels.{word-free}
use Rattle.memory.specs.Sizes.{name_space, own_column, row_width, row_column, branch_column, mark_column, word_column, word_count, Numbers, no_label, turn_place}
use Rattle.memory.specs.Parts.{Written, Closed}
use Rattle.memory.specs.Memory.{up_to, text_at, Placed, tree_name, base_in, next_in, route_count, tree_count, route_in, word_at, is_free_at, label_in, own_place, own_label, tree_in, card_of, turn_in, last_in, label_before}
use Rattle.memory.proofs.Memory.{up_to-le, up_to-in, free-same, own_same, own-kept, tree-same, label_same, but-trees}
use Rattle.memory.proofs.Marks.{label-free, not-far, own-none}
use Rattle.memory.proofs.Parts.{Carries, lower}
use Rattle.memory_rows.specs.Lower.{Lowered, NamesLowered}
use Rattle.memory.proofs.Head.{base-in}

-- ---- a row that stands at another place

module _ (ns ns' os os' : List ℕ) where
  tree-carried : (i j : ℕ) → own_label ns' j (own_place ns' j) ≡ own_label ns i (own_place ns i) → Carries (row_column + i * row_width) (row_column + j * row_width) row_width ns ns' → tree_name os' j ≡ tree_name os i → tree_in ns' os' j ≡ tree_in ns os i
  unfolding tree_in
  tree-carried i j l r name =
      let branches : tab 16 (λ k. get_or ns' (branch_column + j * row_width + k) 0) ≡ tab 16 (λ k. get_or ns (branch_column + i * row_width + k) 0) =
      tab-ext 16 _ _ (λ k lt.
      let x : branch_column + j * row_width + k ≡ row_column + j * row_width + (1 + k) = omega arith in
      let y : row_column + i * row_width + (1 + k) ≡ branch_column + i * row_width + k = omega arith in
      ap (λ (m : ℕ). get_or ns' m 0) x ∙ r (1 + k) (omega arith) ∙ ap (λ (m : ℕ). get_or ns m 0) y) in
      let leaf : get_or ns' (row_column + j * row_width) 0 ≡ get_or ns (row_column + i * row_width) 0 = simp add-zero at (r 0 (omega arith)) in
      cc

-- ---- the start

tab-replicate : {A : Type 0} (n : ℕ) (f : ℕ → A) (v : A) → ((i : ℕ) → i < n → f i ≡ v) → tab n f ≡ replicate n v
unfolding tab
tab-replicate zero f v h = refl
tab-replicate (suc n) f v h = cc (h zero (suc-le-suc zero-le), tab-replicate n (λ i. f (suc i)) v (λ i k. h (suc i) (suc-le-suc k)))

no_rows : (ns os : List ℕ) → get_or ns 2 0 ≡ 0 → get_or ns 3 0 ≡ 0 → (tab (route_count ns) (route_in ns os) ≡ []) × (tab (tree_count ns) (tree_in ns os) ≡ [])
unfolding tab route_count tree_count up_to
no_rows ns os r t = (rw r refl, rw t refl)

-- the four words alike
words : (ns : List ℕ) (v : ℕ) → word_at ns 0 ≡ v → word_at ns 1 ≡ v → word_at ns 2 ≡ v → word_at ns 3 ≡ v → (w : ℕ) → w < word_count → word_at ns w ≡ v
words ns v a b c d zero h = a
words ns v a b c d (suc zero) h = b
words ns v a b c d (suc (suc zero)) h = c
words ns v a b c d (suc (suc (suc zero))) h = d
words ns v a b c d (suc (suc (suc (suc w)))) h = absurd (omega arith)

-- all set: every label is free
all-free : (ns : List ℕ) → ((w : ℕ) → w < word_count → word_at ns w ≡ 18446744073709551615) → (p : ℕ) → p < label_count → is_free_at ns p ≡ true
all-free ns h p lt = word-free ns (p / 64) (h (p / 64) (omega arith)) p refl

abbrev pub full : ℕ → List ℕ → List ℕ
full v ns = set (set (set (set ns word_column v) (word_column + 1) v) (word_column + 2) v) (word_column + 3) v

full-word : (ns : List ℕ) (v : ℕ) → Numbers ns → (w : ℕ) → w < word_count → word_at (full v ns) w ≡ v
full-word ns v l =
    words (full v ns) v
    (get_or-set_other c (word_column + 3) word_column v 0 (λ q. omega arith) ∙ get_or-set_other b (word_column + 2) word_column v 0 (λ q. omega arith) ∙ get_or-set_other a (word_column + 1) word_column v 0 (λ q. omega arith) ∙ get_or-set_same ns word_column v 0 (omega arith))
    (get_or-set_other c (word_column + 3) (word_column + 1) v 0 (λ q. omega arith) ∙ get_or-set_other b (word_column + 2) (word_column + 1) v 0 (λ q. omega arith) ∙ get_or-set_same a (word_column + 1) v 0 (simp length-set (omega arith)))
    (get_or-set_other c (word_column + 3) (word_column + 2) v 0 (λ q. omega arith) ∙ get_or-set_same b (word_column + 2) v 0 (simp length-set (omega arith)))
    (get_or-set_same c (word_column + 3) v 0 (simp length-set (omega arith)))
  where
    a : List ℕ
    a = set ns word_column v

    b : List ℕ
    b = set a (word_column + 1) v

    c : List ℕ
    c = set b (word_column + 2) v

full-rest : (ns : List ℕ) (v j : ℕ) → j < word_column → get_or (full v ns) j 0 ≡ get_or ns j 0
full-rest ns v j h =
    get_or-set_other (set (set (set ns word_column v) (word_column + 1) v) (word_column + 2) v) (word_column + 3) j v 0 (λ q. omega arith)
    ∙ get_or-set_other (set (set ns word_column v) (word_column + 1) v) (word_column + 2) j v 0 (λ q. omega arith)
    ∙ get_or-set_other (set ns word_column v) (word_column + 1) j v 0 (λ q. omega arith)
    ∙ get_or-set_other ns word_column j v 0 (λ q. omega arith)

last_none : (ns : List ℕ) → turn_in ns ≡ 0 → last_in ns ≡ 0
unfolding last_in label_before
last_none ns e = rw e refl

-- five numbers and the words make the card fresh, whatever the others are
is-fresh : (ms os : List ℕ) (base : ℕ) → least_label ≤ base → base ≤ most_base → get_or ms 0 0 ≡ base → get_or ms 1 0 ≡ 1 → get_or ms 2 0 ≡ 0 → get_or ms 3 0 ≡ 0 → turn_in ms ≡ 0
    → ((w : ℕ) → w < word_count → word_at ms w ≡ 18446744073709551615) → card_of ms os ≡ fresh base
unfolding card_of fresh next_in
is-fresh ms os base lo hi put n routes trees turn all =
    let b : base_in ms ≡ base = sym (base-in ms (rw put lo) (rw put hi)) ∙ put in
    let none = no_rows ms os routes trees in
    let r : tab (route_count ms) (route_in ms os) ≡ [] = none.0 in
    let t : tab (tree_count ms) (tree_in ms os) ≡ [] = none.1 in
    let given : last_in ms ≡ 0 = last_none ms turn in
    let l : tab label_count (label_in ms os) ≡ replicate label_count free = tab-replicate label_count (label_in ms os) free (λ p lt. label-free ms p os (all-free ms all p lt)) in
    cc

-- the head of a fresh card: its base, the next identifier, no route, no tree, no label given
abbrev pub headed : ℕ → List ℕ → List ℕ
headed base ns = set (set (set (set (set ns 0 base) 1 1) 2 0) 3 0) turn_place 0

pub start-fresh : (ns os : List ℕ) (base : ℕ) → Numbers ns → least_label ≤ base → base ≤ most_base → card_of (full 18446744073709551615 (headed base ns)) os ≡ fresh base
start-fresh ns os base h lo hi =
    is-fresh (full v (headed base ns)) os base lo hi
    (head 0 (omega arith) ∙ get_or-set_other d turn_place 0 0 0 (λ q. omega arith) ∙ get_or-set_other c 3 0 0 0 (λ q. omega arith) ∙ get_or-set_other b 2 0 0 0 (λ q. omega arith) ∙ get_or-set_other a 1 0 1 0 (λ q. omega arith) ∙ get_or-set_same ns 0 base 0 (omega arith))
    (head 1 (omega arith) ∙ get_or-set_other d turn_place 1 0 0 (λ q. omega arith) ∙ get_or-set_other c 3 1 0 0 (λ q. omega arith) ∙ get_or-set_other b 2 1 0 0 (λ q. omega arith) ∙ get_or-set_same a 1 1 0 (simp length-set (omega arith)))
    (head 2 (omega arith) ∙ get_or-set_other d turn_place 2 0 0 (λ q. omega arith) ∙ get_or-set_other c 3 2 0 0 (λ q. omega arith) ∙ get_or-set_same b 2 0 0 (simp length-set (omega arith)))
    (head 3 (omega arith) ∙ get_or-set_other d turn_place 3 0 0 (λ q. omega arith) ∙ get_or-set_same c 3 0 0 (simp length-set (omega arith)))
    (head turn_place (omega arith) ∙ get_or-set_same d turn_place 0 0 (simp length-set (omega arith)))
    (full-word (headed base ns) v (simp length-set h))
  where
    v : ℕ
    v = 18446744073709551615

    a : List ℕ
    a = set ns 0 base

    b : List ℕ
    b = set a 1 1

    c : List ℕ
    c = set b 2 0

    d : List ℕ
    d = set c 3 0

    head : (j : ℕ) → j < word_column → get_or (full v (headed base ns)) j 0 ≡ get_or (headed base ns) j 0
    head = full-rest (headed base ns) v

-- ---- a row goes

pub remove-tree : (ns ks ls rs os qs : List ℕ) (i n : ℕ) → Numbers ns → n ≡ tree_count ns → i < n → Lowered i (n - 1) ns ks
    → Closed (own_column + i) (own_column + n) 1 ks ls → Closed (row_column + i * row_width) (row_column + n * row_width) row_width ls rs → NamesLowered i (n - 1) os qs
    → card_of (set rs 3 (n - 1)) qs ≡ with_trees (cut (card_of ns os).trees i) (card_of ns os)
unfolding tree_count card_of
remove-tree ns ks ls rs os qs i n hl hn hi lo cl cr cn =
    but-trees ns ms os qs _
    (λ j x y. keep j (λ e. omega arith) (λ u v. omega arith) (λ u v. omega arith) (λ u v. omega arith))
    (λ j x y. keep j (λ e. omega arith) (λ u v. omega arith) (λ u v. omega arith) (λ u v. omega arith))
    (λ j x y. cn.rest j (λ u v. omega (arith, limit)))
    (λ p h. label_same ks ms os qs p (behind (mark_column + p) (omega arith)) (frees p h) (λ j x y. cn.rest j (λ u v. omega (arith, limit))) ∙ lo.uses os p h)
    (rw (count, ← hn) (tab-cut n i (tree_in ns os) (tree_in ms qs) (bare []) hi low high))
  where
    ms : List ℕ
    ms = set rs 3 (n - 1)

    limit : n ≤ tree_limit
    limit = omega (arith, up_to-le tree_limit (get_or ns 3 0))

    count : up_to tree_limit (get_or ms 3 0) ≡ n - 1
    count = ap (up_to tree_limit) (get_or-set_same rs 3 (n - 1) 0 (omega (arith, lo.long, cl.long, cr.long))) ∙ up_to-in tree_limit (n - 1) (omega (arith, limit))

    -- outside the gaps and the count: what was made ready
    ready : (j : ℕ) → (j ≡ 3 → ⊥) → (own_column + i ≤ j → j < own_column + n → ⊥) → (row_column + i * row_width ≤ j → j < row_column + n * row_width → ⊥) → get_or ms j 0 ≡ get_or ks j 0
    ready j ne out off = get_or-set_other rs 3 j (n - 1) 0 ne ∙ cr.rest j off ∙ cl.rest j out

    behind : (j : ℕ) → mark_column ≤ j → get_or ms j 0 ≡ get_or ks j 0
    behind j h = ready j (λ e. omega arith) (λ u v. omega (arith, limit)) (λ u v. omega (arith, limit))

    frees : (p : ℕ) → p < label_count → is_free_at ms p ≡ is_free_at ks p
    frees = free-same ks ms os os (λ j x y. behind j (omega arith))

    keep : (j : ℕ) → (j ≡ 3 → ⊥) → (own_column ≤ j → j < row_column → ⊥) → (mark_column ≤ j → j < word_column → ⊥) → (row_column + i * row_width ≤ j → j < row_column + n * row_width → ⊥) → get_or ms j 0 ≡ get_or ns j 0
    keep j ne own mark off = ready j ne (λ u v. own (omega arith) (omega (arith, limit))) off ∙ lo.rest j own mark

    -- the label that a tree carries, by the place that it has for its own
    carried : (j p : ℕ) → own_label ms j p ≡ own_label ks j p
    carried j p = own_same ks ms os os j p (λ k x y. ready k (λ e. omega arith) (λ u v. omega arith) (λ u v. omega arith)) (λ h. behind (mark_column + p) (omega arith)) (λ h. frees p h)

    low : (j : ℕ) → j < i → tree_in ms qs j ≡ tree_in ns os j
    low j lt =
        let o : own_place ms j ≡ own_place ks j = ready (own_column + j) (λ e. omega arith) (λ u v. omega arith) (λ u v. omega (arith, limit)) in
        tree-same ns ms os qs j
        (rw o (carried j (own_place ks j) ∙ lo.before j lt (omega (arith, limit))))
        (λ k x y. keep k (λ e. omega arith) (λ u v. omega arith) (λ u v. omega (arith, limit)) (λ u v. omega arith))
        (λ k x y. cn.rest k (λ u v. omega arith))

    high : (j : ℕ) → i ≤ j → j + 1 < n → tree_in ms qs j ≡ tree_in ns os (j + 1)
    high j le lt =
        let o : own_place ms j ≡ own_place ks (j + 1) =
        get_or-set_other rs 3 (own_column + j) (n - 1) 0 (λ e. omega arith) ∙ cr.rest (own_column + j) (λ u v. omega (arith, limit))
        ∙ cl.down (own_column + j) (omega arith) (omega arith) ∙ ap (λ (k : ℕ). get_or ks k 0) (let e : own_column + j + 1 ≡ own_column + (j + 1) = omega arith in e) in
        tree-carried ns ms os qs (j + 1) j
        (rw o (carried j (own_place ks (j + 1)) ∙ lo.moved j le (omega arith)))
        (λ k h. get_or-set_other rs 3 (row_column + j * row_width + k) (n - 1) 0 (λ e. omega arith)
        ∙ lower (row_column + i * row_width) (row_column + n * row_width) row_width (row_column + (j + 1) * row_width) (row_column + j * row_width) row_width ls rs cr (omega arith) (omega arith) (omega arith) k h
        ∙ cl.rest (row_column + (j + 1) * row_width + k) (λ u v. omega (arith, limit))
        ∙ lo.rest (row_column + (j + 1) * row_width + k) (λ u v. omega arith) (λ u v. omega (arith, limit)))
        (cn.moved j le (omega arith))

-- ---- a row comes

new-tree : (ns os qs o : List ℕ) (n : ℕ) → get_or ns (own_column + n) 0 ≡ no_label → ((j : ℕ) → j < row_width → get_or ns (row_column + n * row_width + j) 0 ≡ 0) → Placed name_limit (n * name_space) o os qs → tree_in ns qs n ≡ bare o
unfolding tree_in tree_name bare
new-tree ns os qs o n l r w =
    let label : own_label ns n (get_or ns (own_column + n) 0) ≡ 0 = own-none ns n (get_or ns (own_column + n) 0) (not-far ns n (get_or ns (own_column + n) 0) (omega arith)) in
    let name : text_at name_limit qs (n * name_space) ≡ o = w.reads in
    let branches : tab 16 (λ k. get_or ns (branch_column + n * row_width + k) 0) ≡ replicate 16 0 =
    tab-replicate 16 _ 0 (λ k lt. let x : branch_column + n * row_width + k ≡ row_column + n * row_width + (1 + k) = omega arith in ap (λ (m : ℕ). get_or ns m 0) x ∙ r (1 + k) (omega arith)) in
    let leaf : get_or ns (row_column + n * row_width) 0 ≡ 0 = simp add-zero at (r 0 (omega arith)) in
    cc

pub enter-tree : (ns zs os qs o : List ℕ) (n : ℕ) → Numbers ns → n ≡ tree_count ns → n < tree_limit
    → Written (row_column + n * row_width) (replicate row_width 0) ns zs → Placed name_limit (n * name_space) o os qs
    → card_of (set (set zs (own_column + n) no_label) 3 (n + 1)) qs ≡ with_trees ((card_of ns os).trees ++ (bare o ∷ [])) (card_of ns os)
unfolding tree_count card_of
enter-tree ns zs os qs o n hl hn h64 wr wn =
    but-trees ns ms os qs _
    (λ j x y. keep j (λ e. omega arith) (λ e. omega arith) (λ u v. omega arith))
    (λ j x y. keep j (λ e. omega arith) (λ e. omega arith) (λ u v. omega arith))
    (λ j x y. wn.rest j (λ u v. omega arith))
    (λ p h. label_same ns ms os qs p
    (keep (mark_column + p) (λ e. omega arith) (λ e. omega arith) (λ u v. omega arith))
    (free-same ns ms os os (λ j x y. keep j (λ e. omega arith) (λ e. omega arith) (λ u v. omega arith)) p h)
    (λ j x y. wn.rest j (λ u v. omega arith)))
    (rw (count, ← hn) (tab-snoc n (tree_in ns os) (tree_in ms qs) (bare o) low new))
  where
    ms : List ℕ
    ms = set (set zs (own_column + n) no_label) 3 (n + 1)

    count : up_to tree_limit (get_or ms 3 0) ≡ n + 1
    count = ap (up_to tree_limit) (get_or-set_same (set zs (own_column + n) no_label) 3 (n + 1) 0 (rw length-set (omega (arith, wr.long)))) ∙ up_to-in tree_limit (n + 1) (omega arith)

    keep : (j : ℕ) → (j ≡ 3 → ⊥) → (j ≡ own_column + n → ⊥) → (row_column + n * row_width ≤ j → j < row_column + n * row_width + row_width → ⊥) → get_or ms j 0 ≡ get_or ns j 0
    keep j ne me out = get_or-set_other (set zs (own_column + n) no_label) 3 j (n + 1) 0 ne ∙ get_or-set_other zs (own_column + n) j no_label 0 me ∙ wr.rest j out

    low : (j : ℕ) → j < n → tree_in ms qs j ≡ tree_in ns os j
    low j lt =
        tree-same ns ms os qs j
        (own-kept ns ms os os j
        (λ k x y. keep k (λ e. omega arith) (λ e. omega arith) (λ u v. omega arith))
        (λ k x y. keep k (λ e. omega arith) (λ e. omega arith) (λ u v. omega arith))
        (λ k x y. keep k (λ e. omega arith) (λ e. omega arith) (λ u v. omega arith)))
        (λ k x y. keep k (λ e. omega arith) (λ e. omega arith) (λ u v. omega arith))
        (λ k x y. wn.rest k (λ u v. omega arith))

    new : tree_in ms qs n ≡ bare o
    new =
        new-tree ms os qs o n
        (get_or-set_other (set zs (own_column + n) no_label) 3 (own_column + n) (n + 1) 0 (λ e. omega arith) ∙ get_or-set_same zs (own_column + n) no_label 0 (omega (arith, wr.long)))
        (λ j lt. get_or-set_other (set zs (own_column + n) no_label) 3 (row_column + n * row_width + j) (n + 1) 0 (λ e. omega arith) ∙ get_or-set_other zs (own_column + n) (row_column + n * row_width + j) no_label 0 (λ e. omega arith) ∙ wr.here j lt ∙ get_d-all row_width j 0)
        wn
