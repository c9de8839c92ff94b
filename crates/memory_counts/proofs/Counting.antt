-- What a tree counts in the memory, what a change of it leaves of the counts, and the sums over all trees of a root. Assumes nothing.
use Prim.Native.Nat.{ℕ, zero, suc, ◌+◌, ◌*◌, ◌-◌, ◌≤◌, ◌<◌, suc-le-suc}
use native.Mathlib.Nat.{not-suc-le-zero, le_of_suc-le-suc, zero-lt-suc}
use native.Mathlib.Numerals.{add-one}
use native.Mathlib.Omega.{arith}
use mathlib.Core.Path.{◌≡◌, refl, sym, ap, ◌∙◌}
use mathlib.Core.Bool.{Bool, true, false, not, and-false}
use mathlib.Core.List.{List, [], ◌∷◌}
use lib.ListN.{take, drop, get_or, length, set, length-drop, drop_of_length-le}
use lib.Seq.{set_out, get_or-drop, drop-cons}
use lib.Dec.{eqb}
use borrow.Author.Tests.{eq-eqb, ne_eqb}
use Rattle.meaning.specs.Octets.{any, count, place, same}
use Rattle.meaning.specs.Lists.{by-test, any-count, count-any, same-eq, never}
use Rattle.meaning.specs.Wire.{root_in, root_length, name_limit}
use Rattle.meaning.specs.Card.{Route, Tree, Card, no_entry, with_routes, with_trees, with_counts, route_place, is_for, bare, tree_at, is_branch, is_empty, is_lone}
use Rattle.meaning.specs.Events.{of_root, total, in_root, one_standing, one_lone, changed, recounted_for, recount, recounted}
use Rattle.meaning_laws.specs.Counts.{recount-still}
use Rattle.octets.proofs.Same.{same_at}
use Rattle.octets.proofs.Tab.{tab-length, tab-get}
use Rattle.memory.specs.Sizes.{name_space}
use Rattle.memory.specs.Memory.{up_to, text_at, tree_name, card_of, route_count, tree_count, route_in}
use Rattle.memory.proofs.Trees.{branches-length, name-at}
use Rattle.memory_trees.proofs.Others.{one, one-some, count_set, one-within}

-- ---- whether a tree is empty

pub empty_leaf : (t : Tree) → true ≡ t.leaf → false ≡ is_empty t
unfolding is_empty
empty_leaf t e = rw (← e) (sym (and-false (not (any is_branch t.branches))))

pub empty-branches : (t : Tree) (b : ℕ) → false ≡ t.leaf → b ≡ count is_branch t.branches → eqb b 0 ≡ is_empty t
unfolding is_empty
empty-branches t b f e =
    by-test (any is_branch t.branches)
    (λ some. rw (← f, some) (ne_eqb b 0 (λ z. let no : true ≡ false = sym some ∙ count-any is_branch t.branches (sym e ∙ z) in absurd (never (sym no)))))
    (λ none. rw (← f, none) (eq-eqb b 0 (e ∙ any-count is_branch t.branches none)))

module _ (ns os : List ℕ) (i : ℕ) (h : i < tree_count ns) where
  pub empty-row : (r : Bool) → r ≡ any is_branch (set (set (tree_at i (card_of ns os)).branches 16 0) 16 0) → false ≡ (tree_at i (card_of ns os)).leaf → not r ≡ is_empty (tree_at i (card_of ns os))
  unfolding is_empty
  empty-row r e f =
      let bs : List ℕ = (tree_at i (card_of ns os)).branches in
      let long : length bs ≡ 16 = branches-length ns os i h in
      let same : set (set bs 16 0) 16 0 ≡ bs = ap (λ (l : List ℕ). set l 16 0) (set_out bs 16 0 (omega arith)) ∙ set_out bs 16 0 (omega arith) in
      rw (← f, e, same) (by-test (any is_branch bs) (λ t. rw t refl) (λ t. rw t refl))

-- ---- what one tree counts

module _ (t : Tree) where
  abbrev pub Counted : ℕ → ℕ → Type 0
  Counted standing lone = (standing ≡ one_standing t) × (lone ≡ one_lone t)

  pub with-leaf : true ≡ t.leaf → Counted 1 0
  unfolding one_standing one_lone is_lone
  with-leaf e = (rw (← empty_leaf t e) refl, rw (← e, and-false (eqb (count is_branch t.branches) 1)) refl)

  module _ (b : ℕ) (f : false ≡ t.leaf) (e : b ≡ count is_branch t.branches) where
    pub with_none : b ≡ 0 → Counted 0 0
    unfolding one_standing one_lone is_lone
    with_none z = (rw (← empty-branches t b f e, eq-eqb b 0 z) refl, rw (← f, ← e, z) refl)

    pub with-one : b ≡ 1 → Counted 1 1
    unfolding one_standing one_lone is_lone
    with-one z = (rw (← empty-branches t b f e, z) refl, rw (← f, ← e, z) refl)

    pub with-more : (b ≡ 0 → ⊥) → (b ≡ 1 → ⊥) → Counted 1 0
    unfolding one_standing one_lone is_lone
    with-more z y = (rw (← empty-branches t b f e, ne_eqb b 0 z) refl, rw (← f, ← e, ne_eqb b 1 y) refl)

-- once neighbour n's branch is x: of all branches, a was its own, and m is
pub count-then : (bs : List ℕ) (n x all a m : ℕ) → n < length bs → all ≡ count is_branch bs → a ≡ one (get_or bs n 0) → m ≡ one x → all - a + m ≡ count is_branch (set bs n x)
count-then bs n x all a m h el ea em = omega (arith, count_set bs n x h, one-within bs n)

-- where there was none, there is one
pub count-first : (bs : List ℕ) (n x : ℕ) → n < length bs → 0 < x → count is_branch bs ≡ 0 → 1 ≡ count is_branch (set bs n x)
count-first bs n x h k e = omega (arith, count_set bs n x h, one-within bs n, one-some x (λ z. omega arith))

-- ---- a tree is counted anew

module _ (t s : Tree) (c : Card) where
  pub counted-still : one_standing s ≡ one_standing t → one_lone s ≡ one_lone t → c ≡ recounted t s c
  unfolding recounted with_routes
  counted-still a b = ap (λ (rs : List Route). with_routes rs c) (sym (recount-still t s c.routes (sym a) (sym b)))

  pub counted-nowhere : (k : ℕ) → k ≡ route_place (root_in s.name) c → length c.routes ≤ k → c ≡ recounted t s c
  unfolding recounted recount with_routes route_place
  counted-nowhere k e h = ap (λ (rs : List Route). with_routes rs c) (sym (set_out c.routes (place (is_for (root_in s.name)) c.routes) _ (omega arith)))

-- n and m are the entry's counts, x and y what the tree counted, x' and y' what it counts now
pub counted-there : (ns os : List ℕ) (t s : Tree) (d : Card) (k a b n m x y x' y' : ℕ) → k < route_count ns → k ≡ route_place (root_in s.name) (card_of ns os)
    → n ≡ (route_in ns os k).standing → m ≡ (route_in ns os k).lone → x ≡ one_standing t → y ≡ one_lone t → x' ≡ one_standing s → y' ≡ one_lone s
    → a ≡ changed n x x' → b ≡ changed m y y'
    → d ≡ with_routes (set (card_of ns os).routes k (with_counts a b (route_in ns os k))) (card_of ns os) → d ≡ recounted t s (card_of ns os)
unfolding recounted recount recounted_for route_place card_of
counted-there ns os t s d k a b n m x y x' y' h e en em ex ey ex' ey' ea eb g =
    let there : get_or (card_of ns os).routes k (no_entry (root_in s.name)) ≡ route_in ns os k = tab-get (route_count ns) (route_in ns os) k (no_entry (root_in s.name)) h in
    rw (← e, there, ← en, ← em, ← ex, ← ey, ← ex', ← ey', ← ea, ← eb) g

-- ---- one tree anew: its root's place is as it was

pub place_kept : (c d : Card) (i k : ℕ) (s : Tree) → d ≡ with_trees (set c.trees i s) c → s.name ≡ (tree_at i c).name → k ≡ route_place (root_in (tree_at i c).name) c → k ≡ route_place (root_in s.name) d
unfolding with_trees route_place
place_kept c d i k s e n h = rw (n, e) h

-- ---- all trees of a root

take_get : (k : ℕ) (l : List ℕ) (j : ℕ) → j < length (take k l) → (j < length l) × (get_or (take k l) j 0 ≡ get_or l j 0)
take_get zero l j h = absurd (not-suc-le-zero h)
take_get (suc k) [] j h = absurd (not-suc-le-zero h)
take_get (suc k) (x ∷ l) zero h = (zero-lt-suc (length l), refl)
take_get (suc k) (x ∷ l) (suc j) h = let r = take_get k l j (le_of_suc-le-suc h) in (suc-le-suc r.0, r.1)

name-octet : (os : List ℕ) (i m : ℕ) → m < length (tree_name os i) → get_or os (i * name_space + 1 + m) 0 ≡ get_or (tree_name os i) m 0
unfolding tree_name text_at
name-octet os i m h = sym (tab-get (up_to name_limit (get_or os (i * name_space) 0)) (λ j. get_or os (i * name_space + 1 + j) 0) m 0 (rw tab-length at h))

-- where the root of the tree's name is r, its octets stand from place 4 of the name on
root-octet : (os r : List ℕ) (i j : ℕ) → root_in (tree_name os i) ≡ r → j < length r → get_or os (i * name_space + 1 + (4 + j)) 0 ≡ get_or r j 0
unfolding root_in
root-octet os r i j e h =
    let a : List ℕ = tree_name os i in
    let t = take_get (root_length a) (drop 4 a) j (rw (← e) at h) in
    let long : 4 + j < length a = (let l : length (drop 4 a) ≡ length a - 4 = length-drop 4 a in omega (arith, t.0)) in
    name-octet os i (4 + j) long ∙ sym (get_or-drop 4 a j 0) ∙ sym t.1 ∙ ap (λ (l : List ℕ). get_or l j 0) e

-- it is not r where the last four octets of r do not stand there
pub may-not-of : (os r : List ℕ) (i n f : ℕ) → n ≡ length r → 4 ≤ n → f ≡ i * name_space + n + 1 → f + 4 ≤ length os → same (take 4 (drop f os)) (take 4 (drop (n - 4) r)) ≡ false → same (root_in (tree_name os i)) r ≡ false
may-not-of os r i n f hn h4 hf h differ =
    by-test (same (root_in (tree_name os i)) r)
    (λ t.
    let all : same (take 4 (drop f os)) (take 4 (drop (n - 4) r)) ≡ true =
    same_at 4 f (n - 4) os r h (omega arith) (λ m lt.
    let q : f + m ≡ i * name_space + 1 + (4 + (n - 4 + m)) = omega arith in
    ap (λ (k : ℕ). get_or os k 0) q ∙ root-octet os r i (n - 4 + m) (same-eq (root_in (tree_name os i)) r t) (omega arith)) in
    absurd (never (sym (sym all ∙ differ))))
    (λ t. t)

pub of-root-not : (r os ns : List ℕ) (i : ℕ) → i < tree_count ns → same (root_in (tree_name os i)) r ≡ false → false ≡ of_root r (tree_at i (card_of ns os))
unfolding of_root
of-root-not r os ns i h e = sym (ap (λ (a : List ℕ). same (root_in a) r) (name-at ns os i h) ∙ e)

pub of-root : (r : List ℕ) (t : Tree) (b : Bool) (a x : List ℕ) → b ≡ same x r → x ≡ root_in a → a ≡ t.name → b ≡ of_root r t
unfolding of_root
of-root r t b a x e f g = e ∙ ap (λ (y : List ℕ). same y r) (f ∙ ap root_in g)

module _ (r : List ℕ) (f : Tree → ℕ) (c : Card) (i sum all : ℕ) (so_far : sum + total (in_root r f) (drop i c.trees) ≡ all) where
  pub total-more : (x : ℕ) → i < length c.trees → true ≡ of_root r (tree_at i c) → x ≡ f (tree_at i c) → sum + x + total (in_root r f) (drop (i + 1) c.trees) ≡ all
  unfolding total in_root tree_at
  total-more x h e g =
      let step : sum + (f (get_or c.trees i (bare [])) + total (in_root r f) (drop (suc i) c.trees)) ≡ all = rw (drop-cons c.trees i (bare []) h, ← e) at so_far in
      rw (add-one i) (omega arith)

  pub total-past : i < length c.trees → false ≡ of_root r (tree_at i c) → sum + total (in_root r f) (drop (i + 1) c.trees) ≡ all
  unfolding total in_root tree_at
  total-past h e =
      let step : sum + (0 + total (in_root r f) (drop (suc i) c.trees)) ≡ all = rw (drop-cons c.trees i (bare []) h, ← e) at so_far in
      rw (add-one i) (omega arith)

  pub total-all : length c.trees ≤ i → sum ≡ all
  unfolding total
  total-all h = let done : sum + 0 ≡ all = rw (drop_of_length-le c.trees {i = i} h) at so_far in omega arith
