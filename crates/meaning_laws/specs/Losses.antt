-- What a loss makes of the table, part by part: each label, each tree and each route by itself, and how many octets it writes.
-- Assumes nothing.
use Prim.Native.Nat.{ℕ, zero, suc, ◌+◌, ◌-◌, ◌≤◌, ◌<◌}
use Rattle.std.proofs.Common.{le_refl, arith, ap₂, ◌∙◌, subst, length-set, length-append, length-drop, take-suc, drop-cons, take_at, drop_at, take_all, get_or-set_same, get_or-set_other}
use Rattle.std.specs.Prelude.{◌≡◌, Bool, true, take, get_or, length, set, replicate, leb}
use Rattle.std.proofs.Math.Path.{refl, sym, ap}
use Rattle.std.proofs.Math.Bool.{false}
use mathlib.Core.List.{List, [], ◌∷◌, ◌++◌, append_assoc}
use Rattle.std.proofs.Math.ListN.{drop, length-take}
use Rattle.std.proofs.Math.Dec.{eqb}
use borrow.Author.Tests.{eqb-true, eqb-false, ne_eqb, leb-true, lt-leb}
use Rattle.meaning.specs.Octets.{pick, place, count, cut, two, four}
use Rattle.meaning.specs.Wire.{record_size, tlv, octets_of, Sent, record_of, next_id, records}
use Rattle.meaning.specs.Card.{Tree, Route, Use, free, mapped, awaiting, Card, no_route, no_entry, with_routes, with_trees, with_labels, with_branch, with_label, named, bare, tree_place, tree_of, tree_at, not_held, leads_on, mapped_to, use_of, held_for, neighbour_count}
use Rattle.meaning.specs.Events.{Moved, still, followed_by, set_use, set_label, give_up, let_go, sum_from, is_of, freed_of, uses_without, tree_without, trees_without, routes_without, parted, shed, shed_from}
use Rattle.meaning.specs.Lists.{by-test, picked, set-replicate, append-nil}

pub freed-free : (n : ℕ) → freed_of n free ≡ free
unfolding freed_of is_of
freed-free n = refl

-- ---- labels

module _ (n : ℕ) where
  pub uses-length : (us : List Use) → length (uses_without n us) ≡ length us
  unfolding uses_without
  uses-length [] = refl
  uses-length (u ∷ us) = ap suc (uses-length us)

  pub uses-at : (us : List Use) (i : ℕ) → get_or (uses_without n us) i free ≡ freed_of n (get_or us i free)
  unfolding uses_without
  uses-at [] i = sym (freed-free n)
  uses-at (u ∷ us) zero = refl
  uses-at (u ∷ us) (suc i) = uses-at us i

  pub parted-use : (c : Card) (l : ℕ) → use_of l (parted n c) ≡ freed_of n (use_of l c)
  unfolding use_of parted with_routes with_trees with_labels
  parted-use c l = by-test (leb c.base l) (λ e. rw e (uses-at c.labels (l - c.base))) (λ e. rw e (sym (freed-free n)))

-- ---- trees

pub without-name : (n : ℕ) (c : Card) (t : Tree) → (tree_without n c t).name ≡ t.name
unfolding tree_without with_label with_branch
without-name n c t = refl

pub without-size : (n : ℕ) (c : Card) (t : Tree) → length (tree_without n c t).branches ≡ length t.branches
unfolding tree_without with_label with_branch
without-size n c t = length-set t.branches n 0

pub without-label : (n : ℕ) (c : Card) (t : Tree) → (tree_without n c t).label ≡ pick (eqb (held_for c t) n) 0 t.label
unfolding tree_without with_label
without-label n c t = refl

pub without-bare : (n : ℕ) (c : Card) (a : List ℕ) → tree_without n c (bare a) ≡ bare a
unfolding tree_without bare with_label with_branch
without-bare n c a =
    let none : set {A = ℕ} (replicate neighbour_count 0) n 0 ≡ replicate neighbour_count 0 = set-replicate neighbour_count n 0 in
    λ i. record { name = a; branches = none i; leaf = false; label = no_label (eqb (held_for c (bare a)) n) i }
  where
    no_label : (b : Bool) → pick {X = ℕ} b 0 0 ≡ 0
    no_label true = refl
    no_label false = refl

module _ (n : ℕ) (c : Card) where
  pub trees-length : (ts : List Tree) → length (trees_without n c ts) ≡ length ts
  unfolding trees_without
  trees-length [] = refl
  trees-length (t ∷ ts) = ap suc (trees-length ts)

  pub trees-at : (ts : List Tree) (i : ℕ) (d : Tree) → tree_without n c d ≡ d → get_or (trees_without n c ts) i d ≡ tree_without n c (get_or ts i d)
  unfolding trees_without
  trees-at [] i d e = sym e
  trees-at (t ∷ ts) zero d e = refl
  trees-at (t ∷ ts) (suc i) d e = trees-at ts i d e

  pub trees-place : (a : List ℕ) (ts : List Tree) → place (named a) (trees_without n c ts) ≡ place (named a) ts
  unfolding place trees_without named
  trees-place a [] = refl
  trees-place a (t ∷ ts) = rw (without-name n c t, trees-place a ts) refl

  pub trees-count : (a : List ℕ) (ts : List Tree) → count (named a) (trees_without n c ts) ≡ count (named a) ts
  unfolding count trees_without named
  trees-count a [] = refl
  trees-count a (t ∷ ts) = rw (without-name n c t, trees-count a ts) refl

  pub parted-tree : (a : List ℕ) → tree_of a (parted n c) ≡ tree_without n c (tree_of a c)
  unfolding tree_of tree_place parted with_routes with_trees with_labels
  parted-tree a = rw (trees-place a c.trees) (trees-at c.trees (place (named a) c.trees) (bare a) (without-bare n c a))

  pub parted-at : (i : ℕ) → tree_at i (parted n c) ≡ tree_without n c (tree_at i c)
  unfolding tree_at parted with_routes with_trees with_labels
  parted-at i = trees-at c.trees i (bare []) (without-bare n c [])

  pub parted-size : length (parted n c).trees ≡ length c.trees
  unfolding parted with_routes with_trees with_labels
  parted-size = trees-length c.trees

freed-to : (n : ℕ) (u : Use) → (mapped_to u ≡ n → ⊥) → mapped_to (freed_of n u) ≡ mapped_to u
unfolding freed_of is_of mapped_to
freed-to n free d = refl
freed-to n (mapped k b) d = rw (ne_eqb k n d) refl
freed-to n (awaiting k b) d = by-test (eqb k n) (λ t. rw t refl) (λ t. rw t refl)

-- for whom a tree holds its label now: for whom it held it, but not for n
pub parted-held : (n : ℕ) (c : Card) (t : Tree) → use_of 0 c ≡ free → held_for (parted n c) (tree_without n c t) ≡ pick (eqb (held_for c t) n) no_route (held_for c t)
unfolding held_for mapped_to
parted-held n c t none =
    by-test (eqb (held_for c t) n)
    (λ e. rw e (ap (λ (l : ℕ). mapped_to (use_of l (parted n c))) (without-label n c t ∙ rw e refl) ∙ ap mapped_to (parted-use n c 0 ∙ ap (freed_of n) none ∙ freed-free n) ∙ unfold mapped_to in refl))
    (λ e. rw e (ap (λ (l : ℕ). mapped_to (use_of l (parted n c))) (without-label n c t ∙ rw e refl) ∙ ap mapped_to (parted-use n c t.label) ∙ other e))
  where
    other : eqb (held_for c t) n ≡ false → mapped_to (freed_of n (use_of t.label c)) ≡ held_for c t
    other e = unfold held_for in freed-to n (use_of t.label c) (unfold held_for in eqb-false _ _ e)

-- ---- routes: those that go, the last first, as a row is taken out of the table

unfoldable pub routes_below : ℕ → ℕ → List Route → List Route
routes_below n zero rs = rs
routes_below n (suc k) rs =
    let there : Route = get_or rs k (no_entry []) in
    routes_below n k (pick (eqb there.via n) (cut rs k) rs)

routes-append : (n : ℕ) (xs ys : List Route) → routes_without n (xs ++ ys) ≡ routes_without n xs ++ routes_without n ys
unfolding routes_without
routes-append n [] ys = refl
routes-append n (x ∷ xs) ys = by-test (eqb x.via n) (λ e. rw e (routes-append n xs ys)) (λ e. rw e (ap (λ (l : List Route). x ∷ l) (routes-append n xs ys)))

cut-take {ℓ} : {A : Type ℓ} (l : List A) (k : ℕ) → k ≤ length l → take k (cut l k) ≡ take k l
unfolding cut
cut-take l k h = take_at (take k l) (drop (suc k) l) k (length-take k l ∙ omega arith)

cut-drop {ℓ} : {A : Type ℓ} (l : List A) (k : ℕ) → k ≤ length l → drop k (cut l k) ≡ drop (suc k) l
unfolding cut
cut-drop l k h = drop_at (take k l) (drop (suc k) l) k (length-take k l ∙ omega arith)

below-is : (n k : ℕ) (rs : List Route) → k ≤ length rs → routes_below n k rs ≡ routes_without n (take k rs) ++ drop k rs
unfolding routes_below
below-is n zero rs h = unfold routes_without in refl
below-is n (suc k) rs h =
    let d : Route = no_entry [] in
    let last_one : take (suc k) rs ≡ take k rs ++ (get_or rs k d ∷ []) = take-suc rs k d h in
    let rest : drop k rs ≡ get_or rs k d ∷ drop (suc k) rs = drop-cons rs k d h in
    by-test (eqb (get_or rs k d).via n)
    (λ e. rw e (below-is n k (cut rs k) (unfold cut in simp (length-append, length-take, length-drop) (omega arith))
    ∙ rw (cut-take rs k (omega arith), cut-drop rs k (omega arith), last_one, routes-append n (take k rs) (get_or rs k d ∷ [])) (unfold routes_without in rw e (ap (λ (l : List Route). l ++ drop (suc k) rs) (sym (append-nil (routes_without n (take k rs))))))))
    (λ e. rw e (below-is n k rs (omega arith)
    ∙ rw (rest, last_one, routes-append n (take k rs) (get_or rs k d ∷ [])) (unfold routes_without in rw e (sym (append_assoc (routes_without n (take k rs)) (get_or rs k d ∷ []) (drop (suc k) rs))))))

pub routes-below : (n : ℕ) (rs : List Route) → routes_below n (length rs) rs ≡ routes_without n rs
routes-below n rs = below-is n (length rs) rs (le_refl _) ∙ rw (take_all (length rs) rs (le_refl _), drop-length rs) (append-nil (routes_without n rs))
  where
    drop-length : (l : List Route) → drop (length l) l ≡ []
    drop-length [] = refl
    drop-length (x ∷ l) = drop-length l

-- ---- the octets that are written: a sum over the trees, each by itself

pub record-size : (id : ℕ) (m : Sent) → length (record_of id m) ≡ record_size m.message.name
unfolding record_of octets_of tlv two four
record-size id m = omega (arith, length-append m.message.name (tlv 0x0200 (four m.message.label) []))

unfoldable pub size_of : List Sent → ℕ
size_of [] = 0
size_of (m ∷ ms) = record_size m.message.name + size_of ms

pub records-size : (id : ℕ) (ms : List Sent) → length (records id ms) ≡ size_of ms
unfolding records size_of
records-size id [] = refl
records-size id (m ∷ ms) = length-append (record_of id m) (records (next_id id) ms) ∙ ap₂ ◌+◌ (record-size id m) (records-size (next_id id) ms)

size-append : (ms ns : List Sent) → size_of (ms ++ ns) ≡ size_of ms + size_of ns
unfolding size_of
size-append [] ns = omega arith
size-append (m ∷ ms) ns = let n = size-append ms ns in omega arith

-- what the tree t gives up
unfoldable pub shed_size : Card → Tree → ℕ
shed_size c t = pick (leads_on (held_for c t) t) 0 (pick (eqb t.label 0) 0 (record_size t.name))

-- no two trees carry one label, and each that is carried is not below the block
pub record Apart (c : Card) : Type 0 where
  pub some : 0 < c.base
  pub block : (i : ℕ) → i < length c.trees → ((tree_at i c).label ≡ 0 → ⊥) → c.base ≤ (tree_at i c).label
  pub once : (i j : ℕ) → i < length c.trees → j < length c.trees → (i ≡ j → ⊥) → (tree_at i c).label ≡ (tree_at j c).label → (tree_at i c).label ≡ 0

up-base : (i : ℕ) (c : Card) → (give_up i c).card.base ≡ c.base
unfolding give_up set_label set_use with_trees with_labels
up-base i c = refl

up-size : (i : ℕ) (c : Card) → length (give_up i c).card.trees ≡ length c.trees
unfolding give_up set_label set_use with_trees with_labels
up-size i c = simp length-set

up_at : (i : ℕ) (c : Card) (j : ℕ) → (i ≡ j → ⊥) → tree_at j (give_up i c).card ≡ tree_at j c
unfolding give_up tree_at set_label set_use with_trees with_labels
up_at i c j d = get_or-set_other c.trees i j _ (bare []) (λ z. d (sym z))

up-own : (i : ℕ) (c : Card) → i < length c.trees → (tree_at i (give_up i c).card).label ≡ 0
unfolding give_up tree_at set_label set_use with_trees with_labels with_label
up-own i c h = ap (λ (t : Tree). t.label) (get_or-set_same c.trees i _ (bare []) h)

up-use : (i : ℕ) (c : Card) (l : ℕ) → c.base ≤ (tree_at i c).label → ((tree_at i c).label ≡ l → ⊥) → use_of l (give_up i c).card ≡ use_of l c
unfolding give_up use_of set_label set_use with_trees with_labels
up-use i c l low d =
    by-test (leb c.base l)
    (λ e. let from = leb-true c.base l e in rw e (get_or-set_other c.labels ((tree_at i c).label - c.base) (l - c.base) _ free (λ z. d (omega arith))))
    (λ e. rw e refl)

use-zero : (c : Card) → 0 < c.base → use_of 0 c ≡ free
unfolding use_of
use-zero c h = rw (lt-leb c.base 0 h) refl

-- a tree at another place
module _ (c : Card) (A : Apart c) (i : ℕ) (h : i < length c.trees) (some-label : (tree_at i c).label ≡ 0 → ⊥) where
  up-held : (j : ℕ) → j < length c.trees → (i ≡ j → ⊥) → held_for (give_up i c).card (tree_at j c) ≡ held_for c (tree_at j c)
  unfolding held_for
  up-held j k d =
      by-test (eqb (tree_at j c).label 0)
      (λ e. ap (λ (l : ℕ). mapped_to (use_of l (give_up i c).card)) (eqb-true _ _ e) ∙ ap mapped_to (use-zero (give_up i c).card (rw (up-base i c) A.some) ∙ sym (use-zero c A.some)) ∙ ap (λ (l : ℕ). mapped_to (use_of l c)) (sym (eqb-true _ _ e)))
      (λ e. ap mapped_to (up-use i c (tree_at j c).label (A.block i h some-label) (λ z. some-label (A.once i j h k d z))))

  up-shed : (j : ℕ) → j < length c.trees → (i ≡ j → ⊥) → shed_size (give_up i c).card (tree_at j (give_up i c).card) ≡ shed_size c (tree_at j c)
  unfolding shed_size
  up-shed j k d = rw (up_at i c j d, up-held j k d) refl

  up_apart : Apart (give_up i c).card
  up_apart = record {
    some = rw (up-base i c) A.some;
    block = λ j k nz. by-test (eqb i j)
        (λ e. absurd (nz (subst (λ (x : ℕ). (tree_at x (give_up i c).card).label ≡ 0) (eqb-true i j e) (up-own i c h))))
        (λ e. let same-tree : tree_at j (give_up i c).card ≡ tree_at j c = up_at i c j (eqb-false i j e) in
        rw (up-base i c, same-tree) (A.block j (rw (up-size i c) at k) (λ z. nz (ap (λ (t : Tree). t.label) same-tree ∙ z))));
    once = λ j m k l d same-label. by-test (eqb i j)
        (λ e. subst (λ (x : ℕ). (tree_at x (give_up i c).card).label ≡ 0) (eqb-true i j e) (up-own i c h))
        (λ e. by-test (eqb i m)
        (λ f. same-label ∙ subst (λ (x : ℕ). (tree_at x (give_up i c).card).label ≡ 0) (eqb-true i m f) (up-own i c h))
        (λ f. let jt : tree_at j (give_up i c).card ≡ tree_at j c = up_at i c j (eqb-false i j e) in
        let mt : tree_at m (give_up i c).card ≡ tree_at m c = up_at i c m (eqb-false i m f) in
        ap (λ (t : Tree). t.label) jt ∙ A.once j m (rw (up-size i c) at k) (rw (up-size i c) at l) d (ap (λ (t : Tree). t.label) (sym jt) ∙ same-label ∙ ap (λ (t : Tree). t.label) mt)));
  }

-- one step: what it writes, and that it leaves the other trees as they are
pub record Sheds (i : ℕ) (c : Card) (m : Moved) : Type 0 where
  pub size : size_of m.sent ≡ shed_size c (tree_at i c)
  pub apart : Apart m.card
  pub trees : length m.card.trees ≡ length c.trees
  pub others : (j : ℕ) → j < length c.trees → (i ≡ j → ⊥) → shed_size m.card (tree_at j m.card) ≡ shed_size c (tree_at j c)

sheds : (i : ℕ) (c : Card) → Apart c → i < length c.trees → Sheds i c (shed i c)
unfolding shed let_go still
sheds i c A h =
    by-test (leads_on (held_for c (tree_at i c)) (tree_at i c))
    (λ e. rw e (record { size = unfold shed_size size_of in rw e refl; apart = A; trees = refl; others = λ j k d. refl }))
    (λ e. rw e (by-test (eqb (tree_at i c).label 0)
    (λ z. rw z (record { size = unfold shed_size size_of in rw (e, z) refl; apart = A; trees = refl; others = λ j k d. refl }))
    (λ z. rw z (record { size = unfold shed_size size_of give_up in rw (e, z) (omega arith); apart = up_apart c A i h (eqb-false _ _ z); trees = up-size i c; others = up-shed c A i h (eqb-false _ _ z) }))))

later_same : (c d : Card) (i : ℕ) → ((j : ℕ) → j < length c.trees → (i ≡ j → ⊥) → shed_size d (tree_at j d) ≡ shed_size c (tree_at j c)) → (n j : ℕ) → i < j → j + n ≤ length c.trees → sum_from (shed_size d) n j d ≡ sum_from (shed_size c) n j c
unfolding sum_from
later_same c d i o zero j a b = refl
later_same c d i o (suc n) j a b = ap₂ ◌+◌ (o j (omega arith) (λ e. omega arith)) (later_same c d i o n (suc j) (omega arith) (omega arith))

-- all of them
pub shed-size : (n i : ℕ) (c : Card) → Apart c → i + n ≤ length c.trees → size_of (shed_from n i c).sent ≡ sum_from (shed_size c) n i c
unfolding shed_from followed_by still sum_from
shed-size zero i c A h = unfold size_of in refl
shed-size (suc n) i c A h =
    let s : Sheds i c (shed i c) = sheds i c A (omega arith) in
    let size : length (shed i c).card.trees ≡ length c.trees = s.trees in
    size-append (shed i c).sent (shed_from n (suc i) (shed i c).card).sent
    ∙ ap₂ ◌+◌ s.size (shed-size n (suc i) (shed i c).card s.apart (omega arith) ∙ later_same c (shed i c).card i s.others n (suc i) (le_refl _) (omega arith))

-- ---- the same by the table as it was before the loss

-- what the loss of n makes the tree t give up
unfoldable pub loss_size : ℕ → Card → Tree → ℕ
loss_size n c t = pick (eqb (held_for c t) n) 0 (pick (leads_on (held_for c t) (with_branch n 0 t)) 0 (pick (eqb t.label 0) 0 (record_size t.name)))

without-leads : (n : ℕ) (c : Card) (t : Tree) (u : ℕ) → leads_on u (tree_without n c t) ≡ leads_on u (with_branch n 0 t)
unfolding leads_on not_held tree_without with_label with_branch
without-leads n c t u = refl

no_size : (d : Card) (s : Tree) → s.label ≡ 0 → shed_size d s ≡ 0
unfolding shed_size
no_size d s z = picked (λ (x : ℕ). x ≡ 0) (leads_on (held_for d s) s) (λ _. refl) (λ _. ap (λ (l : ℕ). pick (eqb l 0) 0 (record_size s.name)) z)

same_size : (d : Card) (s r t : Tree) (u : ℕ) → held_for d s ≡ u → leads_on u s ≡ leads_on u r → s.label ≡ t.label → s.name ≡ t.name → shed_size d s ≡ pick (leads_on u r) 0 (pick (eqb t.label 0) 0 (record_size t.name))
unfolding shed_size
same_size d s r t u a b l m =
    ap (λ (x : ℕ). pick (leads_on x s) 0 (pick (eqb s.label 0) 0 (record_size s.name))) a
    ∙ ap (λ (x : Bool). pick x 0 (pick (eqb s.label 0) 0 (record_size s.name))) b
    ∙ ap₂ (λ (x : ℕ) (y : List ℕ). pick (leads_on u r) 0 (pick (eqb x 0) 0 (record_size y))) l m

without-size-is : (n : ℕ) (c : Card) (t : Tree) → use_of 0 c ≡ free → shed_size (parted n c) (tree_without n c t) ≡ loss_size n c t
unfolding loss_size
without-size-is n c t none =
    by-test (eqb (held_for c t) n)
    (λ e. rw e (no_size (parted n c) (tree_without n c t) (without-label n c t ∙ rw e refl)))
    (λ e. rw e (same_size (parted n c) (tree_without n c t) (with_branch n 0 t) t (held_for c t) (parted-held n c t none ∙ rw e refl) (without-leads n c t (held_for c t)) (without-label n c t ∙ rw e refl) (without-name n c t)))

without-none : (n : ℕ) (c : Card) (t : Tree) → ((tree_without n c t).label ≡ 0 → ⊥) → (t.label ≡ 0 → ⊥) × ((tree_without n c t).label ≡ t.label)
without-none n c t nz =
    by-test (eqb (held_for c t) n)
    (λ e. absurd (nz (without-label n c t ∙ rw e refl)))
    (λ e. let its : (tree_without n c t).label ≡ t.label = without-label n c t ∙ rw e refl in ((λ z. nz (its ∙ z)), its))

parted-base : (n : ℕ) (c : Card) → (parted n c).base ≡ c.base
unfolding parted with_routes with_trees with_labels
parted-base n c = refl

pub parted-apart : (n : ℕ) (c : Card) → Apart c → Apart (parted n c)
unfolding tree_at
parted-apart n c A = record {
  some = rw (parted-base n c) A.some;
  block = λ i h nz. let s = without-none n c (tree_at i c) (λ z. nz (ap (λ (t : Tree). t.label) (parted-at n c i) ∙ z)) in
      rw (parted-base n c, parted-at n c i, s.1) (A.block i (rw (parted-size n c) at h) s.0);
  once = λ i j h k d e. by-test (eqb (tree_at i (parted n c)).label 0)
      (λ z. eqb-true _ _ z)
      (λ z. let nz : (tree_at i (parted n c)).label ≡ 0 → ⊥ = eqb-false _ _ z in
      let s = without-none n c (tree_at i c) (λ y. nz (ap (λ (t : Tree). t.label) (parted-at n c i) ∙ y)) in
      let r = without-none n c (tree_at j c) (λ y. nz (e ∙ ap (λ (t : Tree). t.label) (parted-at n c j) ∙ y)) in
      absurd (s.0 (A.once i j (rw (parted-size n c) at h) (rw (parted-size n c) at k) d (sym s.1 ∙ ap (λ (t : Tree). t.label) (sym (parted-at n c i)) ∙ e ∙ ap (λ (t : Tree). t.label) (parted-at n c j) ∙ r.1))));
}

sums_same : (n : ℕ) (c : Card) → use_of 0 c ≡ free → (k i : ℕ) → sum_from (shed_size (parted n c)) k i (parted n c) ≡ sum_from (loss_size n c) k i c
unfolding sum_from
sums_same n c none zero i = refl
sums_same n c none (suc k) i = ap₂ ◌+◌ (ap (shed_size (parted n c)) (parted-at n c i) ∙ without-size-is n c (tree_at i c) none) (sums_same n c none k (suc i))

-- So many octets a loss writes, where no two trees carry one label. The lent memory denotes no other card.
pub loss-size : (n : ℕ) (c : Card) → Apart c → (id : ℕ) → length (records id (shed_from (length c.trees) 0 (parted n c)).sent) ≡ sum_from (loss_size n c) (length c.trees) 0 c
loss-size n c A id =
    records-size id (shed_from (length c.trees) 0 (parted n c)).sent
    ∙ shed-size (length c.trees) 0 (parted n c) (parted-apart n c A) (omega (arith, parted-size n c))
    ∙ sums_same n c (use-zero c A.some) (length c.trees) 0
