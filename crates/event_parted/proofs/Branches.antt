-- Branches: the first i trees have lost theirs. Assumes nothing.
use Prim.Native.Nat.{ℕ, zero, suc, ◌+◌, ◌<◌}
use native.Mathlib.Numerals.{add-one}
use native.Mathlib.Omega.{arith}
use mathlib.Core.Path.{◌≡◌, refl, sym, ap, ap₂, ◌∙◌}
use mathlib.Core.List.{List, [], ◌∷◌}
use lib.ListN.{length, drop, get_or, set, drop_of_length-le}
use lib.Seq.{drop-cons, set-get_or}
use Rattle.meaning.specs.Card.{Route, Tree, Card, with_routes, with_trees, with_branch, bare, tree_at}
use Rattle.meaning.specs.Events.{recount, recounted, recounted_without}
use Rattle.memory_counts.proofs.Counting.{counted-still}
use Rattle.event_parted.specs.Parted.{branches_without}

unfoldable pub first_without : ℕ → ℕ → List Tree → List Tree
first_without n zero ts = ts
first_without n (suc i) [] = []
first_without n (suc i) (t ∷ ts) = with_branch n 0 t ∷ first_without n i ts

module _ (n : ℕ) where
  first-length : (i : ℕ) (ts : List Tree) → length (first_without n i ts) ≡ length ts
  unfolding first_without
  first-length zero ts = refl
  first-length (suc i) [] = refl
  first-length (suc i) (t ∷ ts) = ap suc (first-length i ts)

  first_next : (i : ℕ) (ts : List Tree) (d : Tree) → i < length ts → set (first_without n i ts) i (with_branch n 0 (get_or (first_without n i ts) i d)) ≡ first_without n (suc i) ts
  unfolding first_without
  first_next i [] d h = absurd (omega arith)
  first_next zero (t ∷ ts) d h = refl
  first_next (suc i) (t ∷ ts) d h = ap (λ (l : List Tree). with_branch n 0 t ∷ l) (first_next i ts d (omega arith))

  first-all : (ts : List Tree) → first_without n (length ts) ts ≡ branches_without n ts
  unfolding first_without branches_without
  first-all [] = refl
  first-all (t ∷ ts) = ap (λ (l : List Tree). with_branch n 0 t ∷ l) (first-all ts)

  -- the trees behind them are as they were
  first-later : (i : ℕ) (ts : List Tree) (d : Tree) → get_or (first_without n i ts) i d ≡ get_or ts i d
  unfolding first_without
  first-later zero ts d = refl
  first-later (suc i) [] d = refl
  first-later (suc i) (t ∷ ts) d = first-later i ts d

-- a tree that has no branch of n loses none, and is counted as it was
less_none : (t : Tree) (n : ℕ) → get_or t.branches n 0 ≡ 0 → with_branch n 0 t ≡ t
unfolding with_branch
less_none t n z = let cleared : set t.branches n 0 ≡ t.branches = rw (← z) (set-get_or t.branches n 0) in rw cleared refl

same-trees : (c : Card) (i : ℕ) → with_trees (set c.trees i (tree_at i c)) c ≡ c
unfolding with_trees tree_at
same-trees c i = ap (λ (ts : List Tree). with_trees ts c) (set-get_or c.trees i (bare []))

pub none-there : (c : Card) (i n : ℕ) → get_or (tree_at i c).branches n 0 ≡ 0 → c ≡ recounted (tree_at i c) (with_branch n 0 (tree_at i c)) (with_trees (set c.trees i (with_branch n 0 (tree_at i c))) c)
none-there c i n z = rw (less_none (tree_at i c) n z, same-trees c i) (counted-still (tree_at i c) (tree_at i c) c refl refl)

-- i trees of the card c₀ have lost their branch, and those that are left are to be counted
pub record Ending (n i : ℕ) (c₀ c : Card) : Type 0 where
  pub rows : c ≡ with_routes c.routes (with_trees (first_without n i c₀.trees) c₀)
  pub counts : recounted_without n (drop i c₀.trees) c.routes ≡ recounted_without n c₀.trees c₀.routes

pub ending-none : (n : ℕ) (c : Card) → Ending n 0 c c
ending-none n c = record { rows = unfold first_without with_trees with_routes in refl; counts = refl }

ending-trees : (n i : ℕ) (c₀ c : Card) → Ending n i c₀ c → c.trees ≡ first_without n i c₀.trees
ending-trees n i c₀ c e = ap (λ (x : Card). x.trees) e.rows ∙ unfold with_routes with_trees in refl

pub ending-many : (n i : ℕ) (c₀ c : Card) → Ending n i c₀ c → length c.trees ≡ length c₀.trees
ending-many n i c₀ c e = ap (λ (ts : List Tree). length ts) (ending-trees n i c₀ c e) ∙ first-length n i c₀.trees

over-rows : (c₀ c : Card) (xs rs : List Route) (us vs : List Tree) → c ≡ with_routes rs (with_trees vs c₀) → with_routes xs (with_trees us c) ≡ with_routes xs (with_trees us c₀)
over-rows c₀ c xs rs us vs e = ap (λ (d : Card). with_routes xs (with_trees us d)) e ∙ unfold with_routes with_trees in refl

module _ (n i : ℕ) (c₀ c c' : Card) (h : i < length c₀.trees) (e : Ending n i c₀ c) where
  abbrev one : Tree
  one = get_or c₀.trees i (bare [])

  abbrev changed : Tree → Card
  changed t = recounted t (with_branch n 0 t) (with_trees (set c.trees i (with_branch n 0 t)) c)

  its-tree : tree_at i c ≡ one
  unfolding tree_at
  its-tree = ap (λ (ts : List Tree). get_or ts i (bare [])) (ending-trees n i c₀ c e) ∙ first-later n i c₀.trees (bare [])

  set_first : set c.trees i (with_branch n 0 one) ≡ first_without n (suc i) c₀.trees
  set_first =
      let at : with_branch n 0 one ≡ with_branch n 0 (get_or (first_without n i c₀.trees) i (bare [])) = ap (with_branch n 0) (sym (first-later n i c₀.trees (bare []))) in
      rw (ending-trees n i c₀ c e, at) (first_next n i c₀.trees (bare []) h)

  pub ending-more : c' ≡ changed (tree_at i c) → Ending n (i + 1) c₀ c'
  ending-more s = rw (add-one i) (record {
    rows = now ∙ rw set_first (over-rows c₀ c _ c.routes _ _ e.rows) ∙ ap (λ (rs : List Route). with_routes rs (with_trees (first_without n (suc i) c₀.trees) c₀)) (sym its-routes);
    counts = ap (recounted_without n (drop (suc i) c₀.trees)) its-routes ∙ sym next ∙ e.counts;
  })
    where
      is : c' ≡ changed one
      is = s ∙ ap changed its-tree

      its-routes : c'.routes ≡ recount one (with_branch n 0 one) c.routes
      its-routes = ap (λ (x : Card). x.routes) is ∙ unfold recounted with_routes with_trees in refl

      now : c' ≡ with_routes (recount one (with_branch n 0 one) c.routes) (with_trees (set c.trees i (with_branch n 0 one)) c)
      now = is ∙ unfold recounted with_trees in refl

      next : recounted_without n (drop i c₀.trees) c.routes ≡ recounted_without n (drop (suc i) c₀.trees) (recount one (with_branch n 0 one) c.routes)
      next = rw (drop-cons c₀.trees i (bare []) h) (unfold recounted_without in refl)

pub ending-all : (n i : ℕ) (c₀ c : Card) → i ≡ length c₀.trees → Ending n i c₀ c → c ≡ with_routes (recounted_without n c₀.trees c₀.routes) (with_trees (branches_without n c₀.trees) c₀)
ending-all n i c₀ c q e =
    e.rows
    ∙ ap₂ (λ (rs : List Route) (ts : List Tree). with_routes rs (with_trees ts c₀)) (sym none_left ∙ e.counts) (ap (λ (j : ℕ). first_without n j c₀.trees) q ∙ first-all n c₀.trees)
  where
    none_left : recounted_without n (drop i c₀.trees) c.routes ≡ c.routes
    none_left = rw (drop_of_length-le c₀.trees {i = i} (omega arith)) (unfold recounted_without in refl)
