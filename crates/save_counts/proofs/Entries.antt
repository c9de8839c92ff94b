-- Trees, one after the other: each is counted in the entry of its root. Assumes nothing.
use Prim.Native.Nat.{ℕ, ◌+◌, ◌≤◌, ◌<◌}
use native.Mathlib.Numerals.{add-one}
use native.Mathlib.Omega.{arith}
use mathlib.Core.Path.{◌≡◌, refl, sym, ap, ap₂, ◌∙◌}
use mathlib.Core.Bool.{true, false}
use mathlib.Core.List.{List, [], ◌∷◌, ◌++◌, map}
use lib.ListN.{length, take, get_or, set}
use lib.Seq.{set_out, take_all, take-suc, length-take-le}
use lib.Dec.{eqb, ltb}
use borrow.Author.Tests.{eqb-true, ltb-true, ltb-false}
use Rattle.meaning.specs.Octets.{pick, place, count, any, same}
use Rattle.meaning.specs.Lists.{by-test, place-finds, same-eq, same_refl, same-flip}
use Rattle.meaning.specs.Wire.{root_in}
use Rattle.meaning.specs.Card.{Route, Tree, Card, no_entry, with_routes, is_for, is_branch, is_empty, is_lone, bare, tree_at, tree_limit}
use Rattle.meaning.specs.Events.{of_root, total, in_root, one_standing, one_lone, worked_out, changed, recounted_for, recount, recounted}
use Rattle.meaning_save.specs.Save.{once_each, same_root, all_worked_out}
use Rattle.save_counts.specs.Counted.{counted}
use Rattle.save_counts.proofs.Places.{one-changed}
use Rattle.meaning_laws.specs.Counts.{standing-most, lone-most}

-- ---- sums

total-behind : (f : Tree → ℕ) (ts : List Tree) (t : Tree) → total f (ts ++ (t ∷ [])) ≡ total f ts + f t
unfolding total
total-behind f [] t = omega arith
total-behind f (s ∷ ts) t = let e = total-behind f ts t in omega arith

module _ (r : List ℕ) (f : Tree → ℕ) (most : (t : Tree) → f t ≤ 1) where
  total-most : (ts : List Tree) → total (in_root r f) ts ≤ length ts
  unfolding total in_root
  total-most [] = omega arith
  total-most (t ∷ ts) = by-test (of_root r t) (λ k. rw k (omega (arith, most t, total-most ts))) (λ k. rw k (omega (arith, total-most ts)))

-- a tree that counted nothing before, while the count is far from going round
changed-up : (n x : ℕ) → n ≤ tree_limit → x ≤ 1 → changed n 0 x ≡ n + x
unfolding changed
changed-up n x h k = by-test (eqb 0 x) (λ e. rw e (let z : 0 ≡ x = eqb-true 0 x e in omega arith)) (λ e. rw e (omega arith))

-- ---- one tree: nothing was counted in its place

abbrev pub nothing : Tree
nothing = bare []

pub nothing-stands : 0 ≡ one_standing nothing
unfolding bare one_standing is_empty any is_branch
nothing-stands = refl

pub nothing-lone : 0 ≡ one_lone nothing
unfolding bare one_lone is_lone count is_branch
nothing-lone = refl

module _ (s : Tree) where
  unfoldable counting : Route → Route
  counting x = pick (is_for (root_in s.name) x) (recounted_for nothing s x) x

  counting-other : (x : Route) → same x.root (root_in s.name) ≡ false → counting x ≡ x
  unfolding counting is_for
  counting-other x k = rw k refl

  counting-own : (x : Route) → is_for (root_in s.name) x ≡ true → counting x ≡ recounted_for nothing s x
  unfolding counting
  counting-own x k = rw k refl

  recount-is : (rs : List Route) → once_each same_root rs ≡ true → recount nothing s rs ≡ map counting rs
  unfolding recount is_for same_root
  recount-is rs once =
      let r : List ℕ = root_in s.name in
      let one = one-changed (λ (x : Route). x.root) counting r counting-other rs (no_entry r) once in
      by-test (ltb (place (is_for r) rs) (length rs))
      (λ k. ap (set rs (place (is_for r) rs)) (sym (counting-own _ (place-finds (is_for r) rs (no_entry r) (ltb-true _ _ k)))) ∙ sym one)
      (λ k. let out = ltb-false (place (is_for r) rs) (length rs) k in set_out rs _ _ out ∙ sym (one ∙ set_out rs _ _ out))

  module _ (ts : List Tree) (few : length ts ≤ tree_limit) where
    own-more : (x : Route) → x.root ≡ root_in s.name → (f : Tree → ℕ) → ((t : Tree) → f t ≤ 1) → changed (total (in_root x.root f) ts) 0 (f s) ≡ total (in_root x.root f) (ts ++ (s ∷ []))
    own-more x e f most =
        let own : in_root x.root f s ≡ f s = unfold in_root of_root in rw (e, same_refl (root_in s.name)) refl in
        changed-up _ (f s) (omega (arith, total-most x.root f most ts)) (most s) ∙ sym (total-behind (in_root x.root f) ts s ∙ ap (λ (n : ℕ). total (in_root x.root f) ts + n) own)

    other-same : (x : Route) → same x.root (root_in s.name) ≡ false → (f : Tree → ℕ) → total (in_root x.root f) ts ≡ total (in_root x.root f) (ts ++ (s ∷ []))
    other-same x k f =
        let none : in_root x.root f s ≡ 0 = unfold in_root of_root in rw (same-flip x.root (root_in s.name) k) refl in
        sym (total-behind (in_root x.root f) ts s ∙ omega (arith, none))

    counting-worked : (x : Route) → counting (worked_out ts x) ≡ worked_out (ts ++ (s ∷ [])) x
    unfolding worked_out recounted_for is_for
    counting-worked x =
        by-test (same x.root (root_in s.name))
        (λ k.
        let e : x.root ≡ root_in s.name = same-eq _ _ k in
        counting-own (worked_out ts x) k ∙ rw (← nothing-stands, ← nothing-lone, own-more x e one_standing standing-most, own-more x e one_lone lone-most) refl)
        (λ k. counting-other (worked_out ts x) k ∙ rw (other-same x k one_standing, other-same x k one_lone) refl)

    all-counting : (rs : List Route) → map counting (all_worked_out ts rs) ≡ all_worked_out (ts ++ (s ∷ [])) rs
    unfolding all_worked_out
    all-counting [] = refl
    all-counting (x ∷ rs) = ap₂ (λ (y : Route) (ys : List Route). y ∷ ys) (counting-worked x) (all-counting rs)

-- ---- one after the other

-- counts do not make roots the same
any-root : (ts : List Tree) (x : Route) (rs : List Route) → any (same_root (worked_out ts x)) (all_worked_out ts rs) ≡ any (same_root x) rs
unfolding any all_worked_out worked_out same_root is_for
any-root ts x [] = refl
any-root ts x (y ∷ rs) = rw (any-root ts x rs) refl

pub worked-once : (ts : List Tree) (rs : List Route) → once_each same_root (all_worked_out ts rs) ≡ once_each same_root rs
unfolding once_each all_worked_out
worked-once ts [] = refl
worked-once ts (x ∷ rs) = rw (any-root ts x rs, worked-once ts rs) refl

-- of the card c₀ the first i trees are counted
pub record Working (i : ℕ) (c₀ c : Card) : Type 0 where
  pub made : c ≡ with_routes (all_worked_out (take i c₀.trees) c₀.routes) c₀

pub working-none : (c : Card) → all_worked_out [] c.routes ≡ c.routes → Working 0 c c
working-none c e = record { made = unfold with_routes in ap (λ (rs : List Route). with_routes rs c) (sym e) }

module _ (i : ℕ) (c₀ c : Card) (w : Working i c₀ c) where
  pub working-many : length c.trees ≡ length c₀.trees
  working-many = ap (λ (x : Card). length x.trees) w.made ∙ unfold with_routes in refl

  its-tree : tree_at i c ≡ get_or c₀.trees i (bare [])
  its-tree = ap (λ (x : Card). tree_at i x) w.made ∙ unfold with_routes tree_at in refl

  its-routes : c.routes ≡ all_worked_out (take i c₀.trees) c₀.routes
  its-routes = ap (λ (x : Card). x.routes) w.made ∙ unfold with_routes in refl

  with-routes : (rs : List Route) → recount nothing (tree_at i c) c.routes ≡ rs → recounted nothing (tree_at i c) c ≡ with_routes rs c₀
  unfolding recounted with_routes
  with-routes rs e = ap₂ (λ (xs : List Route) (x : Card). with_routes xs x) e w.made

  pub working-more : (c' : Card) → i < length c₀.trees → length c₀.trees ≤ tree_limit → once_each same_root c₀.routes ≡ true → c' ≡ recounted nothing (tree_at i c) c → Working (i + 1) c₀ c'
  working-more c' h few once s =
      let ts : List Tree = take i c₀.trees in
      let t : Tree = get_or c₀.trees i (bare []) in
      let few-before : length ts ≤ tree_limit = omega (arith, length-take-le i c₀.trees (omega arith)) in
      let more : ts ++ (t ∷ []) ≡ take (i + 1) c₀.trees = rw (add-one i) (sym (take-suc c₀.trees i (bare []) h)) in
      let step : recount nothing (tree_at i c) c.routes ≡ all_worked_out (take (i + 1) c₀.trees) c₀.routes =
      rw (its-tree, its-routes) (recount-is t (all_worked_out ts c₀.routes) (worked-once ts c₀.routes ∙ once) ∙ all-counting t ts few-before c₀.routes ∙ ap (λ (l : List Tree). all_worked_out l c₀.routes) more) in
      record { made = s ∙ with-routes _ step }

  pub working-all : length c₀.trees ≤ i → c ≡ counted c₀
  working-all h = w.made ∙ unfold counted in ap (λ (l : List Tree). with_routes (all_worked_out l c₀.routes) c₀) (take_all i c₀.trees h)
