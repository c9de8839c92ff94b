-- The laws by which a leaf that joins follows the definitions. Assumes nothing.
use Prim.Native.Nat.{ℕ, ◌<◌}
use mathlib.Core.Path.{◌≡◌, refl, ◌∙◌}
use mathlib.Core.Bool.{true, false, not, and-false}
use mathlib.Core.List.{List, []}
use lib.ListN.{length}
use Rattle.meaning.specs.Octets.{any}
use Rattle.meaning.specs.Lists.{by-test}
use Rattle.meaning.specs.Wire.{root_in}
use Rattle.meaning.specs.Card.{Tree, Card, free, with_leaf, bare, tree_place, tree_at, is_branch, is_empty, not_held, leads_on, use_of, route_of}
use Rattle.meaning.specs.Events.{upstream, holder, holder_of, become}
use Rattle.event_join.specs.Order.{join_of}
use Rattle.event_tree.proofs.Found.{found-tree}
use Rattle.event_tree.proofs.Newcomer.{none-stands, Newcomer}
use Rattle.event_tree.proofs.Standing.{Standing}

-- ---- a tree that gains a leaf

pub leaf-full : (t : Tree) → is_empty (with_leaf true t) ≡ false
unfolding is_empty with_leaf
leaf-full t = and-false (not (any is_branch t.branches))

-- a tree with a leaf leads on, whoever is its upstream
leaf-upstream : (c : Card) (a : List ℕ) → upstream (route_of (root_in a) c) ≡ holder_of c (with_leaf true (bare a))
unfolding holder_of holder leads_on with_leaf bare
leaf-upstream c a = by-test (any is_branch (not_held (upstream (route_of (root_in a) c)) (with_leaf true (bare a)))) (λ e. rw e refl) (λ e. rw e refl)

module _ (c : Card) (i : ℕ) (ei : i ≡ tree_place (tree_at i c).name c) (h : i < length c.trees) (u : ℕ) where
  pub joined-standing : u ≡ holder_of c (with_leaf true (tree_at i c)) → Standing c (with_leaf true (tree_at i c)) i u
  joined-standing eu = record { place = unfold with_leaf in ei; within = h; label = unfold with_leaf in refl; name = unfold with_leaf in refl; upstream = eu }

module _ (c : Card) (a : List ℕ) (i u : ℕ) (ei : i ≡ tree_place a c) (h : i ≡ length c.trees) (z : use_of 0 c ≡ free) where
  pub joined-new : u ≡ upstream (route_of (root_in a) c) → Newcomer c (with_leaf true (bare a)) a i u
  joined-new eu = record {
    name = unfold with_leaf bare in refl;
    place = unfold with_leaf bare in ei;
    last = h;
    zero = z;
    label = unfold with_leaf bare in refl;
    upstream = eu ∙ leaf-upstream c a;
    full = leaf-full (bare a);
  }

-- ---- the order

module _ (c : Card) (a : List ℕ) (i : ℕ) (ei : i ≡ tree_place a c) where
  pub join-standing : i < length c.trees → join_of c a ≡ become c [] (with_leaf true (tree_at i c))
  unfolding join_of
  join-standing h = rw (found-tree c a i ei h) refl

  pub join-new : i ≡ length c.trees → join_of c a ≡ become c [] (with_leaf true (bare a))
  unfolding join_of
  join-new h = rw (none-stands c a i ei h) refl
