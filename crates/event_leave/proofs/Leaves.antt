-- The laws by which a leaf that leaves follows the definitions. Assumes nothing.
use Prim.Native.Nat.{ℕ, ◌<◌}
use native.Mathlib.Omega.{arith}
use mathlib.Core.Path.{◌≡◌, refl, sym, ap₂, ◌∙◌}
use mathlib.Core.Bool.{Bool, true, false, not, and-true}
use mathlib.Core.List.{List, []}
use lib.ListN.{length, set}
use lib.Seq.{set-set, set_out}
use Rattle.meaning.specs.Octets.{any, ◌when◌else◌}
use Rattle.meaning.specs.Card.{Tree, Card, free, with_leaf, bare, tree_place, tree_at, is_branch, is_empty, use_of, neighbour_count}
use Rattle.meaning.specs.Events.{refused, unless, finish, need, labels_short, holder_of, tree_refusal, enter, become, not_leaf}
use Rattle.meaning.specs.Calls.{Does}
use Rattle.meaning.specs.Lists.{by-test}
use Rattle.event_leave.specs.Order.{leave_of}
use Rattle.event_tree.proofs.Found.{found-tree}
use Rattle.event_tree.proofs.Ends.{does-refused}
use Rattle.event_tree.proofs.Newcomer.{none-stands, bare-refusal}
use Rattle.event_tree.proofs.Standing.{stands-in, need-same, Standing}

-- ---- a tree that loses its leaf

module _ (c : Card) (i : ℕ) (ei : i ≡ tree_place (tree_at i c).name c) (h : i < length c.trees) (u : ℕ) where
  pub left-standing : u ≡ holder_of c (with_leaf false (tree_at i c)) → Standing c (with_leaf false (tree_at i c)) i u
  left-standing eu = record { place = unfold with_leaf in ei; within = h; label = unfold with_leaf in refl; name = unfold with_leaf in refl; upstream = eu }

-- no branch changes, and none is set apart
pub leaf-gone : (t : Tree) (x : Bool) → length t.branches ≡ neighbour_count → x ≡ any is_branch (set (set t.branches 16 0) 16 0) → not x ≡ is_empty (with_leaf false t)
leaf-gone t x l e = rw (e, set-set t.branches 16 0 0, set_out t.branches 16 0 (omega arith)) (unfold is_empty with_leaf in sym (and-true (not (any is_branch t.branches))))

-- ---- two numbers, by a test

pub first_of : {b : Bool} (n m : ℕ) → b ≡ true → n ≡ (n when b else m)
first_of n m e = rw e (unfold ◌when◌else◌ in refl)

pub second-of : {b : Bool} (n m : ℕ) → b ≡ false → m ≡ (n when b else m)
second-of n m e = rw e (unfold ◌when◌else◌ in refl)

-- ---- the order

-- a leaf leaves as any tree becomes another
pub leave-leaf : (c : Card) (a : List ℕ) (i : ℕ) → i ≡ tree_place a c → i < length c.trees → (tree_at i c).leaf ≡ true → leave_of c a ≡ become c [] (with_leaf false (tree_at i c))
unfolding leave_of become not_leaf
leave-leaf c a i ei h e = rw (found-tree c a i ei h, e) (unfold ◌when◌else◌ unless in refl)

-- a tree that stands, and is no leaf: 12 or 14
module _ (c : Card) (a : List ℕ) (i u : ℕ) (ei : i ≡ tree_place a c) (S : Standing c (with_leaf false (tree_at i c)) i u) (e : (tree_at i c).leaf ≡ false) (s : List ℕ) where
  leave-is : leave_of c a ≡ unless (12 when labels_short c (need c (tree_at i c) u) else 0) (refused 14)
  unfolding leave_of not_leaf tree_at unless
  leave-is =
      rw (found-tree c a i ei S.within, e)
      (unfold ◌when◌else◌ tree_refusal in
      ap₂ (λ (b : Bool) (n : ℕ). unless (11 when b else 12 when labels_short c n else 0) (unless 14 (enter c [] (with_leaf false (tree_at i c)))))
      (stands-in c (with_leaf false (tree_at i c)) i S.place S.within)
      (rw (← S.upstream) (need-same c (with_leaf false (tree_at i c)) (tree_at i c) u S.label))
      ∙ unfold unless in refl)

  pub leave-leafless : (r : ℕ) → r ≡ (12 when labels_short c (need c (tree_at i c) u) else 14) → Does (finish (length s) c (leave_of c a)) r 0 s s c
  leave-leafless r k =
      by-test (labels_short c (need c (tree_at i c) u))
      (λ t. rw (leave-is, k, t) (unfold ◌when◌else◌ unless in does-refused c 12 s))
      (λ t. rw (leave-is, k, t) (unfold ◌when◌else◌ unless in does-refused c 14 s))

-- a tree that does not stand

pub leave-unknown : (c : Card) (a : List ℕ) → tree_place a c ≡ length c.trees → use_of 0 c ≡ free → (s : List ℕ) → Does (finish (length s) c (leave_of c a)) 14 0 s s c
unfolding leave_of not_leaf
leave-unknown c a e z s =
    rw (none-stands c a (tree_place a c) refl e, same-bare, bare-refusal c a z) (unfold unless bare ◌when◌else◌ in does-refused c 14 s)
  where
    same-bare : with_leaf false (bare a) ≡ bare a
    same-bare = unfold with_leaf bare in refl
