-- The laws by which a Mapping follows the definitions. Assumes nothing.
use Prim.Native.Nat.{ℕ, ◌<◌}
use mathlib.Core.Path.{◌≡◌, refl, sym}
use mathlib.Core.Bool.{true, false, not}
use mathlib.Core.List.{List, []}
use lib.ListN.{get_or, length}
use lib.Dec.{eqb}
use borrow.Author.Tests.{eq-eqb, ne_eqb}
use Rattle.meaning.specs.Octets.{◌when◌else◌}
use Rattle.meaning.specs.Lists.{positive}
use Rattle.meaning.specs.Card.{Tree, Card, free, with_branch, bare, tree_place, tree_at, is_empty, use_of, neighbour_count}
use Rattle.meaning.specs.Events.{unless, finish, holder_of, become, branch, other_label, on_mapping}
use Rattle.meaning.specs.Calls.{Does}
use Rattle.event_tree.proofs.Found.{found-tree}
use Rattle.event_tree.proofs.Ends.{does-refused}
use Rattle.event_tree.proofs.Upstream.{any-set}
use Rattle.event_tree.proofs.Newcomer.{none-stands, bare-branch, Newcomer}

module _ (c : Card) (a : List ℕ) (i : ℕ) (ei : i ≡ tree_place a c) where
  module _ (h : i < length c.trees) where
    pub mapping-other : (n l : ℕ) (s : List ℕ) → other_label (tree_at i c) n l ≡ true → Does (finish (length s) c (on_mapping c n a l)) 10 0 s s c
    unfolding on_mapping
    mapping-other n l s p = rw (found-tree c a i ei h, p) (unfold ◌when◌else◌ unless in does-refused c 10 s)

    pub mapping-standing : (n l : ℕ) → other_label (tree_at i c) n l ≡ false → on_mapping c n a l ≡ become c [] (with_branch n l (tree_at i c))
    unfolding on_mapping
    mapping-standing n l p = rw (found-tree c a i ei h, p) (unfold ◌when◌else◌ unless in refl)

  module _ (h : i ≡ length c.trees) where
    pub mapping-new : (n l : ℕ) → become c [] (with_branch n l (bare a)) ≡ on_mapping c n a l
    unfolding on_mapping other_label branch
    mapping-new n l = rw (none-stands c a i ei h, zeros) (unfold ◌when◌else◌ unless in refl)
      where
        zeros : eqb (get_or (bare a).branches n 0) 0 ≡ true
        zeros = eq-eqb (get_or (bare a).branches n 0) 0 (bare-branch a n)

-- ---- tests on a branch

module _ (t : Tree) (n l b : ℕ) (e : b ≡ get_or t.branches n 0) where
  pub other_none : b ≡ 0 → false ≡ other_label t n l
  unfolding other_label branch
  other_none z = rw (← e, eq-eqb b 0 z) refl

  pub other-some : (b ≡ 0 → ⊥) → not (eqb b l) ≡ other_label t n l
  unfolding other_label branch
  other-some z = rw (← e, ne_eqb b 0 z) refl

-- ---- a tree that gains a branch

pub branch-full : (t : Tree) (n l : ℕ) → n < length t.branches → 0 < l → is_empty (with_branch n l t) ≡ false
unfolding is_empty with_branch
branch-full t n l h k = rw (any-set t.branches n l h k) refl

pub branch-left : (t : Tree) (n l : ℕ) → n < length t.branches → (l ≡ 0 → ⊥) → false ≡ is_empty (with_branch n l t)
branch-left t n l h z = sym (branch-full t n l h (positive l z))

module _ (c : Card) (a : List ℕ) (i u : ℕ) (ei : i ≡ tree_place a c) (h : i ≡ length c.trees) (z : use_of 0 c ≡ free) where
  pub mapped-new : (n l : ℕ) → n < neighbour_count → 0 < l → u ≡ holder_of c (with_branch n l (bare a)) → Newcomer c (with_branch n l (bare a)) a i u
  mapped-new n l k p eu = record {
    name = unfold with_branch bare in refl;
    place = unfold with_branch bare in ei;
    last = h;
    zero = z;
    label = unfold with_branch bare in refl;
    upstream = eu;
    full = branch-full (bare a) n l (unfold bare in k) p;
  }
