-- For whom a tree holds a label: by its leaf, by its branches. Assumes nothing.
use Prim.Native.Nat.{ℕ, ◌≤◌}
use native.Mathlib.Omega.{arith}
use mathlib.Core.Path.{◌≡◌, refl, ap}
use mathlib.Core.Bool.{Bool, true, false}
use mathlib.Core.List.{List}
use lib.ListN.{length, set}
use lib.Seq.{set_out}
use Rattle.meaning.specs.Octets.{any}
use Rattle.meaning.specs.Lists.{by-test, picked}
use Rattle.meaning.specs.Card.{Tree, nobody, is_branch, not_held, leads_on, with_branch, with_leaf, neighbour_count, this_node}
use Rattle.meaning.specs.Events.{holder}

module _ (u n x : ℕ) (t : Tree) (leaf : Bool) where
  pub held-leaf : leaf ≡ true → u ≡ holder u (with_leaf leaf (with_branch n x t))
  unfolding holder leads_on not_held with_leaf with_branch
  held-leaf e = rw e (by-test (any is_branch (set (set t.branches n x) u 0)) (λ k. rw k refl) (λ k. rw k refl))

  pub held-branch : any is_branch (set (set t.branches n x) u 0) ≡ true → u ≡ holder u (with_leaf leaf (with_branch n x t))
  unfolding holder leads_on not_held with_leaf with_branch
  held-branch e = rw e refl

  pub held_none : leaf ≡ false → any is_branch (set (set t.branches n x) u 0) ≡ false → nobody ≡ holder u (with_leaf leaf (with_branch n x t))
  unfolding holder leads_on not_held with_leaf with_branch
  held_none e k = rw (e, k) refl

-- sixteen places: a store at the seventeenth is none
pub with_none : (t : Tree) (leaf : Bool) (x : ℕ) → length t.branches ≡ neighbour_count → with_leaf leaf (with_branch 16 x t) ≡ with_leaf leaf t
unfolding with_leaf with_branch
with_none t leaf x e = ap (λ (bs : List ℕ). record { name = t.name; branches = bs; leaf = leaf; label = t.label }) (set_out t.branches 16 x (omega arith))

pub with-own : (t : Tree) → with_leaf t.leaf t ≡ t
unfolding with_leaf
with-own t = refl

-- where u is a neighbour or none, so is who holds the label
pub holder-range : (u : ℕ) (t : Tree) → u ≤ nobody → (u ≡ this_node → ⊥) → (holder u t ≤ nobody) × (holder u t ≡ this_node → ⊥)
unfolding holder
holder-range u t low not-here = picked (λ (x : ℕ). (x ≤ nobody) × (x ≡ this_node → ⊥)) (leads_on u t) (λ _. (low, not-here)) (λ _. (omega arith, (λ e. omega arith)))
