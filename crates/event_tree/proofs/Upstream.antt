-- A tree's branches, and its upstream. Assumes nothing.
use Prim.Native.Nat.{ℕ, zero, suc, ◌≤◌, ◌<◌}
use native.Mathlib.Nat.{not-suc-le-zero, le_of_suc-le-suc}
use mathlib.Core.Path.{◌≡◌, refl, sym, ap, ◌∙◌}
use mathlib.Core.Bool.{Bool, true, false}
use mathlib.Core.List.{List, [], ◌∷◌}
use lib.ListN.{length, set, replicate, length-set}
use lib.Seq.{set-set, set_comm}
use lib.Dec.{ltb}
use borrow.Author.Tests.{lt-ltb}
use Rattle.meaning.specs.Octets.{any}
use Rattle.meaning.specs.Lists.{picked, set-replicate}
use Rattle.meaning.specs.Wire.{root_in}
use Rattle.meaning.specs.Card.{Tree, Card, no_route, with_branch, with_leaf, bare, is_branch, not_held, leads_on, route_of, neighbour_count, nobody, this_node}
use Rattle.meaning.specs.Events.{upstream, holder, holder_of}
use Rattle.event_holder.proofs.Held.{holder-range, with_none}

-- ---- a tree's branches, and its upstream

no-branch : (k : ℕ) → any is_branch (replicate k 0) ≡ false
unfolding any is_branch
no-branch zero = refl
no-branch (suc k) = no-branch k

pub any-zeros : (k u : ℕ) → any is_branch (set (replicate k 0) u 0) ≡ false
any-zeros k u = ap (any is_branch) (set-replicate k u 0) ∙ no-branch k

pub any-set : (bs : List ℕ) (n l : ℕ) → n < length bs → 0 < l → any is_branch (set bs n l) ≡ true
unfolding any is_branch
any-set [] n l h k = absurd (not-suc-le-zero h)
any-set (b ∷ bs) zero l h k = rw (lt-ltb 0 l k) refl
any-set (b ∷ bs) (suc n) l h k = picked (λ (x : Bool). x ≡ true) (ltb 0 b) (λ _. refl) (λ _. any-set bs n l (le_of_suc-le-suc h) k)

-- a new tree with one branch: held, where that is the upstream's own
module _ (c : Card) (a : List ℕ) (n l u : ℕ) (near : n < neighbour_count) (some : 0 < l) (eu : u ≡ upstream (route_of (root_in a) c)) where
  pub new-held : u ≡ n → no_route ≡ holder_of c (with_branch n l (bare a))
  unfolding holder_of holder leads_on not_held with_branch bare
  new-held e = rw (← eu, e) (rw (set-set (replicate neighbour_count 0) n l 0, any-zeros 16 n) refl)

  pub new-led : (u ≡ n → ⊥) → u ≡ holder_of c (with_branch n l (bare a))
  unfolding holder_of holder leads_on not_held with_branch bare
  new-led d = rw (← eu) (rw (set_comm (replicate neighbour_count 0) n u l 0 (λ e. d (sym e)), any-set (set (replicate neighbour_count 0) u 0) n l (rw (length-set {A = ℕ} (replicate neighbour_count 0) u 0) near) some) refl)

-- what the code finds for a tree t, whose upstream is u

pub held-range : (t : Tree) (u r : ℕ) → u ≤ nobody → (u ≡ this_node → ⊥) → r ≡ holder u t → (r ≤ nobody) × (r ≡ this_node → ⊥)
held-range t u r low here e = let range = holder-range u t low here in (rw e range.0, (λ z. range.1 (sym e ∙ z)))

pub branch_held : (c : Card) (t : Tree) (n x : ℕ) (leaf : Bool) (u r : ℕ) → leaf ≡ t.leaf → u ≡ upstream (route_of (root_in t.name) c) → r ≡ holder u (with_leaf leaf (with_branch n x t)) → r ≡ holder_of c (with_branch n x t)
unfolding with_leaf with_branch holder_of
branch_held c t n x leaf u r el eu e = rw (← eu, ← el) e

pub leaf-held : (c : Card) (t : Tree) (leaf : Bool) (u r : ℕ) → length t.branches ≡ neighbour_count → u ≡ upstream (route_of (root_in t.name) c) → r ≡ holder u (with_leaf leaf (with_branch 16 0 t)) → r ≡ holder_of c (with_leaf leaf t)
leaf-held c t leaf u r sized eu e = e ∙ ap (holder u) (with_none t leaf 0 sized) ∙ (unfold holder_of with_leaf in rw eu refl)
