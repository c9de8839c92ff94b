-- The rule of labels leaves the routes alone.
-- Assumes nothing.
use Prim.Native.Nat.{ℕ, zero, suc}
use Rattle.std.specs.Prelude.{◌≡◌, List, length, eqb}
use Rattle.std.proofs.Math.Path.{refl}
use Rattle.std.proofs.Common.{◌∙◌}
use Rattle.meaning.specs.Lists.{picked}
use Rattle.meaning.specs.Card.{Card, nobody, with_trees, with_labels, tree_at, held_for, with_last, is_empty, leads_on}
use Rattle.meaning.specs.Events.{Moved, still, followed_by, set_use, set_label, give_up, give, let_go, take_up, move_label, relabel, holder, of_root, move_one, move_from, move_all, swept, parted, shed, shed_from, swept_below}

let-go-routes : (i : ℕ) (c : Card) → (let_go i c).card.routes ≡ c.routes
unfolding let_go still give_up set_label set_use with_trees with_labels
let-go-routes i c = picked (λ (m : Moved). m.card.routes ≡ c.routes) (eqb (tree_at i c).label 0) (λ _. refl) (λ _. refl)

take-up-routes : (i u : ℕ) (c : Card) → (take_up i u c).card.routes ≡ c.routes
unfolding take_up still give set_label set_use with_trees with_labels with_last
take-up-routes i u c = picked (λ (m : Moved). m.card.routes ≡ c.routes) (eqb u nobody) (λ _. refl) (λ _. refl)

move-routes : (i u : ℕ) (c : Card) → (move_label i u c).card.routes ≡ c.routes
unfolding move_label followed_by
move-routes i u c = take-up-routes i u (let_go i c).card ∙ let-go-routes i c

pub relabel-routes : (i u : ℕ) (c : Card) → (relabel i u c).card.routes ≡ c.routes
unfolding relabel still
relabel-routes i u c = picked (λ (m : Moved). m.card.routes ≡ c.routes) (eqb (held_for c (tree_at i c)) u) (λ _. refl) (λ _. move-routes i u c)

module _ (r : List ℕ) (u : ℕ) where
  one-routes : (i : ℕ) (c : Card) → (move_one r u i c).card.routes ≡ c.routes
  unfolding move_one still
  one-routes i c = picked (λ (m : Moved). m.card.routes ≡ c.routes) (of_root r (tree_at i c)) (λ _. move-routes i (holder u (tree_at i c)) c) (λ _. refl)

  from-routes : (n i : ℕ) (c : Card) → (move_from r u n i c).card.routes ≡ c.routes
  unfolding move_from followed_by still
  from-routes zero i c = refl
  from-routes (suc n) i c = from-routes n (suc i) (move_one r u i c).card ∙ one-routes i c

  pub all-routes : (c : Card) → (move_all r u c).card.routes ≡ c.routes
  unfolding move_all
  all-routes c = from-routes (length c.trees) 0 c

-- Nor does the loss of a neighbour touch any route but those through it.

shed-routes : (i : ℕ) (c : Card) → (shed i c).card.routes ≡ c.routes
unfolding shed still
shed-routes i c = picked (λ (m : Moved). m.card.routes ≡ c.routes) (leads_on (held_for c (tree_at i c)) (tree_at i c)) (λ _. refl) (λ _. let-go-routes i c)

shed-all-routes : (n i : ℕ) (c : Card) → (shed_from n i c).card.routes ≡ c.routes
unfolding shed_from followed_by still
shed-all-routes zero i c = refl
shed-all-routes (suc n) i c = shed-all-routes n (suc i) (shed i c).card ∙ shed-routes i c

swept-routes : (n : ℕ) (c : Card) → (swept_below n c).routes ≡ c.routes
unfolding swept_below
swept-routes zero c = refl
swept-routes (suc n) c = swept-routes n (swept n c) ∙ unfold swept with_trees in picked (λ (x : Card). x.routes ≡ c.routes) (is_empty (tree_at n c)) (λ _. refl) (λ _. refl)

pub part-routes : (n : ℕ) (c : Card) → (swept_below (length c.trees) (shed_from (length c.trees) 0 (parted n c)).card).routes ≡ (parted n c).routes
part-routes n c = swept-routes (length c.trees) _ ∙ shed-all-routes (length c.trees) 0 (parted n c)
