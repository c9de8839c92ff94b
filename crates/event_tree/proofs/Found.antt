-- The tree that a search found, a tree that is entered, and the memory's card after a change. Assumes nothing.
use Prim.Native.Nat.{ℕ, ◌<◌}
use native.Mathlib.Omega.{arith}
use mathlib.Core.Path.{◌≡◌, refl, sym, ap, ◌∙◌}
use mathlib.Core.Bool.{Bool, true, false}
use mathlib.Core.List.{List, ◌++◌}
use lib.ListN.{length}
use lib.Dec.{eqb}
use borrow.Author.Tests.{lt-leb}
use Rattle.meaning.specs.Octets.{pick, cut}
use Rattle.meaning.specs.Lists.{picked}
use Rattle.meaning.specs.Wire.{Sent}
use Rattle.meaning.specs.Card.{Route, Tree, Card, free, nobody, with_routes, with_trees, with_labels, with_last, tree_place, tree_of, tree_at, is_empty, held_for, use_of, turn, next_free}
use Rattle.meaning.specs.Events.{taken, Moved, still, followed_by, set_use, set_label, give_up, give, let_go, take_up, move_label, relabel, recount, recounted, holder_of, entered, swept, enter}
use Rattle.meaning_laws.specs.RoutesStay.{relabel-routes}
use Rattle.meaning_laws.specs.Standing.{standing-at, standing-name}
use Rattle.memory.specs.Memory.{card_of, tree_count, base_in}
use Rattle.memory.proofs.Memory.{trees-length, base-range}

-- ---- the tree that a search found

module _ (c : Card) (a : List ℕ) (i : ℕ) (ei : i ≡ tree_place a c) (h : i < length c.trees) where
  pub found-tree : tree_of a c ≡ tree_at i c
  found-tree = rw ei (standing-at c a (rw (← ei) h))

  pub at_name : (tree_at i c).name ≡ a
  at_name = rw ei (standing-name c a (rw (← ei) h))

  pub own-place : i ≡ tree_place (tree_at i c).name c
  own-place = rw at_name ei

-- ---- a tree is entered

-- The rule of labels and the sweep do not ask the routes: other ones stay beside all that they do.
abbrev beside : List Route → Moved → Moved
beside rs m = record { sent = m.sent; card = with_routes rs m.card }

pick-beside : (rs : List Route) (b : Bool) (x y x' y' : Moved) → x' ≡ beside rs x → y' ≡ beside rs y → pick b x' y' ≡ beside rs (pick b x y)
pick-beside rs true x y x' y' p q = p
pick-beside rs false x y x' y' p q = q

pick-with_routes : (rs : List Route) (b : Bool) (x y : Card) → pick b (with_routes rs x) (with_routes rs y) ≡ with_routes rs (pick b x y)
pick-with_routes rs true x y = refl
pick-with_routes rs false x y = refl

module _ (rs : List Route) (i : ℕ) (c : Card) where
  let-go-beside : let_go i (with_routes rs c) ≡ beside rs (let_go i c)
  unfolding let_go still give_up set_label set_use with_routes with_trees with_labels tree_at held_for use_of
  let-go-beside = pick-beside rs (eqb (tree_at i c).label 0) (still c) (give_up i c) _ _ refl refl

  take-up-beside : (u : ℕ) → take_up i u (with_routes rs c) ≡ beside rs (take_up i u c)
  unfolding take_up still give set_label set_use with_routes with_trees with_labels with_last tree_at next_free turn
  take-up-beside u = pick-beside rs (eqb u nobody) (still c) (give i u c) _ _ refl refl

  swept-beside : swept i (with_routes rs c) ≡ with_routes rs (swept i c)
  unfolding swept with_routes with_trees tree_at
  swept-beside = pick-with_routes rs (is_empty (tree_at i c)) (with_trees (cut c.trees i) c) c

swept-routes : (i : ℕ) (c : Card) → (swept i c).routes ≡ c.routes
unfolding swept with_trees
swept-routes i c = picked (λ (d : Card). d.routes ≡ c.routes) (is_empty (tree_at i c)) (λ _. refl) (λ _. refl)

move-beside : (rs : List Route) (i u : ℕ) (c : Card) → move_label i u (with_routes rs c) ≡ beside rs (move_label i u c)
unfolding move_label followed_by
move-beside rs i u c = rw (let-go-beside rs i c, take-up-beside rs i (let_go i c).card u) refl

relabel-beside : (rs : List Route) (i u : ℕ) (c : Card) → relabel i u (with_routes rs c) ≡ beside rs (relabel i u c)
relabel-beside rs i u c = unfold relabel in rw same-held (pick-beside rs (eqb (held_for c (tree_at i c)) u) (still c) (move_label i u c) _ _ (unfold still in refl) (move-beside rs i u c))
  where
    same-held : held_for (with_routes rs c) (tree_at i (with_routes rs c)) ≡ held_for c (tree_at i c)
    same-held = unfold held_for use_of tree_at with_routes in refl

counted-beside : (was t : Tree) (qs : List Route) (c : Card) → c.routes ≡ qs → recounted was t c ≡ with_routes (recount was t qs) c
unfolding recounted
counted-beside was t qs c e = ap (λ (l : List Route). with_routes (recount was t l) c) e

-- so that a tree is counted when it is entered, or at the end
pub enter-is : (c d : Card) (first : List Sent) (t : Tree) (i u : ℕ) → i ≡ tree_place t.name c → u ≡ holder_of c t → recounted (tree_of t.name c) t (entered c t) ≡ d
    → enter c first t ≡ taken (first ++ (relabel i u d).sent) (swept i (relabel i u d).card)
enter-is c d first t i u ei eu ed =
    let was : Tree = tree_of t.name c in
    let rs : List Route = recount was t (entered c t).routes in
    let is : enter c first t ≡ taken (first ++ (relabel i u (entered c t)).sent) (recounted was t (swept i (relabel i u (entered c t)).card)) = unfold enter in rw (← ei, ← eu) refl in
    let routes : (swept i (relabel i u (entered c t)).card).routes ≡ (entered c t).routes = swept-routes i (relabel i u (entered c t)).card ∙ relabel-routes i u (entered c t) in
    let there : recounted was t (swept i (relabel i u (entered c t)).card) ≡ with_routes rs (swept i (relabel i u (entered c t)).card) = counted-beside was t (entered c t).routes _ routes in
    let d-is : with_routes rs (entered c t) ≡ d = sym (counted-beside was t (entered c t).routes (entered c t) refl) ∙ ed in
    is ∙ rw (there, ← d-is, relabel-beside rs i u (entered c t), swept-beside rs i (relabel i u (entered c t)).card) refl

-- ---- the memory's card

-- after a change, as many trees as the card says
pub count-is : (ns os : List ℕ) (d : Card) → card_of ns os ≡ d → tree_count ns ≡ length d.trees
count-is ns os d e = sym (trees-length ns os) ∙ ap (λ (c : Card). length c.trees) e

pub zero-free : (ns os : List ℕ) → use_of 0 (card_of ns os) ≡ free
zero-free ns os = unfold use_of card_of in rw (lt-leb (base_in ns) 0 (omega (arith, base-range ns))) refl
