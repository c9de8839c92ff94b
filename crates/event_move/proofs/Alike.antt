-- The tree at a place, after its label has moved. Assumes nothing.
use Prim.Native.Nat.{ℕ, ◌<◌}
use mathlib.Core.Path.{◌≡◌, refl, ◌∙◌}
use mathlib.Core.List.{[]}
use lib.ListN.{get_or, length, length-set}
use lib.Seq.{get_or-set_same}
use lib.Dec.{eqb}
use Rattle.meaning.specs.Lists.{picked}
use Rattle.meaning.specs.Card.{Tree, Card, Use, no_route, with_trees, with_labels, with_label, bare, tree_at, is_empty, held_for, with_last}
use Rattle.meaning.specs.Events.{Moved, still, followed_by, set_use, set_label, give_up, give, let_go, take_up, move_label, relabel}

-- ---- the tree at a place, after its label has moved

pub label_at : (i x : ℕ) (c : Card) → i < length c.trees → tree_at i (set_label i x c) ≡ with_label x (tree_at i c)
unfolding tree_at set_label with_trees
label_at i x c h = get_or-set_same c.trees i (with_label x (get_or c.trees i (bare []))) (bare []) h

-- all of a tree but its label
pub record Alike (t s : Tree) : Type 0 where
  pub name : t.name ≡ s.name
  pub branches : t.branches ≡ s.branches
  pub leaf : t.leaf ≡ s.leaf

alike_refl : (t : Tree) → Alike t t
alike_refl t = record { name = refl; branches = refl; leaf = refl }

alike_then : (t s r : Tree) → Alike t s → Alike s r → Alike t r
alike_then t s r p q = record { name = p.name ∙ q.name; branches = p.branches ∙ q.branches; leaf = p.leaf ∙ q.leaf }

alike-label : (i x l : ℕ) (v : Use) (c : Card) → i < length c.trees → Alike (tree_at i (set_label i x (set_use l v c))) (tree_at i c)
alike-label i x l v c h =
    let e : tree_at i (set_label i x (set_use l v c)) ≡ with_label x (tree_at i (set_use l v c)) = label_at i x (set_use l v c) (unfold set_use with_labels in h) in
    rw e (unfold tree_at set_use with_labels with_label in record { name = refl; branches = refl; leaf = refl })

pub last-tree : (i l : ℕ) (c : Card) → tree_at i (with_last l c) ≡ tree_at i c
unfolding tree_at with_last
last-tree i l c = refl

-- what a move keeps: the tree at its place, but for its label, and the number of trees
pub record Stays (i : ℕ) (c : Card) (m : Moved) : Type 0 where
  pub tree : Alike (tree_at i m.card) (tree_at i c)
  pub many : length m.card.trees ≡ length c.trees

module _ (i : ℕ) (c : Card) (h : i < length c.trees) where
  still-stays : Stays i c (still c)
  unfolding still
  still-stays = record { tree = alike_refl _; many = refl }

  pub let-go-stays : Stays i c (let_go i c)
  unfolding let_go
  let-go-stays =
      picked (Stays i c) (eqb (tree_at i c).label 0)
      (λ _. still-stays)
      (λ _. unfold give_up in record { tree = alike-label i 0 _ _ c h; many = unfold set_label set_use with_labels with_trees in length-set c.trees i _ })

  pub take-up-stays : (u : ℕ) → Stays i c (take_up i u c)
  unfolding take_up
  take-up-stays u =
      picked (Stays i c) (eqb u no_route)
      (λ _. still-stays)
      (λ _. unfold give in record { tree = rw (last-tree i) (alike-label i _ _ _ c h); many = unfold with_last set_label set_use with_labels with_trees in length-set c.trees i _ })

pub move-stays : (i u : ℕ) (c : Card) → i < length c.trees → Stays i c (move_label i u c)
unfolding move_label followed_by
move-stays i u c h =
    let p = let-go-stays i c h in
    let q = take-up-stays i (let_go i c).card (rw p.many h) u in
    record { tree = alike_then _ _ _ q.tree p.tree; many = q.many ∙ p.many }

pub relabel-stays : (i u : ℕ) (c : Card) → i < length c.trees → Stays i c (relabel i u c)
unfolding relabel
relabel-stays i u c h =
    picked (Stays i c) (eqb (held_for c (tree_at i c)) u)
    (λ _. unfold still in record { tree = alike_refl _; many = refl })
    (λ _. move-stays i u c h)

pub alike-empty : (t s : Tree) → Alike t s → is_empty t ≡ is_empty s
unfolding is_empty
alike-empty t s p = rw (p.branches, p.leaf) refl
