-- The trees of a root, one after the other: what is done, and what it takes. Assumes nothing.
use Prim.Native.Nat.{ℕ, zero, suc, ◌+◌, ◌-◌, ◌≤◌, ◌<◌}
use native.Mathlib.Nat.{add-zero, add-suc, suc-add, zero-add, le_refl}
use native.Mathlib.Numerals.{add-one}
use native.Mathlib.Omega.{arith}
use mathlib.Core.Path.{◌≡◌, refl, sym, ap, ap₂, ◌∙◌}
use mathlib.Core.List.{List, [], ◌++◌, append_assoc}
use lib.ListN.{get_or, length}
use lib.Seq.{get_or-set_other}
use lib.Dec.{eqb}
use Rattle.meaning.specs.Lists.{append-nil, by-test, picked, count_set, count_less}
use Rattle.meaning.specs.Wire.{Sent, records}
use Rattle.meaning.specs.Card.{Tree, Card, Use, free, mapped, awaiting, with_trees, with_labels, with_last, bare, tree_at, is_free, use_of, free_labels, next_free, nobody}
use Rattle.meaning_laws.specs.NextFree.{next_place, next-free}
use Rattle.meaning.specs.Events.{Moved, still, followed_by, set_use, set_label, ended, give_up, give, let_go, take_up, move_label, holder, of_root, move_one, move_from, sum_from}
use Rattle.event_holder.specs.Move.{size_one}
use Rattle.event_move.proofs.Alike.{last-tree, move-stays}
use Rattle.event_move.proofs.Sizes.{move-size}

-- ---- free labels

ended-free : (v : Use) → is_free (ended v) ≡ is_free v
unfolding is_free ended
ended-free free = refl
ended-free (mapped n a) = refl
ended-free (awaiting n a) = refl

pub give-up-free : (i : ℕ) (c : Card) → use_of (tree_at i c).label c ≡ get_or c.labels ((tree_at i c).label - c.base) free → free_labels (give_up i c).card ≡ free_labels c
unfolding free_labels give_up set_label set_use with_labels with_trees
give-up-free i c e =
    count_set is_free c.labels ((tree_at i c).label - c.base) (ended (use_of (tree_at i c).label c)) free (ended-free (use_of (tree_at i c).label c) ∙ ap is_free e)

pub give-free : (i u : ℕ) (c : Card) → 0 < free_labels c → free_labels (give i u c).card + 1 ≡ free_labels c
unfolding free_labels give set_label set_use with_labels with_trees with_last next_free
give-free i u c some =
    let e : c.base + next_place c - c.base ≡ next_place c = omega arith in
    let f = next-free c (unfold free_labels in some) in
    rw e (add-one _ ∙ count_less is_free c.labels (next_place c) (mapped u (tree_at i c).name) free f.1 (unfold is_free in refl) f.0)

-- ---- one move leaves the other trees

set-label-other : (i j x : ℕ) (c : Card) → (j ≡ i → ⊥) → tree_at j (set_label i x c) ≡ tree_at j c
unfolding tree_at set_label with_trees
set-label-other i j x c ne = get_or-set_other c.trees i j _ (bare []) (λ e. ne e)

moved_other : (i j x l : ℕ) (v : Use) (c : Card) → (j ≡ i → ⊥) → tree_at j (set_label i x (set_use l v c)) ≡ tree_at j c
moved_other i j x l v c ne = set-label-other i j x (set_use l v c) ne ∙ unfold tree_at set_use with_labels in refl

module _ (i j : ℕ) (ne : j ≡ i → ⊥) where
  let-go-other : (c : Card) → tree_at j (let_go i c).card ≡ tree_at j c
  unfolding let_go still give_up
  let-go-other c = picked (λ (m : Moved). tree_at j m.card ≡ tree_at j c) (eqb (tree_at i c).label 0) (λ _. refl) (λ _. moved_other i j 0 _ _ c ne)

  take-up-other : (u : ℕ) (c : Card) → tree_at j (take_up i u c).card ≡ tree_at j c
  unfolding take_up still give
  take-up-other u c = picked (λ (m : Moved). tree_at j m.card ≡ tree_at j c) (eqb u nobody) (λ _. refl) (λ _. last-tree j _ _ ∙ moved_other i j _ _ _ c ne)

  pub one-other : (r : List ℕ) (u : ℕ) (c : Card) → tree_at j (move_one r u i c).card ≡ tree_at j c
  unfolding move_one move_label still followed_by
  one-other r u c = picked (λ (m : Moved). tree_at j m.card ≡ tree_at j c) (of_root r (tree_at i c)) (λ _. take-up-other (holder u (tree_at i c)) (let_go i c).card ∙ let-go-other c) (λ _. refl)

pub one-many : (r : List ℕ) (u i : ℕ) (c : Card) → i < length c.trees → length (move_one r u i c).card.trees ≡ length c.trees
unfolding move_one still
one-many r u i c h = picked (λ (m : Moved). length m.card.trees ≡ length c.trees) (of_root r (tree_at i c)) (λ _. (move-stays i (holder u (tree_at i c)) c h).many) (λ _. refl)

pub one_size : (r : List ℕ) (u i id : ℕ) (c : Card) → i < length c.trees → length (records id (move_one r u i c).sent) ≡ size_one r u (tree_at i c)
unfolding move_one size_one still
one_size r u i id c h =
    by-test (of_root r (tree_at i c))
    (λ e. rw e (move-size id i (holder u (tree_at i c)) c h))
    (λ e. rw e (unfold records in refl))

-- ---- the first of them

moved-ext : (s s' : List Sent) (c : Card) → s ≡ s' → ◌≡◌ {A = Moved} (record { sent = s; card = c }) (record { sent = s'; card = c })
moved-ext s s' c e = ap (λ (x : List Sent). record { sent = x; card = c }) e

pub still-then : (c : Card) (f : Card → Moved) → followed_by (still c) f ≡ f c
unfolding followed_by still
still-then c f = refl

pub then-then : (m : Moved) (f g : Card → Moved) → followed_by (followed_by m f) g ≡ followed_by m (λ (c : Card). followed_by (f c) g)
unfolding followed_by
then-then m f g = moved-ext _ _ _ (append_assoc m.sent (f m.card).sent _)

pub then-still : (m : Moved) → followed_by m still ≡ m
unfolding followed_by still
then-still m = moved-ext _ _ _ (append-nil m.sent)

pub then_same : (m : Moved) (f g : Card → Moved) → f m.card ≡ g m.card → followed_by m f ≡ followed_by m g
unfolding followed_by
then_same m f g e = ap (λ (n : Moved). record { sent = m.sent ++ n.sent; card = n.card }) e

module _ (r : List ℕ) (u : ℕ) where
  from_first : (n i : ℕ) (c : Card) → move_from r u (suc n) i c ≡ followed_by (move_one r u i c) (move_from r u n (suc i))
  unfolding move_from
  from_first n i c = refl

  -- n trees and one more
  from-snoc : (n i : ℕ) (c : Card) → move_from r u (suc n) i c ≡ followed_by (move_from r u n i c) (move_one r u (i + n))
  from-snoc zero i c = first ∙ sym (ap (λ (m : Moved). followed_by m (move_one r u (i + 0))) none ∙ still-then c (move_one r u (i + 0)) ∙ ap (λ (k : ℕ). move_one r u k c) (add-zero i))
    where
      none : move_from r u 0 i c ≡ still c
      none = unfold move_from in refl

      first : move_from r u 1 i c ≡ move_one r u i c
      first = unfold move_from in then-still (move_one r u i c)
  from-snoc (suc n) i c =
      from_first (suc n) i c
      ∙ then_same (move_one r u i c) (move_from r u (suc n) (suc i)) (λ (d : Card). followed_by (move_from r u n (suc i) d) (move_one r u (suc i + n))) (from-snoc n (suc i) (move_one r u i c).card)
      ∙ sym (ap₂ (λ (m : Moved) (k : ℕ). followed_by m (move_one r u k)) (from_first n i c) (add-suc i n ∙ sym (suc-add i n)) ∙ then-then (move_one r u i c) (move_from r u n (suc i)) (move_one r u (suc i + n)))

  -- the first n, and the next
  pub first_more : (n : ℕ) (c : Card) → move_from r u (n + 1) 0 c ≡ followed_by (move_from r u n 0 c) (move_one r u n)
  first_more n c = ap (λ (k : ℕ). move_from r u k 0 c) (add-one n) ∙ from-snoc n 0 c ∙ ap (λ (k : ℕ). followed_by (move_from r u n 0 c) (move_one r u k)) (zero-add n)

  pub first-none : (c : Card) → move_from r u 0 0 c ≡ still c
  unfolding move_from
  first-none c = refl

  -- those from place i on have not moved yet
  from-later : (n i j : ℕ) (c : Card) → i + n ≤ j → tree_at j (move_from r u n i c).card ≡ tree_at j c
  unfolding move_from followed_by still
  from-later zero i j c h = refl
  from-later (suc n) i j c h = from-later n (suc i) j (move_one r u i c).card (omega arith) ∙ one-other i j (λ e. omega arith) r u c

  pub first-later : (n j : ℕ) (c : Card) → n ≤ j → tree_at j (move_from r u n 0 c).card ≡ tree_at j c
  first-later n j c h = from-later n 0 j c (omega arith)

-- ---- sums over the trees

module _ (f : Tree → ℕ) where
  sum-snoc : (n i : ℕ) (c : Card) → sum_from f (suc n) i c ≡ sum_from f n i c + f (tree_at (i + n) c)
  unfolding sum_from
  sum-snoc zero i c = rw (add-zero i) (omega arith)
  sum-snoc (suc n) i c = rw (sum-snoc n (suc i) c, add-suc i n, suc-add i n) (omega arith)

  pub sum_more : (n : ℕ) (c : Card) → sum_from f (n + 1) 0 c ≡ sum_from f n 0 c + f (tree_at n c)
  sum_more n c = ap (λ (k : ℕ). sum_from f k 0 c) (add-one n) ∙ sum-snoc n 0 c ∙ ap (λ (k : ℕ). sum_from f n 0 c + f (tree_at k c)) (zero-add n)

  pub sum-none : (c : Card) → sum_from f 0 0 c ≡ 0
  unfolding sum_from
  sum-none c = refl

  pub sum-le : (k n : ℕ) (c : Card) → sum_from f n 0 c ≤ sum_from f (n + k) 0 c
  sum-le zero n c = rw (add-zero n) (le_refl _)
  sum-le (suc k) n c =
      let e : n + suc k ≡ n + k + 1 = omega arith in
      rw (e, sum_more (n + k) c) (omega (arith, sum-le k n c))
