-- What a loss leaves, on any card: no label, no branch and no route of the lost neighbour; and it sends Withdraws alone, none of them to that neighbour.
-- Assumes nothing.
use Prim.Native.Nat.{ℕ, zero, suc, ◌-◌, ◌<◌}
use Rattle.std.proofs.Common.{arith, ◌∙◌}
use Rattle.std.specs.Prelude.{◌≡◌, refl, true, length, set, eqb, leb}
use Rattle.std.proofs.Math.Path.{ap}
use Rattle.std.proofs.Math.Bool.{false}
use mathlib.Core.List.{List, [], ◌∷◌, ◌++◌}
use Rattle.std.proofs.Math.ListN.{get_or}
use Rattle.std.proofs.lemmas.Bool.{eqb-false}
use Rattle.meaning.specs.Octets.{pick, all, ◌when◌else◌}
use Rattle.meaning.specs.Wire.{withdraw, Sent}
use Rattle.meaning.specs.Card.{Tree, Route, Use, free, mapped, awaiting, Card, with_routes, with_trees, with_labels, tree_of, tree_at, leads_on, mapped_to, use_of, held_for, with_branch, with_label, neighbour_count}
use Rattle.meaning.specs.Events.{Outcome, taken, unless, Moved, still, followed_by, set_use, set_label, ended, give_up, let_go, branch, no_neighbour, swept, is_of, freed_of, routes_without, parted, shed, shed_from, swept_below, part, on_lost, lost, outcome}
use Rattle.meaning.specs.Lists.{by-test, picked}
use Rattle.meaning_laws.specs.RoutesStay.{part-routes}
use Rattle.meaning_laws.specs.Losses.{parted-use}
use Rattle.promise.specs.CardLaws.{shape}
use Rattle.promise.proofs.CardLaws.{swept-use}
use Rattle.promise.specs.Promise.{Given, Step, history}
use Rattle.promise.specs.LabelLaws.{Sound}
use Rattle.promise.proofs.LossLaws.{ending, loss-shapes}
use Rattle.promise.proofs.PromiseProof.{history-upheld}
use Rattle.promise.specs.LossKept.{NoneOf, after_loss}

-- a loss is refused by 1 alone, or by 16 where the room is short (`event_tests` of `Refusals`)
pub lost-taken : (c : Card) (n : ℕ) → no_neighbour n ≡ false → outcome c (lost n) ≡ part c n
unfolding outcome on_lost unless ◌when◌else◌
lost-taken c n near = rw near refl

none-at : (n : ℕ) (c : Card) → NoneOf n c → (l : ℕ) → is_of n (use_of l c) ≡ false
unfolding NoneOf
none-at n c H = H

freed-not : (n : ℕ) (u : Use) → is_of n (freed_of n u) ≡ false
unfolding is_of freed_of
freed-not n free = refl
freed-not n (mapped k a) = by-test (eqb k n) (λ e. rw e refl) (λ e. rw e e)
freed-not n (awaiting k a) = by-test (eqb k n) (λ e. rw e refl) (λ e. rw e e)

ended-not : (n : ℕ) (u : Use) → is_of n u ≡ false → is_of n (ended u) ≡ false
unfolding is_of ended
ended-not n free e = e
ended-not n (mapped k a) e = e
ended-not n (awaiting k a) e = e

not-to : (n : ℕ) → n < neighbour_count → (u : Use) → is_of n u ≡ false → mapped_to u ≡ n → ⊥
unfolding is_of mapped_to
not-to n near free e z = omega arith
not-to n near (mapped k a) e z = eqb-false k n e z
not-to n near (awaiting k a) e z = omega arith

-- what is read after a store was there, or was stored
set-either {ℓ κ} : {A : Type ℓ} (P : A → Type κ) (l : List A) (i j : ℕ) (x d : A) → P x → P (get_or l j d) → P (get_or (set l i x) j d)
set-either P [] i j x d p q = q
set-either P (y ∷ l) zero zero x d p q = p
set-either P (y ∷ l) zero (suc j) x d p q = q
set-either P (y ∷ l) (suc i) zero x d p q = q
set-either P (y ∷ l) (suc i) (suc j) x d p q = set-either P l i j x d p q

module _ (n : ℕ) where
  parted-none : (c : Card) → NoneOf n (parted n c)
  unfolding NoneOf
  parted-none c l = ap (is_of n) (parted-use n c l) ∙ freed-not n (use_of l c)

  stored-none : (c : Card) (m : ℕ) (u : Use) → is_of n u ≡ false → NoneOf n c → NoneOf n (set_use m u c)
  unfolding NoneOf use_of set_use with_labels
  stored-none c m u e H l =
      by-test (leb c.base l)
      (λ k. let H' : is_of n (get_or c.labels (l - c.base) free) ≡ false = rw k at (H l) in rw k (set-either (λ (x : Use). is_of n x ≡ false) c.labels (m - c.base) (l - c.base) u free e H'))
      (λ k. rw k (rw k at (H l)))

  given-none : (i : ℕ) (c : Card) → NoneOf n c → NoneOf n (give_up i c).card
  unfolding give_up
  given-none i c H = relabelled (set_use (tree_at i c).label (ended (use_of (tree_at i c).label c)) c) (stored-none c (tree_at i c).label _ (ended-not n _ (none-at n c H (tree_at i c).label)) H)
    where
      relabelled : (d : Card) → NoneOf n d → NoneOf n (set_label i 0 d)
      relabelled d k = unfold NoneOf use_of set_label with_trees in k

  shed-none : (i : ℕ) (c : Card) → NoneOf n c → NoneOf n (shed i c).card
  unfolding shed still let_go
  shed-none i c H = picked (λ (m : Moved). NoneOf n m.card) (leads_on (held_for c (tree_at i c)) (tree_at i c)) (λ _. H) (λ _. picked (λ (m : Moved). NoneOf n m.card) (eqb (tree_at i c).label 0) (λ _. H) (λ _. given-none i c H))

  shed-all-none : (k i : ℕ) (c : Card) → NoneOf n c → NoneOf n (shed_from k i c).card
  unfolding shed_from followed_by still
  shed-all-none zero i c H = H
  shed-all-none (suc k) i c H = shed-all-none k (suc i) (shed i c).card (shed-none i c H)

  swept_none : (k : ℕ) (c : Card) → NoneOf n c → NoneOf n (swept_below k c)
  unfolding swept_below
  swept_none zero c H = H
  swept_none (suc k) c H = swept_none k (swept k c) (one k c H)
    where
      one : (k : ℕ) (c : Card) → NoneOf n c → NoneOf n (swept k c)
      one k c H = unfold NoneOf in λ l. ap (is_of n) (swept-use c k l) ∙ none-at n c H l

  -- ---- what is sent

  unfoldable pub NotTo : List Sent → Type 0
  NotTo [] = Unit {0}
  NotTo (m ∷ ms) = ((m.to ≡ n → ⊥) × (m.message.kind ≡ withdraw)) × NotTo ms

  not-to-append : (ms ns : List Sent) → NotTo ms → NotTo ns → NotTo (ms ++ ns)
  unfolding NotTo
  not-to-append [] ns p q = q
  not-to-append (m ∷ ms) ns p q = (p.0, not-to-append ms ns p.1 q)

  module _ (near : n < neighbour_count) where
    shed-silent : (i : ℕ) (c : Card) → NoneOf n c → NotTo (shed i c).sent
    unfolding shed still let_go give_up NotTo
    shed-silent i c H =
        picked (λ (m : Moved). NotTo m.sent) (leads_on (held_for c (tree_at i c)) (tree_at i c)) (λ _. unfold NotTo in tt)
        (λ _. picked (λ (m : Moved). NotTo m.sent) (eqb (tree_at i c).label 0) (λ _. unfold NotTo in tt) (λ _. unfold NotTo in ((mute, refl), tt)))
      where
        mute : held_for c (tree_at i c) ≡ n → ⊥
        mute = unfold held_for in not-to n near (use_of (tree_at i c).label c) (none-at n c H (tree_at i c).label)

    shed-all-silent : (k i : ℕ) (c : Card) → NoneOf n c → NotTo (shed_from k i c).sent
    unfolding shed_from followed_by still
    shed-all-silent zero i c H = unfold NotTo in tt
    shed-all-silent (suc k) i c H = not-to-append (shed i c).sent _ (shed-silent i c H) (shed-all-silent k (suc i) (shed i c).card (shed-none i c H))

-- ---- together

routes-none : (n : ℕ) (rs : List Route) → all (λ (r : Route). pick (eqb r.via n) false true) (routes_without n rs) ≡ true
unfolding all routes_without
routes-none n [] = refl
routes-none n (r ∷ rs) = by-test (eqb r.via n) (λ e. rw e (routes-none n rs)) (λ e. rw e (rw e (routes-none n rs)))

pub record Gone (n : ℕ) (o : Outcome) : Type 0 where
  pub sent : List Sent
  pub after : Card
  pub so : o ≡ taken sent after
  -- nothing is sent to n, and nothing but Withdraws to others
  pub silent : NotTo n sent
  -- no label is mapped to n, or awaits its release
  pub labels : NoneOf n after
  -- no route goes through n
  pub routes : all (λ (r : Route). pick (eqb r.via n) false true) after.routes ≡ true

pub lost-gone : (c : Card) (n : ℕ) → n < neighbour_count → Gone n (part c n)
unfolding part
lost-gone c n near = record {
  sent = (shed_from (length c.trees) 0 (parted n c)).sent;
  after = swept_below (length c.trees) (shed_from (length c.trees) 0 (parted n c)).card;
  so = refl;
  silent = shed-all-silent n near (length c.trees) 0 (parted n c) (parted-none n c);
  labels = swept_none n (length c.trees) _ (shed-all-none n (length c.trees) 0 (parted n c) (parted-none n c));
  routes = rw (part-routes n c) (unfold parted with_trees with_labels with_routes in routes-none n _);
}

-- After any history, no tree has a branch of n.
pub lost-branches : (base : ℕ) (steps : List Step) (n : ℕ) (b : List ℕ) → branch (tree_of b (after_loss base steps n)) n ≡ 0
unfolding after_loss
lost-branches base steps n b = cleared (history base steps).card _ (history-upheld base steps).sound
  where
    emptied : (bs : List ℕ) (n : ℕ) → get_or (set bs n 0) n 0 ≡ 0
    emptied [] n = refl
    emptied (x ∷ bs) zero = refl
    emptied (x ∷ bs) (suc n) = emptied bs n

    same-branches : (t s : Tree) → shape t ≡ shape s → t.branches ≡ s.branches
    same-branches t s e = unfold shape with_label in ap (λ (x : Tree). x.branches) (unfold shape with_label in e)

    cleared : (c : Card) (gs : List Given) (S : Sound c gs) → branch (tree_of b (ending n c gs S)) n ≡ 0
    cleared c gs S = unfold branch in ap (λ (bs : List ℕ). get_or bs n 0) (same-branches (tree_of b (ending n c gs S)) (with_branch n 0 (tree_of b c)) (loss-shapes n c gs S b)) ∙ (unfold with_branch in emptied (tree_of b c).branches n)
