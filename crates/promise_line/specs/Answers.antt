-- A CARD SAYS RELEASE only in answer to a Withdraw.
-- Assumes nothing.
use Prim.Native.Nat.{ℕ, zero, suc}
use Rattle.std.specs.Prelude.{◌≡◌, length, eqb}
use Rattle.std.proofs.Math.Path.{refl}
use Rattle.std.proofs.Common.{◌∙◌, arith}
use Rattle.std.proofs.Math.Bool.{true, false}
use mathlib.Core.List.{List, [], ◌∷◌}
use borrow.Author.Tests.{eqb-true, ne_eqb}
use Rattle.meaning.specs.Octets.{pick}
use Rattle.meaning.specs.Lists.{by-test, picked, append-nil}
use Rattle.meaning.specs.Wire.{mapping, withdraw, release, Message, message_in, Sent}
use Rattle.meaning.specs.Card.{Tree, Card, nobody, with_leaf, with_branch, tree_place, tree_of, tree_at, leads_on, held_for, route_of}
use Rattle.meaning.specs.Events.{Outcome, refused, taken, unless, Moved, still, followed_by, tell, give_up, give, let_go, take_up, move_label, relabel, upstream, holder_of, entered, enter, become, on_mapping, less_branch, on_withdraw, on_release, on_message, on_octets, on_join, on_leave, of_root, move_one, move_from, move_all, route_refusal, re_route, on_route, parted, shed, shed_from, part, on_lost, Event, receive, join, leave, route, lost, outcome}
use Rattle.promise_line.specs.Sends.{is_down, kin_to, kin-to-append}

-- ---- no move sends a Release

module _ (l n : ℕ) where
  abbrev Silent : Moved → Type 0
  Silent m = kin_to (is_down l) n m.sent ≡ []

  still-silent : (c : Card) → Silent (still c)
  unfolding still kin_to
  still-silent c = refl

  up-silent : (i : ℕ) (c : Card) → Silent (give_up i c)
  unfolding give_up kin_to is_down
  up-silent i c = by-test (eqb (held_for c (tree_at i c)) n) (λ e. rw e refl) (λ e. rw e refl)

  give-silent : (i u : ℕ) (c : Card) → Silent (give i u c)
  unfolding give kin_to is_down
  give-silent i u c = by-test (eqb u n) (λ e. rw e refl) (λ e. rw e refl)

  then-silent : (m : Moved) (f : Card → Moved) → Silent m → Silent (f m.card) → Silent (followed_by m f)
  unfolding followed_by
  then-silent m f p q = kin-to-append (is_down l) n m.sent (f m.card).sent ∙ rw (p, q) refl

  let-go-silent : (i : ℕ) (c : Card) → Silent (let_go i c)
  unfolding let_go
  let-go-silent i c = picked Silent (eqb (tree_at i c).label 0) (λ _. still-silent c) (λ _. up-silent i c)

  take-up-silent : (i u : ℕ) (c : Card) → Silent (take_up i u c)
  unfolding take_up
  take-up-silent i u c = picked Silent (eqb u nobody) (λ _. still-silent c) (λ _. give-silent i u c)

  move-silent : (i u : ℕ) (c : Card) → Silent (move_label i u c)
  unfolding move_label
  move-silent i u c = then-silent (let_go i c) (take_up i u) (let-go-silent i c) (take-up-silent i u (let_go i c).card)

  relabel-silent : (i u : ℕ) (c : Card) → Silent (relabel i u c)
  unfolding relabel
  relabel-silent i u c = picked Silent (eqb (held_for c (tree_at i c)) u) (λ _. still-silent c) (λ _. move-silent i u c)

  one-silent : (r : List ℕ) (u i : ℕ) (c : Card) → Silent (move_one r u i c)
  unfolding move_one
  one-silent r u i c = picked Silent (of_root r (tree_at i c)) (λ _. move-silent i _ c) (λ _. still-silent c)

  from-silent : (r : List ℕ) (u k i : ℕ) (c : Card) → Silent (move_from r u k i c)
  unfolding move_from
  from-silent r u zero i c = still-silent c
  from-silent r u (suc k) i c = then-silent (move_one r u i c) (move_from r u k (suc i)) (one-silent r u i c) (from-silent r u k (suc i) (move_one r u i c).card)

  all-silent : (r : List ℕ) (u : ℕ) (c : Card) → Silent (move_all r u c)
  unfolding move_all
  all-silent r u c = from-silent r u _ 0 c

  shed-silent : (i : ℕ) (c : Card) → Silent (shed i c)
  unfolding shed
  shed-silent i c = picked Silent (leads_on (held_for c (tree_at i c)) (tree_at i c)) (λ _. still-silent c) (λ _. let-go-silent i c)

  shed-all-silent : (k i : ℕ) (c : Card) → Silent (shed_from k i c)
  unfolding shed_from
  shed-all-silent zero i c = still-silent c
  shed-all-silent (suc k) i c = then-silent (shed i c) (shed_from k (suc i)) (shed-silent i c) (shed-all-silent k (suc i) (shed i c).card)

-- ---- every event

-- what is to be said of an outcome: rs are the Releases of l to n
unfoldable pub Speaks : ℕ → ℕ → List Message → Outcome → Type 0
Speaks l n rs (refused k) = Unit {0}
Speaks l n rs (taken ms c) = kin_to (is_down l) n ms ≡ rs

unless-speaks : (l n : ℕ) (rs : List Message) (k : ℕ) (o : Outcome) → Speaks l n rs o → Speaks l n rs (unless k o)
unfolding unless Speaks
unless-speaks l n rs zero o h = h
unless-speaks l n rs (suc k) o h = tt

-- the Release that answers a message from k, where it is a Withdraw
unfoldable pub answering : ℕ → Message → List Sent
answering k m = pick (eqb m.kind withdraw) (tell k release m.name m.label ∷ []) []

unfoldable pub answers_to : Event → List Sent
answers_to (receive k s) = answering k (message_in s)
answers_to (join e) = []
answers_to (leave e) = []
answers_to (route r via) = []
answers_to (lost k) = []

module _ (c : Card) (l n : ℕ) where
  enter-speaks : (first : List Sent) (t : Tree) → Speaks l n (kin_to (is_down l) n first) (enter c first t)
  unfolding Speaks enter
  enter-speaks first t = kin-to-append (is_down l) n first _ ∙ rw (relabel-silent l n (tree_place t.name c) (holder_of c t) (entered c t)) (append-nil (kin_to (is_down l) n first))

  become-speaks : (first : List Sent) (t : Tree) → Speaks l n (kin_to (is_down l) n first) (become c first t)
  unfolding become
  become-speaks first t = unless-speaks l n _ _ _ (enter-speaks first t)

  message-speaks : (k : ℕ) (m : Message) → Speaks l n (kin_to (is_down l) n (answering k m)) (on_message c k m)
  unfolding on_message answering on_mapping on_withdraw on_release
  message-speaks k m =
      by-test (eqb m.kind mapping)
      (λ e. rw (e, ne_eqb m.kind withdraw (λ z. omega (arith, eqb-true m.kind mapping e))) (unless-speaks l n _ _ _ (become-speaks [] (with_branch k m.label (tree_of m.name c)))))
      (λ e. by-test (eqb m.kind withdraw)
      (λ w. rw (e, w) (become-speaks (tell k release m.name m.label ∷ []) (less_branch k m.label (tree_of m.name c))))
      (λ w. by-test (eqb m.kind release)
      (λ f. rw (e, w, f) (unless-speaks l n _ _ _ (unfold Speaks kin_to in refl)))
      (λ f. rw (e, w, f) (unfold Speaks in tt))))

  route-speaks : (r : List ℕ) (via : ℕ) → Speaks l n [] (on_route c r via)
  unfolding on_route re_route
  route-speaks r via =
      unless-speaks l n _ _ _ (picked (Speaks l n []) (eqb (route_of r c) via)
      (λ _. unfold Speaks kin_to in refl)
      (λ _. unless-speaks l n [] (route_refusal c r via) _ (unfold Speaks in all-silent l n r (upstream via) c)))

  lost-speaks : (k : ℕ) → Speaks l n [] (part c k)
  unfolding part Speaks
  lost-speaks k = shed-all-silent l n (length c.trees) 0 (parted k c)

  pub event-speaks : (e : Event) → Speaks l n (kin_to (is_down l) n (answers_to e)) (outcome c e)
  unfolding outcome on_octets on_join on_leave on_lost answers_to
  event-speaks (receive k s) = unless-speaks l n _ _ _ (unless-speaks l n _ _ _ (message-speaks k (message_in s)))
  event-speaks (join e) = unless-speaks l n _ _ _ (become-speaks [] (with_leaf true (tree_of e c)))
  event-speaks (leave e) = unless-speaks l n _ _ _ (unless-speaks l n _ _ _ (unless-speaks l n _ _ _ (enter-speaks [] (with_leaf false (tree_of e c)))))
  event-speaks (route r via) = unfold kin_to in route-speaks r via
  event-speaks (lost k) = unfold kin_to in unless-speaks l n _ _ _ (lost-speaks k)
