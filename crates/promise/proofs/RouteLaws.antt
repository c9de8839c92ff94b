-- The routes after each event: a route order sets its root's, a loss ends those through the lost neighbour, and nothing else sets any.
-- Assumes nothing.
use Prim.Native.Nat.{ℕ, zero, suc, ◌≤◌, ◌<◌, suc-le-suc}
use Rattle.std.specs.Prelude.{◌≡◌, eqb}
use Rattle.std.proofs.Math.Path.{refl, sym, ap}
use Rattle.std.proofs.Common.{◌∙◌}
use mathlib.Core.List.{List, []}
use borrow.Author.Tests.{eqb-true, ltb-false}
use Rattle.meaning.specs.Octets.{same}
use Rattle.meaning.specs.Wire.{Message, message_in, mapping, withdraw, release, Sent}
use Rattle.meaning.specs.Card.{Tree, Card, free, with_routes, with_trees, with_labels, route_of, route_place, tree_place, free_labels, tree_of, neighbour_count}
use Rattle.meaning.specs.Events.{Outcome, taken, unless, Moved, set_use, relabel, upstream, holder_of, entered, swept, enter, become, on_mapping, on_withdraw, on_release, on_message, on_octets, on_join, on_leave, move_all, need_all, routes_with, route_refusal, re_route, on_route, Event, receive, join, leave, route, outcome, no_neighbour, parted, part, on_lost, lost, recounted}
use Rattle.meaning.specs.Lists.{by-test, picked, same-eq, no-when}
use Rattle.meaning_laws.specs.RoutesStay.{relabel-routes}
use Rattle.meaning_laws.specs.Counts.{plains, plain-route, recount-plain, enough-labels}
use Rattle.promise.specs.Promise.{Given}
use Rattle.promise.proofs.CardLaws.{swept-routes}
use Rattle.promise.specs.LabelLaws.{Sound}
use Rattle.promise.specs.RuleLaws.{Ruled}
use Rattle.promise.proofs.RuleLaws.{own-route, other-route}
use Rattle.promise.proofs.PartedLaws.{parted-route}
use Rattle.promise.proofs.LossLaws.{ending, loss-routes}
use Rattle.promise.proofs.EventLaws.{upstream-near}
use Rattle.promise.specs.RouteLaws.{route_now, Routed}

unless-routed : (c : Card) (e : Event) (k : ℕ) (o : Outcome) → (k ≡ 0 → Routed c e o) → Routed c e (unless k o)
unfolding unless Routed
unless-routed c e zero o h = h refl
unless-routed c e (suc k) o h = tt

same_route : (c d : Card) (q : List ℕ) → c.routes ≡ d.routes → route_of q c ≡ route_of q d
unfolding route_of route_place
same_route c d q e = rw e refl

-- ---- each event

module _ (c : Card) (e : Event) (plain : (q : List ℕ) (before : ℕ) → route_now e q before ≡ before) where
  enter-routed : (first : List Sent) (t : Tree) → Routed c e (enter c first t)
  unfolding enter Routed recounted with_routes
  enter-routed first t q =
      let i : ℕ = tree_place t.name c in
      let m : Moved = relabel i (holder_of c t) (entered c t) in
      let old : (swept i m.card).routes ≡ c.routes = swept-routes m.card i ∙ relabel-routes i (holder_of c t) (entered c t) ∙ unfold entered with_trees in refl in
      plain-route (recounted (tree_of t.name c) t (swept i m.card)) c (recount-plain (tree_of t.name c) t (swept i m.card).routes ∙ ap plains old) q ∙ sym (plain q _)

  become-routed : (first : List Sent) (t : Tree) → Routed c e (become c first t)
  unfolding become
  become-routed first t = unless-routed c e _ _ (λ _. enter-routed first t)

  freed-routed : (l : ℕ) → Routed c e (taken [] (set_use l free c))
  unfolding Routed
  freed-routed l q = same_route (set_use l free c) c q (unfold set_use with_labels in refl) ∙ sym (plain q _)

  message-routed : (n : ℕ) (m : Message) → Routed c e (on_message c n m)
  unfolding on_message on_mapping on_withdraw on_release
  message-routed n m =
      picked (Routed c e) (eqb m.kind mapping)
      (λ _. unless-routed c e _ _ (λ _. become-routed _ _))
      (λ _. picked (Routed c e) (eqb m.kind withdraw)
      (λ _. become-routed _ _)
      (λ _. picked (Routed c e) (eqb m.kind release)
      (λ _. unless-routed c e _ _ (λ _. freed-routed m.label))
      (λ _. unfold Routed in tt)))

module _ (c : Card) (gs : List Given) (S : Sound c gs) (R : Ruled c) where
  moved-routed : (r : List ℕ) (via : ℕ) → route_refusal c r via ≡ 0 → Routed c (route r via) (re_route c r via)
  unfolding re_route Routed route_now
  moved-routed r via e q =
      let enough : need_all r (upstream via) c ≤ free_labels c = enough-labels c r via e in
      by-test (same r q)
      (λ k. rw k (ap (λ (x : List ℕ). route_of x (with_routes (routes_with c r via) (move_all r (upstream via) c).card)) (sym (same-eq r q k)) ∙ own-route c gs S R r via (upstream-near via) enough))
      (λ k. rw k (other-route c gs S R r via (upstream-near via) enough q k))

  route-routed : (r : List ℕ) (via : ℕ) → Routed c (route r via) (on_route c r via)
  unfolding on_route
  route-routed r via =
      unless-routed c (route r via) _ _
      (λ _. picked (Routed c (route r via)) (eqb (route_of r c) via)
      (λ e. unfold Routed route_now in λ q. by-test (same r q) (λ k. rw k (ap (λ (x : List ℕ). route_of x c) (sym (same-eq r q k)) ∙ eqb-true _ _ e)) (λ k. rw k refl))
      (λ _. unless-routed c (route r via) _ _ (moved-routed r via)))

  lost-routed : (n : ℕ) → n < neighbour_count → Routed c (lost n) (part c n)
  unfolding part Routed route_now
  lost-routed n near q = same_route (ending n c gs S) (parted n c) q (loss-routes n c gs S) ∙ parted-route n c q (R.roots q)

  pub event-routed : (e : Event) → Routed c e (outcome c e)
  unfolding outcome on_octets on_join on_leave on_lost no_neighbour route_now
  event-routed (receive n s) = unless-routed c _ _ _ (λ _. unless-routed c _ _ _ (λ _. message-routed c (receive n s) (λ q b. refl) n (message_in s)))
  event-routed (join e) = unless-routed c _ _ _ (λ _. become-routed c (join e) (λ q b. refl) _ _)
  event-routed (leave e) = unless-routed c _ _ _ (λ _. unless-routed c _ _ _ (λ _. unless-routed c _ _ _ (λ _. enter-routed c (leave e) (λ q b. refl) _ _)))
  event-routed (route r via) = route-routed r via
  event-routed (lost n) = unless-routed c _ _ _ (λ z. lost-routed n (suc-le-suc (ltb-false 15 n (no-when 0 _ 0 z).0)))
