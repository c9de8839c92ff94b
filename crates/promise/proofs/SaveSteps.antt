-- What the save has to know of a history, besides that its table is upheld: the identifier, the routes, the accepted events and the live labels, step by step.
-- Assumes nothing.
use Prim.Native.Nat.{ℕ, zero, suc, ◌+◌, ◌%◌, ◌≤◌, ◌<◌, suc-le-suc}
use native.Mathlib.Omega.{arith}
use Rattle.std.specs.Prelude.{◌≡◌, Bool, false, List, [], ◌∷◌, eqb}
use Rattle.std.proofs.Math.Path.{refl, ap}
use Rattle.std.proofs.Common.{◌∙◌, sym}
use Rattle.std.proofs.Math.Bool.{true}
use borrow.Author.Tests.{eqb-true, eqb-false, le-leb, ltb-false}
use Rattle.meaning.specs.Octets.{put, cut, all}
use Rattle.meaning.specs.Wire.{mapping, withdraw, release, Message, message_in, Sent, records, next_id, ids_after}
use Rattle.meaning.specs.Card.{no_route, Route, Tree, free, Card, with_next, with_routes, with_trees, with_labels, tree_place, route_of, route_place, tree_of, this_node}
use Rattle.meaning.specs.Events.{Out, Outcome, refused, taken, unless, refuse, accept, room_short, finish, Moved, set_use, relabel, holder_of, entered, swept, enter, become, on_mapping, on_withdraw, on_release, on_message, no_neighbour, on_octets, on_join, on_leave, routes_with, not_route, not_root, re_route, on_route, Event, receive, join, leave, route, outcome, event, routes_without, parted, part, on_lost, lost, recounted, entry_with}
use Rattle.meaning.specs.Lists.{by-test, picked, no-when}
use Rattle.meaning_laws.specs.RoundTrip.{heard, Sendable, AllSendable}
use Rattle.meaning_laws.specs.RoutesStay.{relabel-routes, part-routes}
use Rattle.meaning_laws.specs.Counts.{plain, plains, recount-plain, without-plain}
use Rattle.meaning_save.specs.Save.{is_route}
use Rattle.meaning_laws.specs.SaveFields.{all_cons}
use Rattle.promise.specs.Promise.{Given, is_about, mark, remove, note_sent, note_all, note_taken, Step, Past, answer_to, sends, is_taken, live_at, accepted_at, then_step, then_steps, Each, without}
use Rattle.promise.proofs.CardLaws.{swept-routes}
use Rattle.promise.specs.EventLaws.{became, Apart, Keeps}
use Rattle.promise.proofs.EventLaws.{event-keeps}
use Rattle.promise.specs.PromiseProof.{Upheld}
use Rattle.promise.proofs.PromiseProof.{sends-said, then-upheld}
use Rattle.promise.specs.SaveSteps.{Passed, Goes, Told, AllPassed, Writable}

-- ---- the next identifier is of 32 bits

ids-fit : (n : ℕ) (ms : List Sent) → n < 4294967296 → ids_after n ms < 4294967296
unfolding ids_after next_id
ids-fit n [] h = h
ids-fit n (m ∷ ms) h = ids-fit ((n + 1) % 4294967296) ms (omega arith)

unless-goes : (e : Event) (k : ℕ) (o : Outcome) → (k ≡ 0 → Goes e o) → Goes e (unless k o)
unfolding unless Goes
unless-goes e zero o h = h refl
unless-goes e (suc k) o h = tt

all-put {ℓ} : {A : Type ℓ} (t : A → Bool) (l : List A) (i : ℕ) (x : A) → all t l ≡ true → t x ≡ true → all t (put l i x) ≡ true
unfolding all put
all-put t [] zero x h k = rw k refl
all-put t [] (suc i) x h k = rw k refl
all-put t (y ∷ l) zero x h k = rw k (all_cons t y l h).1
all-put t (y ∷ l) (suc i) x h k = let p = all_cons t y l h in rw p.0 (all-put t l i x p.1 k)

all-cut {ℓ} : {A : Type ℓ} (t : A → Bool) (l : List A) (i : ℕ) → all t l ≡ true → all t (cut l i) ≡ true
unfolding all cut
all-cut t [] zero h = refl
all-cut t [] (suc i) h = refl
all-cut t (y ∷ l) zero h = (all_cons t y l h).1
all-cut t (y ∷ l) (suc i) h = let p = all_cons t y l h in rw p.0 (all-cut t l i p.1)

all_without : (t : Route → Bool) (n : ℕ) (rs : List Route) → all t rs ≡ true → all t (routes_without n rs) ≡ true
unfolding all routes_without
all_without t n [] h = refl
all_without t n (r ∷ rs) h =
    let p = all_cons t r rs h in
    by-test (eqb r.via n) (λ e. rw e (all_without t n rs p.1)) (λ e. rw e (rw p.0 (all_without t n rs p.1)))

-- the counts are not tested here
plain-good : (rs : List Route) → all is_route (plains rs) ≡ all is_route rs
unfolding plains plain all is_route
plain-good [] = refl
plain-good (x ∷ rs) = rw (plain-good rs) refl

good-plain : (rs ss : List Route) → plains rs ≡ plains ss → all is_route ss ≡ true → all is_route rs ≡ true
good-plain rs ss e h = sym (plain-good rs) ∙ ap (all is_route) e ∙ plain-good ss ∙ h

module _ (c : Card) (good : all is_route c.routes ≡ true) (e : Event) (passed : Passed e) where
  enter-goes : (first : List Sent) (t : Tree) → Goes e (enter c first t)
  unfolding enter Goes recounted with_routes
  enter-goes first t =
      let i : ℕ = tree_place t.name c in
      let m : Moved = relabel i (holder_of c t) (entered c t) in
      let same-routes : (swept i m.card).routes ≡ c.routes = swept-routes m.card i ∙ relabel-routes i (holder_of c t) (entered c t) ∙ unfold entered with_trees in refl in
      (good-plain _ c.routes (recount-plain (tree_of t.name c) t (swept i m.card).routes ∙ ap plains same-routes) good, passed)

  become-goes : (first : List Sent) (t : Tree) → Goes e (become c first t)
  unfolding become
  become-goes first t = unless-goes e _ _ (λ _. enter-goes first t)

  freed-goes : (l : ℕ) → Goes e (taken [] (set_use l free c))
  unfolding Goes set_use with_labels
  freed-goes l = (good, passed)

  message-goes : (n : ℕ) (m : Message) → Goes e (on_message c n m)
  unfolding on_message on_mapping on_withdraw on_release
  message-goes n m =
      picked (Goes e) (eqb m.kind mapping)
      (λ _. unless-goes e _ _ (λ _. become-goes _ _))
      (λ _. picked (Goes e) (eqb m.kind withdraw)
      (λ _. become-goes _ _)
      (λ _. picked (Goes e) (eqb m.kind release)
      (λ _. unless-goes e _ _ (λ _. freed-goes m.label))
      (λ _. unfold Goes in tt)))

module _ (c : Card) (good : all is_route c.routes ≡ true) where
  new-routes : (r : List ℕ) (via : ℕ) → not_route via ≡ false → not_root r ≡ false → all is_route (routes_with c r via) ≡ true
  unfolding routes_with not_route
  new-routes r via low long =
      by-test (eqb via no_route)
      (λ e. rw e (all-cut is_route c.routes (route_place r c) good))
      (λ e. rw e (all-put is_route c.routes (route_place r c) _ good (is-route (λ z. eqb-false via no_route e z))))
    where
      is-route : (via ≡ no_route → ⊥) → is_route (entry_with c r via) ≡ true
      is-route other = unfold is_route entry_with in rw (long, le-leb via this_node (below via (ltb-false no_route via low) other)) refl
        where
          below : (v : ℕ) → v ≤ no_route → (v ≡ no_route → ⊥) → v ≤ this_node
          below v h d = omega arith

  route-goes : (r : List ℕ) (via : ℕ) → Goes (route r via) (on_route c r via)
  unfolding on_route
  route-goes r via =
      unless-goes (route r via) _ _
      (λ z. let p = no-when 0 (not_route via) _ z in
      picked (Goes (route r via)) (eqb (route_of r c) via)
      (λ _. unfold Goes Passed in (good, tt))
      (λ _. unless-goes (route r via) _ _ (λ _. unfold Goes Passed re_route with_routes in (new-routes r via p.0 (no-when 5 (not_root r) 0 p.1).0, tt))))

  lost-goes : (n : ℕ) → Goes (lost n) (part c n)
  unfolding part Goes Passed
  lost-goes n = (rw (part-routes n c) (unfold parted with_routes with_trees with_labels in all_without is_route n _ (good-plain _ c.routes (without-plain n c.trees c.routes) good)), tt)

  event-goes : (e : Event) → Goes e (outcome c e)
  unfolding outcome on_octets on_join on_leave on_lost no_neighbour Passed
  event-goes (receive n s) = unless-goes _ _ _ (λ z. unless-goes _ _ _ (λ e. message-goes c good (receive n s) (unfold Passed in heard n s (suc-le-suc (ltb-false 15 n (no-when 0 _ 0 z).0)) e) n (message_in s)))
  event-goes (join e) = unless-goes _ _ _ (λ _. become-goes c good (join e) (unfold Passed in tt) _ _)
  event-goes (leave e) = unless-goes _ _ _ (λ _. unless-goes _ _ _ (λ _. unless-goes _ _ _ (λ _. enter-goes c good (leave e) (unfold Passed in tt) _ _)))
  event-goes (route r via) = route-goes r via
  event-goes (lost n) = unless-goes _ _ _ (λ _. lost-goes n)

told-mark : (n : ℕ) (m : Message) (gs : List Given) → Each Told gs → Each Told (mark n m gs)
unfolding mark Each Told
told-mark n m [] h = tt
told-mark n m (g ∷ gs) h = (picked Told (is_about n m g) (λ _. unfold Told in h.0) (λ _. unfold Told in h.0), told-mark n m gs h.1)

told-remove : (n : ℕ) (m : Message) (gs : List Given) → Each Told gs → Each Told (remove n m gs)
unfolding remove Each
told-remove n m [] h = tt
told-remove n m (g ∷ gs) h = picked (Each Told) (is_about n m g) (λ _. told-remove n m gs h.1) (λ _. unfold Each in (h.0, told-remove n m gs h.1))

told-without : (n : ℕ) (gs : List Given) → Each Told gs → Each Told (without n gs)
unfolding without Each
told-without n [] h = tt
told-without n (g ∷ gs) h = picked (Each Told) (eqb g.to n) (λ _. told-without n gs h.1) (λ _. unfold Each in (h.0, told-without n gs h.1))

told-sent : (m : Sent) (gs : List Given) → Sendable m → Each Told gs → Each Told (note_sent m.to m.message gs)
unfolding note_sent
told-sent m gs s h =
    picked (Each Told) (eqb m.message.kind mapping)
    (λ _. unfold Each Told in ((s.near, s.says.name), h))
    (λ _. picked (Each Told) (eqb m.message.kind withdraw) (λ _. told-mark m.to m.message gs h) (λ _. h))

told-all : (ms : List Sent) (gs : List Given) → AllSendable ms → Each Told gs → Each Told (note_all ms gs)
unfolding note_all AllSendable
told-all [] gs s h = h
told-all (m ∷ ms) gs s h = told-all ms (note_sent m.to m.message gs) s.1 (told-sent m gs s.0 h)

told-taken : (e : Event) (gs : List Given) → Each Told gs → Each Told (note_taken e gs)
unfolding note_taken
told-taken (receive n s) gs h = picked (Each Told) (eqb (message_in s).kind release) (λ _. told-remove n (message_in s) gs h) (λ _. h)
told-taken (join e) gs h = h
told-taken (leave e) gs h = h
told-taken (route r via) gs h = h
told-taken (lost n) gs h = told-without n gs h

module _ (c : Card) (e : Event) (room : ℕ) where
  out-next : (o : Outcome) → c.next < 4294967296 → (finish room c o).card.next < 4294967296
  unfolding finish refuse accept with_next
  out-next (refused n) h = h
  out-next (taken ms after) h = picked (λ (x : Out). x.card.next < 4294967296) (room_short room (records c.next ms)) (λ _. h) (λ _. ids-fit c.next ms h)

  out-routes : (o : Outcome) → Goes e o → all is_route c.routes ≡ true → all is_route (finish room c o).card.routes ≡ true
  unfolding finish refuse accept with_next Goes
  out-routes (refused n) g h = h
  out-routes (taken ms after) g h = picked (λ (x : Out). all is_route x.card.routes ≡ true) (room_short room (records c.next ms)) (λ _. h) (λ _. g.0)

  out-passed : (gs : List Given) (o : Outcome) → Goes e o → Keeps c (note_taken e gs) (became e) (Apart e c) o → (finish room c o).answer ≡ 0 → Passed e
  unfolding finish refuse Goes Keeps
  out-passed gs (refused n) g k z = absurd (k z)
  out-passed gs (taken ms after) g k z = g.1

pub then-writable : (p : Past) (s : Step) → Upheld p → Writable p → Writable (then_step p s)
unfolding then_step live_at accepted_at is_taken
then-writable p s u w =
    let g : Goes s.does (outcome p.card s.does) = event-goes p.card w.routes s.does in
    let k = event-keeps p.card p.live u.sound s.does in
    record {
      next = unfold answer_to event in out-next p.card s.does s.room (outcome p.card s.does) w.next;
      routes = unfold answer_to event in out-routes p.card s.does s.room (outcome p.card s.does) g w.routes;
      passed = picked AllPassed (eqb (answer_to p.card s).answer 0)
          (λ e. unfold AllPassed in ((unfold answer_to event in out-passed p.card s.does s.room p.live (outcome p.card s.does) g k (unfold answer_to event in eqb-true _ _ e)), w.passed))
          (λ _. w.passed);
      told = told-all (sends p.card s) _ (sends-said p s u) (picked (Each Told) (eqb (answer_to p.card s).answer 0) (λ _. told-taken s.does p.live w.told) (λ _. w.told));
    }

pub steps-writable : (p : Past) (ss : List Step) → Upheld p → Writable p → Writable (then_steps p ss)
unfolding then_steps
steps-writable p [] u w = w
steps-writable p (s ∷ ss) u w = steps-writable (then_step p s) ss (then-upheld p s u) (then-writable p s u w)
