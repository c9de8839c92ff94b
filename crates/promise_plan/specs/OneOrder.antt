-- One entry of a list carried out: a route order that moves a root from one neighbour to another. It is taken, it spends what it needs, and it leaves alone what any other root's move needs.
-- Assumes nothing.
use Prim.Native.Nat.{ℕ, zero, suc, ◌+◌, ◌≤◌, ◌<◌}
use Rattle.std.proofs.Common.{le_refl, sym, ap, ap₂, ◌∙◌}
use native.Mathlib.Omega.{arith}
use Rattle.std.specs.Prelude.{◌≡◌, false, List, eqb}
use Rattle.std.proofs.Math.Path.{refl, subst}
use Rattle.std.proofs.Math.ListN.{length}
use borrow.Author.Tests.{ne_eqb, lt-ltb, le-ltb}
use Rattle.meaning.specs.Octets.{pick, same, ◌when◌else◌}
use Rattle.meaning.specs.Wire.{root_in, Sent, records, ids_after}
use Rattle.meaning.specs.Card.{Tree, Card, no_route, with_next, with_routes, tree_place, tree_of, tree_at, use_of, held_for, free_labels, route_of, route_place, sent_limit, neighbour_count}
use Rattle.meaning_laws.specs.Counts.{counted-twelve, counted_same}
use Rattle.meaning.specs.Events.{runs_out, Out, Outcome, taken, unless, accept, room_short, finish, Moved, still, followed_by, need_move, labels_short, upstream, holder_of, of_root, move_one, move_from, move_all, need_one, sum_from, need_all, routes_with, not_route, not_root, routes_full, route_refusal, re_route, on_route, route, outcome, event}
use Rattle.promise.specs.Promise.{Given, note_all, note_taken}
use Rattle.promise.specs.CardLaws.{shape}
use Rattle.promise.specs.LabelLaws.{Sound, Fine, Kept}
use Rattle.promise.proofs.LabelLaws.{spent-eq, one-fine, one_free, need-later, all-kept, shape-name}
use Rattle.promise.specs.RuleLaws.{Ruled}
use Rattle.promise.proofs.RuleLaws.{shape-holder, own-route, other-route}
use Rattle.promise.specs.EventLaws.{Follows, Keeps, became, Apart}
use Rattle.promise.proofs.EventLaws.{event-keeps, upstream-near}
use Rattle.promise.proofs.Sizes.{order-short}

-- ---- what a move needs depends on no tree's label

need-shape : (r : List ℕ) (u : ℕ) (t s : Tree) → shape t ≡ shape s → need_one r u t ≡ need_one r u s
unfolding need_one of_root
need-shape r u t s e = ap₂ (λ (x : ℕ) (a : List ℕ). pick (same (root_in a) r) (need_move x) 0) (shape-holder u t s e) (shape-name t s e)

sum_same : (f : Tree → ℕ) (n i : ℕ) (c d : Card) → ((j : ℕ) → f (tree_at j d) ≡ f (tree_at j c)) → sum_from f n i d ≡ sum_from f n i c
unfolding sum_from
sum_same f zero i c d e = refl
sum_same f (suc n) i c d e = ap₂ ◌+◌ (e i) (sum_same f n (suc i) c d e)

pub need-same : (q : List ℕ) (w : ℕ) (c d : Card) → length d.trees ≡ length c.trees → ((j : ℕ) → shape (tree_at j d) ≡ shape (tree_at j c)) → need_all q w d ≡ need_all q w c
unfolding need_all
need-same q w c d size at = rw size (sum_same (need_one q w) (length c.trees) 0 c d (λ j. need-shape q w (tree_at j d) (tree_at j c) (at j)))

-- ---- what a move spends

module _ (r : List ℕ) (u : ℕ) (near : eqb u no_route ≡ false → u < neighbour_count) where
  from-free : (n i : ℕ) (c : Card) (gs : List Given) → Sound c gs → i + n ≤ length c.trees → sum_from (need_one r u) n i c ≤ free_labels c
      → free_labels (move_from r u n i c).card + sum_from (need_one r u) n i c ≡ free_labels c
  unfolding move_from sum_from followed_by still
  from-free zero i c gs S h enough = omega arith
  from-free (suc n) i c gs S h enough =
      let within : i < length c.trees = omega arith in
      let first : need_one r u (tree_at i c) ≤ free_labels c = omega arith in
      let p : Fine i c gs (move_one r u i c) = one-fine r u near c gs S i within first in
      let later = need-later r u near c gs S i within (move_one r u i c) p n (suc i) (le_refl _) (omega arith) in
      let spent = one_free r u near c gs S i within first in
      let size : length (move_one r u i c).card.trees ≡ length c.trees = p.size in
      let rest = from-free n (suc i) (move_one r u i c).card _ p.sound (omega arith) (omega arith) in
      omega (arith, rest, later, spent)

  all-free : (c : Card) (gs : List Given) → Sound c gs → need_all r u c ≤ free_labels c → free_labels (move_all r u c).card + need_all r u c ≡ free_labels c
  unfolding move_all need_all
  all-free c gs S enough = from-free (length c.trees) 0 c gs S (omega arith) enough

-- ---- the order

upstream-is : (via : ℕ) → via < neighbour_count → upstream via ≡ via
unfolding upstream
upstream-is via h = rw (lt-ltb via neighbour_count h) refl

accepted-records : (room : ℕ) (c after : Card) (ms : List Sent) → length (records c.next ms) ≤ room → finish room c (taken ms after) ≡ accept (records c.next ms) (ids_after c.next ms) after
unfolding finish room_short
accepted-records room c after ms h = rw (le-ltb room (length (records c.next ms)) h) refl

accepted-length : (room : ℕ) (c after : Card) (ms : List Sent) → length (records c.next ms) ≤ room → length (finish room c (taken ms after)).octets ≡ length (records c.next ms)
unfolding accept
accepted-length room c after ms h = ap (λ (o : Out). length o.octets) (accepted-records room c after ms h)

taken-keeps : (c : Card) (gs : List Given) (r : List ℕ) (via : ℕ) (ms : List Sent) (after : Card) → Sound c gs → outcome c (route r via) ≡ taken ms after → Follows c gs (became (route r via)) (Apart (route r via) c) ms after
unfolding Keeps note_taken
taken-keeps c gs r via ms after S e = subst (λ (o : Outcome). Keeps c gs (became (route r via)) (Apart (route r via) c) o) e (unfold note_taken in event-keeps c gs S (route r via))

module _ (c : Card) (gs : List Given) (S : Sound c gs) (R : Ruled c) (r : List ℕ) (n via : ℕ)
    (from : route_of r c ≡ n) (low : n < neighbour_count) (right : not_root r ≡ false) (near : via < neighbour_count) (other : via ≡ n → ⊥) (enough : need_all r via c ≤ free_labels c) where
  abbrev moved : Moved
  moved = move_all r via c

  abbrev end : Card
  end = with_routes (routes_with c r via) moved.card

  its-near : eqb via no_route ≡ false → via < neighbour_count
  its-near e = near

  no-refusal : route_refusal c r via ≡ 0
  unfolding routes_full runs_out labels_short ◌when◌else◌
  no-refusal = counted-twelve c r via (R.counts r) ∙ rw (from, ne_eqb n no_route (λ z. omega arith), upstream-is via near, le-ltb (free_labels c) (need_all r via c) enough) refl

  is-taken : outcome c (route r via) ≡ taken moved.sent end
  unfolding outcome on_route not_route re_route unless ◌when◌else◌
  is-taken = rw (le-ltb no_route via (omega arith), right, from, ne_eqb n via (λ z. other (sym z)), no-refusal, upstream-is via near) refl

  its-length : (k : ℕ) → length (records c.next moved.sent) ≤ k → length (event k c (route r via)).octets ≡ length (records c.next moved.sent)
  unfolding event
  its-length k h = rw is-taken (accepted-length k c end moved.sent h)

  its-room : (room : ℕ) → sent_limit ≤ room → length (records c.next moved.sent) ≤ room
  its-room room big =
      let k : ℕ = length (records c.next moved.sent) in
      omega (arith, order-short c gs S R k r via, its-length k (le_refl k))

  -- the order is taken, and this is the table after it
  abbrev after : Card
  after = with_next (ids_after c.next moved.sent) end

  pub order-taken : (room : ℕ) → sent_limit ≤ room → event room c (route r via) ≡ accept (records c.next moved.sent) (ids_after c.next moved.sent) end
  unfolding event
  order-taken room big = rw is-taken (accepted-records room c end moved.sent (its-room room big))

  follows : Follows c gs (became (route r via)) (Apart (route r via) c) moved.sent end
  follows = taken-keeps c gs r via moved.sent end S is-taken

  pub after-sound : Sound after (note_all moved.sent gs)
  unfolding with_next tree_of tree_place use_of free_labels
  after-sound =
      let k = follows.sound in
      record { tidy = k.tidy; low = k.low; high = k.high; many = k.many; linked = k.linked; books = k.books; sum = k.sum; last = unfold free_labels in spent-eq _ _ refl refl (λ z. z) k.last }

  pub after-ruled : Ruled after
  unfolding with_next tree_at held_for holder_of route_of route_place use_of
  after-ruled =
      let k = follows.ruled R in
      record { roots = k.roots; full = k.full; held = k.held; trees = k.trees; routes = k.routes; counts = λ q. counted_same end _ refl refl q (k.counts q) }

  kept : Kept c gs moved
  kept = all-kept r via its-near c gs S enough

  -- what any root's move needs stays
  pub after-need : (q : List ℕ) (w : ℕ) → need_all q w after ≡ need_all q w c
  after-need q w = need-same q w c after (unfold with_next with_routes in kept.size) (λ j. unfold with_next with_routes tree_at in kept.at j)

  pub after_free : free_labels after + need_all r via c ≡ free_labels c
  unfolding free_labels with_next with_routes
  after_free = unfold free_labels in all-free r via its-near c gs S enough

  -- the routes
  pub own-after : route_of r after ≡ via
  unfolding route_of route_place with_next
  own-after = unfold route_of route_place in own-route'
    where
      own-route' : route_of r end ≡ via
      own-route' = subst (λ (x : ℕ). route_of r (with_routes (routes_with c r via) (move_all r x c).card) ≡ via) (upstream-is via near) (own-route c gs S R r via (upstream-near via) (rw (upstream-is via near) enough))

  pub other_after : (q : List ℕ) → same r q ≡ false → route_of q after ≡ route_of q c
  unfolding route_of route_place with_next
  other_after q d = unfold route_of route_place in other-route'
    where
      other-route' : route_of q end ≡ route_of q c
      other-route' = subst (λ (x : ℕ). route_of q (with_routes (routes_with c r via) (move_all r x c).card) ≡ route_of q c) (upstream-is via near) (other-route c gs S R r via (upstream-near via) (rw (upstream-is via near) enough) q d)
