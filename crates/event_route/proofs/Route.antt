-- The laws of the route order. Assumes nothing.
use Prim.Native.Nat.{ℕ, zero, suc, ◌+◌, ◌-◌, ◌≤◌, ◌<◌, zero-le}
use native.Mathlib.Omega.{arith}
use mathlib.Core.Path.{◌≡◌, refl, sym, ap, ap₂, ◌∙◌, subst}
use mathlib.Core.Bool.{Bool, true, false, ◌&&◌, ◌||◌, and-false}
use mathlib.Core.List.{List, []}
use lib.ListN.{length}
use lib.Dec.{eqb, leb, ltb}
use borrow.Author.Tests.{eq-eqb, ne_eqb, eqb-true, le-ltb, lt-ltb, ltb-true, ltb-false, leb-false}
use Rattle.meaning.specs.Octets.{put, cut, ◌when◌else◌}
use Rattle.meaning.specs.Lists.{by-test, get_d-out}
use Rattle.meaning.specs.Wire.{records, ids_after}
use Rattle.meaning.specs.Card.{Route, Tree, Card, no_route, no_entry, with_next, with_routes, route_place, route_of, tree_at, free_labels, route_limit, neighbour_count}
use Rattle.meaning.specs.Events.{taken, unless, finish, still, labels_short, upstream, move_one, move_from, move_all, sum_from, need_all, worked_out, entry_of, entry_with, routes_with, quick_no, runs_out, routes_full, re_route}
use Rattle.meaning_laws.specs.RoutesStay.{all-routes}
use Rattle.meaning_laws.specs.Counts.{twelve-cases}
use Rattle.meaning.specs.Calls.{Does}
use Rattle.octets.proofs.Parts.{mid_none}
use Rattle.octets.proofs.Tab.{tab-get}
use Rattle.memory.specs.Memory.{card_of, route_count, route_in}
use Rattle.memory.proofs.Memory.{routes-length}
use Rattle.event_holder.specs.Move.{Wrote, size_one, size_all}
use Rattle.event_move.proofs.Records.{then-length}
use Rattle.event_move.proofs.Trees.{one-other, one-many, one_size}
use Rattle.event_tree.specs.End.{Ended}
use Rattle.event_tree.proofs.Ends.{does-refused, does-short, does-ended}
use Rattle.event_tree.proofs.Tests.{when-1, when-2, when-3, when-0}
use Rattle.event_route.specs.Order.{labels_few, routes_to, moved_to, route_order}

-- ---- what the moves of a root's trees write and leave

module _ (r : List ℕ) (u : ℕ) where
  sum_same : (f : Tree → ℕ) (n i : ℕ) (c d : Card) → ((j : ℕ) → i ≤ j → tree_at j d ≡ tree_at j c) → sum_from f n i d ≡ sum_from f n i c
  unfolding sum_from
  sum_same f zero i c d h = refl
  sum_same f (suc n) i c d h = ap₂ ◌+◌ (ap f (h i (omega arith))) (sum_same f n (suc i) c d (λ j k. h j (omega arith)))

  from-size : (n i id : ℕ) (c : Card) → i + n ≤ length c.trees → length (records id (move_from r u n i c).sent) ≡ sum_from (size_one r u) n i c
  unfolding move_from sum_from
  from-size zero i id c h = unfold still records in refl
  from-size (suc n) i id c h =
      then-length (move_one r u i c) (move_from r u n (suc i)) id
      ∙ ap₂ ◌+◌ (one_size r u i id c (omega arith))
      (from-size n (suc i) _ (move_one r u i c).card (rw (one-many r u i c (omega arith)) (omega arith))
      ∙ sum_same (size_one r u) n (suc i) c (move_one r u i c).card (λ j k. one-other i j (λ e. omega arith) r u c))

  pub all-size : (id : ℕ) (c : Card) → length (records id (move_all r u c).sent) ≡ size_all r u c
  unfolding move_all size_all
  all-size id c = from-size (length c.trees) 0 id c (omega arith)

-- ---- the routes alone

pub same_place : (r : List ℕ) (c d : Card) → d.routes ≡ c.routes → route_place r d ≡ route_place r c
unfolding route_place
same_place r c d e = rw e refl

same-routes : (x : Route) (c d : Card) → d.routes ≡ c.routes → routes_to d x ≡ routes_to c x
unfolding routes_to route_place
same-routes x c d e = rw e refl

-- the entry's counts are those that it had, or were worked out, before the trees moved
with-is : (c : Card) (r : List ℕ) (via standing lone : ℕ) → standing ≡ (entry_of r c).standing → lone ≡ (entry_of r c).lone
    → routes_to c (record { root = r; via = via; standing = standing; lone = lone }) ≡ routes_with c r via
unfolding routes_to routes_with entry_with
with-is c r via standing lone es el = rw (es, el) refl

-- a root without an entry has no route
pub no-entry : (r : List ℕ) (c : Card) → route_place r c ≡ length c.routes → route_of r c ≡ no_route
unfolding route_of
no-entry r c e = ap (λ (x : Route). x.via) (get_d-out c.routes (route_place r c) (no_entry r) (omega arith))

module _ (c : Card) (x : Route) where
  pub gone-is : (i : ℕ) → i ≡ route_place x.root c → x.via ≡ no_route → with_routes (cut c.routes i) c ≡ with_routes (routes_to c x) c
  unfolding routes_to
  gone-is i e z = rw (eq-eqb x.via no_route z, e) refl

  pub put_is : (x.via ≡ no_route → ⊥) → with_routes (put c.routes (route_place x.root c) x) c ≡ with_routes (routes_to c x) c
  unfolding routes_to
  put_is z = rw (ne_eqb x.via no_route z) refl

-- ---- the counts

module _ (ns os r : List ℕ) (k : ℕ) (e : k ≡ route_place r (card_of ns os)) where
  pub entry-there : k < route_count ns → route_in ns os k ≡ entry_of r (card_of ns os)
  entry-there h = unfold entry_of in rw (← e) (unfold card_of in sym (tab-get (route_count ns) (route_in ns os) k _ h))

  pub entry_new : route_count ns ≤ k → worked_out (card_of ns os).trees (no_entry r) ≡ entry_of r (card_of ns os)
  entry_new h = unfold entry_of in rw (← e) (sym (get_d-out (card_of ns os).routes k _ (rw routes-length h)))

module _ (c : Card) (via standing lone : ℕ) where
  pub surely-far : neighbour_count ≤ via → false ≡ (ltb via neighbour_count && ltb (free_labels c + lone) standing)
  surely-far h = rw (le-ltb via neighbour_count h) refl

  pub surely-none : standing ≤ lone → false ≡ (ltb via neighbour_count && ltb (free_labels c + lone) standing)
  surely-none h = rw (le-ltb (free_labels c + lone) standing (omega arith)) (sym (and-false (ltb via neighbour_count)))

  pub surely-some : (b : Bool) → via < neighbour_count → lone < standing → b ≡ labels_short c (standing - lone) → b ≡ (ltb via neighbour_count && ltb (free_labels c + lone) standing)
  unfolding labels_short
  surely-some b near h e =
      e ∙ rw (lt-ltb via neighbour_count near) (by-test (ltb (free_labels c) (standing - lone))
      (λ t. rw (t, lt-ltb (free_labels c + lone) standing (let q = ltb-true (free_labels c) (standing - lone) t in omega arith)) refl)
      (λ t. rw (t, le-ltb (free_labels c + lone) standing (let q = ltb-false (free_labels c) (standing - lone) t in omega arith)) refl))

  -- by the root's entry
  pub quick-is : (r : List ℕ) → standing ≡ (entry_of r c).standing → lone ≡ (entry_of r c).lone → (ltb via neighbour_count && ltb (free_labels c + lone) standing) ≡ quick_no c r via
  unfolding quick_no
  quick-is r es el = rw (es, el) refl

pub few-quick : (c : Card) (r : List ℕ) (via : ℕ) → quick_no c r via ≡ true → labels_few c r via ≡ true
few-quick c r via e = rw e refl

-- where the counts refuse nothing, what a move of all trees is refused by
pub few-walk : (c : Card) (r : List ℕ) (via u k room : ℕ) → routes_full c r via ≡ false → quick_no c r via ≡ false → u ≡ upstream via
    → k ≡ 12 when labels_short c (need_all r u c) else 16 when ltb room (size_all r u c) else 0
    → k ≡ 15 when routes_full c r via else 12 when labels_few c r via else 16 when ltb room (size_all r (upstream via) c) else 0
unfolding runs_out ◌when◌else◌
few-walk c r via u k room full quick eu e = rw (full, quick, ← eu) e

-- ---- the order by its cases

pub full_is : (c : Card) (r : List ℕ) (via old : ℕ) → old ≡ route_of r c → (route_of r c ≡ via → ⊥) → (eqb old no_route && leb route_limit (length c.routes)) ≡ routes_full c r via
unfolding routes_full
full_is c r via old was ne =
    rw was
    (by-test (eqb (route_of r c) no_route)
    (λ e. rw (e, ne_eqb via no_route (λ z. ne (eqb-true _ _ e ∙ sym z))) refl)
    (λ e. rw e refl))

pub order_same : (c : Card) (r : List ℕ) (via : ℕ) (s : List ℕ) → route_of r c ≡ via → Does (finish (length s) c (route_order c r via)) 0 0 s s c
unfolding route_order
order_same c r via s e =
    rw (eq-eqb (route_of r c) via e)
    (does-ended c c [] s s c 0 (unfold records in zero-le) (record { leaves = unfold ids_after with_next in refl; writes = unfold records in mid_none 0 s; ends = unfold records in refl }))

second : (x y : Bool) → (x || y) ≡ false → y ≡ false
second true y e = absurd (let z : ◌≡◌ {A = ℕ} 0 1 = cc in omega arith)
second false y e = e

module _ (c : Card) (r : List ℕ) (via : ℕ) (ne : route_of r c ≡ via → ⊥) (s : List ℕ) (k : ℕ)
    (ek : k ≡ 15 when routes_full c r via else 12 when labels_few c r via else 16 when ltb (length s) (size_all r (upstream via) c) else 0) where
  order_is : route_order c r via ≡ unless (15 when routes_full c r via else 12 when labels_few c r via else 0) (taken (moved_to c r via).sent (moved_to c r via).card)
  unfolding route_order re_route moved_to
  order_is = rw (ne_eqb (route_of r c) via ne, twelve-cases c r via) refl

  written-size : length (records c.next (moved_to c r via).sent) ≡ size_all r (upstream via) c
  unfolding moved_to
  written-size = all-size r (upstream via) c.next c

  pub order-refused : (k ≡ 0 → ⊥) → Does (finish (length s) c (route_order c r via)) k 0 s s c
  order-refused some =
      by-test (routes_full c r via)
      (λ x. rw (ek ∙ when-1 15 12 16 _ _ _ x, order_is, x) (unfold ◌when◌else◌ unless in does-refused c 15 s))
      (λ x. by-test (labels_few c r via)
      (λ y. rw (ek ∙ when-2 15 12 16 _ _ _ x y, order_is, x, y) (unfold ◌when◌else◌ unless in does-refused c 12 s))
      (λ y. by-test (ltb (length s) (size_all r (upstream via) c))
      (λ z. rw (ek ∙ when-3 15 12 16 _ _ _ x y z, order_is, x, y) (unfold ◌when◌else◌ unless in does-short c _ _ s (rw written-size (ltb-true _ _ z))))
      (λ z. absurd (some (ek ∙ when-0 15 12 16 _ _ _ x y z)))))

  passes : k ≡ 0 → (routes_full c r via ≡ false) × (labels_few c r via ≡ false) × (size_all r (upstream via) c ≤ length s)
  passes q =
      by-test (routes_full c r via)
      (λ x. absurd (omega (arith, ek, when-1 15 12 16 _ (labels_few c r via) (ltb (length s) (size_all r (upstream via) c)) x)))
      (λ x. by-test (labels_few c r via)
      (λ y. absurd (omega (arith, ek, when-2 15 12 16 _ _ (ltb (length s) (size_all r (upstream via) c)) x y)))
      (λ y. by-test (ltb (length s) (size_all r (upstream via) c))
      (λ z. absurd (omega (arith, ek, when-3 15 12 16 _ _ _ x y z)))
      (λ z. (x, y, ltb-false _ _ z))))

  -- what `re_route` asks
  pub order-ready : k ≡ 0 → (route_place r c ≡ length c.routes → (via ≡ no_route → ⊥) × (length c.routes < route_limit)) × (need_all r (upstream via) c ≤ free_labels c) × (size_all r (upstream via) c ≤ length s)
  order-ready q =
      let p = passes q in
      ((λ e. let none = no-entry r c e in ((λ z. ne (none ∙ sym z)), few none p.0)), walk-enough p.1, p.2)
    where
      walk-enough : labels_few c r via ≡ false → need_all r (upstream via) c ≤ free_labels c
      walk-enough e = unfold runs_out labels_short in ltb-false _ _ (second (quick_no c r via) _ e)

      few : route_of r c ≡ no_route → routes_full c r via ≡ false → length c.routes < route_limit
      few none full = leb-false route_limit (length c.routes) (rw (eq-eqb (route_of r c) no_route none) at (full_is c r via (route_of r c) refl ne ∙ full))

  pub order-done : k ≡ 0 → (s' : List ℕ) (e : Card) (end : ℕ) → Ended (moved_to c r via) c.next 0 s s' e end → Does (finish (length s) c (route_order c r via)) 0 end s s' e
  order-done q s' e end w =
      let p = passes q in
      rw (order_is, p.0, p.1) (unfold ◌when◌else◌ unless in does-ended c _ _ s s' e end (rw written-size p.2) w)

-- the trees have moved, and then the entry
pub moved_ends : (c d e : Card) (r : List ℕ) (via u standing lone : ℕ) (id : ℕ) (s s' : List ℕ) (end next : ℕ) → id ≡ c.next → u ≡ upstream via
    → standing ≡ (entry_of r c).standing → lone ≡ (entry_of r c).lone → Wrote (move_all r u c) id 0 s s' d end next
    → e ≡ with_next next (with_routes (routes_to d (record { root = r; via = via; standing = standing; lone = lone })) d) → Ended (moved_to c r via) c.next 0 s s' e end
moved_ends c d e r via u standing lone id s s' end next ei eu es el w q =
    subst (λ (n : ℕ). Ended (moved_to c r via) n 0 s s' e end) ei (unfold moved_to in
    subst (λ (v : ℕ). Ended (record { sent = (move_all r v c).sent; card = with_routes (routes_with c r via) (move_all r v c).card }) id 0 s s' e end) eu
    (record {
      leaves = q ∙ ap₂ (λ (n : ℕ) (x : Card). with_next n (with_routes (routes_to x entry) x)) w.counts w.leaves
          ∙ ap (λ (rs : List Route). with_next (ids_after id (move_all r u c).sent) (with_routes rs (move_all r u c).card)) (same-routes entry c (move_all r u c).card (all-routes r u c) ∙ with-is c r via standing lone es el);
      writes = w.writes;
      ends = w.ends;
    }))
  where
    entry : Route
    entry = record { root = r; via = via; standing = standing; lone = lone }

-- ---- small tests

-- a root's entry that goes is there
pub stands-below : (ns os : List ℕ) (r : List ℕ) (i via : ℕ) → i ≡ route_place r (card_of ns os) → i ≤ route_count ns
    → (route_place r (card_of ns os) ≡ length (card_of ns os).routes → (via ≡ no_route → ⊥) × (length (card_of ns os).routes < route_limit)) → via ≡ no_route → i < route_count ns
stands-below ns os r i via e h p z =
    by-test (ltb i (route_count ns))
    (λ t. ltb-true _ _ t)
    (λ t. let at-end : i ≡ route_count ns = omega (arith, ltb-false i (route_count ns) t) in absurd ((p (sym e ∙ at-end ∙ sym (routes-length ns os))).0 z))

-- a root's entry that comes has a place
pub room-for-it : (ns os : List ℕ) (r : List ℕ) (i via : ℕ) → i ≡ route_place r (card_of ns os) → i ≤ route_count ns
    → (route_place r (card_of ns os) ≡ length (card_of ns os).routes → (via ≡ no_route → ⊥) × (length (card_of ns os).routes < route_limit)) → route_count ns ≤ route_place r (card_of ns os) → route_count ns < route_limit
room-for-it ns os r i via e h p k = rw (routes-length ns os) at (p (omega (arith, routes-length ns os))).1

-- the entry's place is that of before the move
pub moved-room : (c d : Card) (r : List ℕ) (u via : ℕ) → d ≡ (move_all r u c).card → (route_place r c ≡ length c.routes → (via ≡ no_route → ⊥) × (length c.routes < route_limit))
    → route_place r d ≡ length d.routes → (via ≡ no_route → ⊥) × (length d.routes < route_limit)
moved-room c d r u via e p q =
    let same : d.routes ≡ c.routes = ap (λ (x : Card). x.routes) e ∙ all-routes r u c in
    let long : length d.routes ≡ length c.routes = ap (λ (l : List Route). length l) same in
    let ok = p (sym (same_place r c d same) ∙ q ∙ long) in
    (ok.0, rw long ok.1)

pub moved-place : (c d : Card) (r : List ℕ) (u i : ℕ) → d ≡ (move_all r u c).card → i ≡ route_place r c → i ≤ length c.routes → (i ≡ route_place r d) × (i ≤ length d.routes)
moved-place c d r u i e p h =
    let same : d.routes ≡ c.routes = ap (λ (x : Card). x.routes) e ∙ all-routes r u c in
    let long : length d.routes ≡ length c.routes = ap (λ (l : List Route). length l) same in
    (p ∙ sym (same_place r c d same), rw long h)
