-- The laws by which the calls follow the definitions. Assumes nothing.
use Prim.Native.Nat.{ℕ, ◌≤◌, ◌<◌}
use mathlib.Core.Path.{◌≡◌, refl, sym, ap}
use mathlib.Core.Bool.{true, false, not, and-false}
use mathlib.Core.List.{List}
use lib.ListN.{length}
use lib.Dec.{eqb, leb}
use borrow.Author.Tests.{eq-eqb, ne_eqb, le-leb, lt-leb, le-ltb, lt-ltb}
use Rattle.meaning.specs.Octets.{◌when◌else◌}
use Rattle.meaning.specs.Lists.{positive}
use Rattle.meaning.specs.Wire.{element_refusal, least_label}
use Rattle.meaning.specs.Card.{Card, fresh, with_next, neighbour_count, most_base, no_route}
use Rattle.meaning.specs.Events.{unless, refuse, accept, finish, no_neighbour, on_octets, on_join, on_leave, not_route, not_root, on_route, part, on_lost, receive, join, leave, route, lost, outcome, event, base_outside, start}
use Rattle.meaning.specs.Calls.{Does}
use Rattle.event_join.specs.Order.{join_of}
use Rattle.event_leave.specs.Order.{leave_of}
use Rattle.event_tree.proofs.Ends.{does-refused}
use Rattle.event_route.specs.Order.{route_order}
use Rattle.card_messages.specs.Messages.{on_read}
use Rattle.card_messages.proofs.Messages.{unless-refused, unless-none}

-- ---- start

module _ (base : ℕ) where
  outside_low : base < neighbour_count → base_outside base ≡ true
  unfolding base_outside
  outside_low h = rw (lt-leb least_label base h) refl

  outside_high : most_base < base → base_outside base ≡ true
  unfolding base_outside
  outside_high h = rw (lt-leb base most_base h) (ap not (and-false (leb least_label base)))

  inside : least_label ≤ base → base ≤ most_base → base_outside base ≡ false
  unfolding base_outside
  inside h k = rw (le-leb least_label base h, le-leb base most_base k) refl

  starts-refused : base_outside base ≡ true → (17 ≡ (start base).answer) × (fresh least_label ≡ (start base).card)
  unfolding start
  starts-refused e = rw e (unfold refuse in (refl, refl))

  pub starts-low : base < neighbour_count → (17 ≡ (start base).answer) × (fresh least_label ≡ (start base).card)
  starts-low h = starts-refused (outside_low h)

  pub starts-high : most_base < base → (17 ≡ (start base).answer) × (fresh least_label ≡ (start base).card)
  starts-high h = starts-refused (outside_high h)

  pub starts : least_label ≤ base → base ≤ most_base → (0 ≡ (start base).answer) × (fresh base ≡ (start base).card)
  unfolding start
  starts h k = rw (inside h k) (unfold accept fresh with_next in (refl, refl))

-- ---- octets from a neighbour

module _ (c : Card) (n : ℕ) (s : List ℕ) where
  pub far : 15 < n → (t : List ℕ) → Does (event (length t) c (receive n s)) 1 0 t t c
  unfolding event outcome on_octets no_neighbour
  far h t = rw (lt-ltb 15 n h) (unfold ◌when◌else◌ unless in does-refused c 1 t)

  pub near : n ≤ 15 → (room : ℕ) → finish room c (on_read c n s) ≡ event room c (receive n s)
  unfolding event outcome on_octets no_neighbour on_read
  near h room = rw (le-ltb 15 n h) (unfold ◌when◌else◌ unless in refl)

-- ---- leaf orders

module _ (c : Card) (e : List ℕ) where
  pub join-refused : (k : ℕ) (t : List ℕ) → k ≡ element_refusal e → (k ≡ 0 → ⊥) → Does (event (length t) c (join e)) k 0 t t c
  unfolding event outcome on_join
  join-refused k t q h = rw (← q, unless-refused k _ (positive k h)) (does-refused c k t)

  pub join_is : element_refusal e ≡ 0 → (room : ℕ) → finish room c (join_of c e) ≡ event room c (join e)
  unfolding event outcome on_join join_of
  join_is z room = ap (finish room c) (sym (unless-none (element_refusal e) _ z))

  pub leave-refused : (k : ℕ) (t : List ℕ) → k ≡ element_refusal e → (k ≡ 0 → ⊥) → Does (event (length t) c (leave e)) k 0 t t c
  unfolding event outcome on_leave
  leave-refused k t q h = rw (← q, unless-refused k _ (positive k h)) (does-refused c k t)

  pub leave-is : element_refusal e ≡ 0 → (room : ℕ) → finish room c (leave_of c e) ≡ event room c (leave e)
  unfolding event outcome on_leave leave_of
  leave-is z room = ap (finish room c) (sym (unless-none (element_refusal e) _ z))

-- ---- route orders

pub four-octets : (r : List ℕ) → length r ≡ 4 → false ≡ not_root r
unfolding not_root
four-octets r e = rw (eq-eqb (length r) 4 e) refl

pub other_length : (r : List ℕ) → (length r ≡ 4 → ⊥) → not (eqb (length r) 16) ≡ not_root r
unfolding not_root
other_length r e = rw (ne_eqb (length r) 4 e) refl

module _ (c : Card) (r : List ℕ) (via : ℕ) where
  pub route-far : no_route < via → (t : List ℕ) → Does (event (length t) c (route r via)) 1 0 t t c
  unfolding event outcome on_route not_route
  route-far h t = rw (lt-ltb no_route via h) (unfold ◌when◌else◌ unless in does-refused c 1 t)

  pub route-odd : via ≤ no_route → not_root r ≡ true → (t : List ℕ) → Does (event (length t) c (route r via)) 6 0 t t c
  unfolding event outcome on_route not_route
  route-odd h e t = rw (le-ltb no_route via h, e) (unfold ◌when◌else◌ unless in does-refused c 6 t)

  pub route-is : via ≤ no_route → not_root r ≡ false → (room : ℕ) → finish room c (route_order c r via) ≡ event room c (route r via)
  unfolding event outcome on_route not_route route_order
  route-is h e room = rw (le-ltb no_route via h, e) (unfold ◌when◌else◌ unless in refl)

-- ---- a loss

module _ (c : Card) (n : ℕ) where
  pub lost-far : 15 < n → (t : List ℕ) → Does (event (length t) c (lost n)) 1 0 t t c
  unfolding event outcome on_lost no_neighbour
  lost-far h t = rw (lt-ltb 15 n h) (unfold ◌when◌else◌ unless in does-refused c 1 t)

  pub lost-is : n ≤ 15 → (room : ℕ) → finish room c (part c n) ≡ event room c (lost n)
  unfolding event outcome on_lost no_neighbour
  lost-is h room = rw (le-ltb 15 n h) (unfold ◌when◌else◌ unless in refl)
