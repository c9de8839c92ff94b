-- Offered octets taken in: the memory after it is that of `filled`. Assumes nothing.
use Prim.Native.Nat.{ℕ, ◌+◌, ◌-◌, min, ◌≤◌}
use native.Mathlib.Omega.{arith}
use mathlib.Core.Path.{◌≡◌, refl, sym, ap, ◌∙◌}
use mathlib.Core.List.{List, [], ◌∷◌, ◌++◌}
use lib.ListN.{length, take, drop, length-take, length-drop, drop_of_length-le}
use lib.Seq.{take_all, length-take-le}
use Rattle.session.specs.Stream.{Look, wait, bad, head, message, look, limit, Filled, space, fill, opened, filled, body_limit}
use Rattle.session.specs.StreamLaws.{Tells}
use Rattle.session.proofs.StreamLaws.{look-tells}
use Rattle.session.specs.Lent.{left_in, place_in, count_in}
use Rattle.session.proofs.Lent.{lent-reading, lent-fill}
use Rattle.std.specs.Prelude.{Option, Some, None}
use Rattle.session_look.specs.Shown.{head_in}
use Rattle.session_streams.specs.declared.Held.{Held}
use Rattle.session_streams.specs.Holds.{held_at, IsHeld}
use Rattle.session_streams.proofs.Settling.{take_min}
use Rattle.session_offer.specs.Offers.{TakesIn}
use Rattle.session.specs.Session.{stream_room}
use Rattle.session.proofs.Kept.{limit-some}

-- what is offered from place k on
pub offered-rest : (k : ℕ) (o : List ℕ) → take (length o - k) (drop k o) ≡ drop k o
offered-rest k o = take_all (length o - k) (drop k o) (rw length-drop (omega arith))

-- no PDU's head: as much as may be held
filled_on : (id : List ℕ) (left : ℕ) (h o : List ℕ) → None ≡ head_in (look id left (fill left h 0 o).held) → filled id left h o ≡ fill left h 0 o
unfolding filled opened
filled_on id left h o z = by (look id left (fill left h 0 o).held) (look-tells id left (fill left h 0 o).held) z
  where
    by : (l : Look) → Tells left (fill left h 0 o).held l → None ≡ head_in l → opened l (fill left h 0 o) o ≡ fill left h 0 o
    by wait t z = refl
    by bad t z = refl
    by (message k) t z = refl
    by (head n) t z = let y : None ≡ Some n = unfold head_in in z in cc

-- a whole head: it is done with, and nothing is held but what comes after it
pub record Headed (n e : ℕ) (o : List ℕ) (f : Filled) : Type 0 where
  pub left : f.left ≡ n
  pub held : f.held ≡ take n (drop e o)
  pub eaten : f.eaten ≡ e + min n (length (drop e o))
  pub low : 8 ≤ n
  pub high : n ≤ body_limit

no-octets : (l : List ℕ) → length l ≤ 0 → l ≡ []
no-octets [] h = refl
no-octets (x ∷ l) h = absurd (omega arith)

fill-empty : (n e : ℕ) (o : List ℕ) → 8 ≤ n → n ≤ body_limit → Headed n e o (fill n [] e (drop e o))
unfolding fill space
fill-empty n e o low high =
    let z : limit n - 0 ≡ n = omega (arith, limit-some n (omega arith)) in
    record { left = refl; held = rw z refl; eaten = rw z refl; low = low; high = high }

pub filled-head : (id : List ℕ) (left : ℕ) (h o : List ℕ) (n : ℕ) → Some n ≡ head_in (look id left (fill left h 0 o).held) → length (fill left h 0 o).held ≤ limit left
    → Headed n (fill left h 0 o).eaten o (filled id left h o)
unfolding filled opened
filled-head id left h o n i q = by (look id left (fill left h 0 o).held) (look-tells id left (fill left h 0 o).held) i
  where
    first : Filled
    first = fill left h 0 o

    ten : left ≡ 0 → limit left ≡ 10
    ten e = rw e (unfold limit in refl)

    by : (l : Look) → Tells left first.held l → Some n ≡ head_in l → Headed n first.eaten o (opened l first o)
    by wait t z = let y : Some n ≡ None = unfold head_in in z in cc
    by bad t z = let y : Some n ≡ None = unfold head_in in z in cc
    by (message k) t z = let y : Some n ≡ None = unfold head_in in z in cc
    by (head m) t z =
        let u : (left ≡ 0) × (10 ≤ length first.held) × (8 ≤ m) × (m ≤ body_limit) = unfold Tells in t in
        let e : Some n ≡ Some m = unfold head_in in z in
        let y : n ≡ m = cc in
        let none : drop 10 first.held ≡ [] = drop_of_length-le first.held {i = 10} (omega (arith, ten u.0)) in
        rw (← y, none) (fill-empty n first.eaten o (omega (arith, u.2)) (omega (arith, u.3)))

-- ---- the memory

module _ (ns b o : List ℕ) (h : Held) (lim k : ℕ) (b1 : List ℕ) (is : IsHeld ns h) (is-lim : lim ≡ limit h.left) (long : stream_room ≤ length b)
    (is-k : k ≡ min (lim - h.count) (length o)) (after : b1 ≡ take (h.place + h.count) b ++ (take k o ++ drop k (drop (h.place + h.count) b))) where
  held-length : length (held_at ns b) ≡ h.count
  unfolding held_at
  held-length = rw (← is.count, ← is.place) (length-take-le h.count (drop h.place b) (rw length-drop (omega (arith, is.few, is.within))))

  space-is : space (left_in ns) (held_at ns b) ≡ lim - h.count
  unfolding space
  space-is = rw (held-length, ← is.left, ← is-lim) refl

  pub first-eaten : (fill (left_in ns) (held_at ns b) 0 o).eaten ≡ k
  unfolding fill
  first-eaten = rw space-is (omega arith)

  first-few : h.count + k ≤ limit h.left
  first-few = omega (arith, is.few)

  pub first-held : (fill (left_in ns) (held_at ns b) 0 o).held ≡ take (h.count + k) (drop h.place b1)
  unfolding fill held_at
  first-held =
      let t : take k o ≡ take (lim - h.count) o = ap (λ (j : ℕ). take j o) is-k ∙ take_min (lim - h.count) o in
      rw (space-is, ← is.count, ← is.place, after, lent-fill b o h.place h.count k (omega (arith, first-few, is.within)) (omega arith), t) refl

  fill-left : (fill (left_in ns) (held_at ns b) 0 o).left ≡ h.left
  unfolding fill
  fill-left = sym is.left

  module _ (id part : List ℕ) (lent : part ≡ take (h.count + k) (drop h.place b1)) (r : Option ℕ) (told : r ≡ head_in (look id h.left part)) where
    told-first : r ≡ head_in (look id (left_in ns) (fill (left_in ns) (held_at ns b) 0 o).held)
    told-first = rw (first-held, ← is.left, ← lent) told

    pub took-on : r ≡ None → (ns' : List ℕ) → ns' ≡ 0 ∷ h.left ∷ h.place ∷ (h.count + k) ∷ [] → TakesIn id o (left_in ns) (held_at ns b) k ns' b1
    took-on z ns' e =
        let f = filled_on id (left_in ns) (held_at ns b) o (sym z ∙ told-first) in
        record {
          eats = rw f (sym first-eaten);
          holds = rw (f, fill-left, first-held, e) (lent-reading h.left h.place (h.count + k) b1 is.most is.within first-few);
        }

    pub took-head : (n : ℕ) → r ≡ Some n → (ns' o2 b2 : List ℕ) (more : ℕ) → o2 ≡ drop k o → more ≡ min n (length o2) → stream_room ≤ length b1
        → b2 ≡ take 10 b1 ++ (take more o2 ++ drop more (drop 10 b1)) → ns' ≡ 0 ∷ n ∷ 10 ∷ more ∷ [] → TakesIn id o (left_in ns) (held_at ns b) (k + more) ns' b2
    took-head n z ns' o2 b2 more same is-more long1 e2 e =
        let q : length (fill (left_in ns) (held_at ns b) 0 o).held ≤ limit (left_in ns) = rw (first-held, ← is.left, length-take) (omega (arith, first-few)) in
        let g = filled-head id (left_in ns) (held_at ns b) o n (sym z ∙ told-first) q in
        let u : (fill (left_in ns) (held_at ns b) 0 o).eaten ≡ k = first-eaten in
        let lim-n = limit-some n (omega (arith, g.low)) in
        let part : take (0 + more) (drop 10 (take (10 + 0) b1 ++ (take more o2 ++ drop more (drop (10 + 0) b1)))) ≡ take 0 (drop 10 b1) ++ take more o2 = lent-fill b1 o2 10 0 more (omega (arith, g.high)) (omega arith) in
        let zero_more : 0 + more ≡ more = omega arith in
        let part' : take more (drop 10 b2) ≡ take more o2 = rw e2 (rw zero_more at part) in
        let part'' : take more o2 ≡ take n (drop k o) = ap (λ (j : ℕ). take j o2) is-more ∙ take_min n o2 ∙ ap (take n) same in
        record {
          eats = rw (g.eaten, u, ← same) (omega arith);
          holds = rw (e, g.left, g.held, u, ← part'', ← part') (lent-reading n 10 more b2 g.high (omega (arith, g.high)) (omega arith));
        }
