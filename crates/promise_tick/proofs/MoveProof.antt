-- A MOVE: how many messages a route order sends, and of which trees they are.
-- Assumes nothing.
use Prim.Native.Nat.{ℕ, zero, suc, ◌+◌, ◌*◌, ◌≤◌, zero-le}
use Rattle.std.proofs.Common.{le_refl, suc-mul, sym, ap, ◌∙◌, subst}
use native.Mathlib.Omega.{arith}
use Rattle.std.specs.Prelude.{◌≡◌, Bool, List, [], ◌∷◌, ◌++◌, length, set, eqb}
use Rattle.std.proofs.Math.Path.{refl}
use Rattle.std.proofs.Math.ListN.{get_or}
use Rattle.std.proofs.Math.Seq.{get_or-set_other}
use Rattle.meaning.specs.Octets.{pick, count, same}
use Rattle.meaning.specs.Lists.{by-test, picked, same-eq}
use Rattle.meaning.specs.Wire.{root_in, mapping, withdraw, Sent}
use Rattle.meaning.specs.Card.{Tree, Card, no_route, bare, with_trees, with_labels, with_label, with_last, tree_at, held_for, next_free, route_of}
use Rattle.meaning.specs.Events.{Moved, still, followed_by, tell, set_use, set_label, give_up, give, let_go, take_up, move_label, upstream, of_root, move_one, move_from, move_all, sum_from, re_route, on_route, outcome}
use Rattle.promise.specs.Promise.{Past, sends}
use Rattle.promise.specs.PromiseProof.{Upheld}
use Rattle.promise_net.specs.Net.{Far, nobody, box, Wires, Wired, Net, laid, stepped, over_line, Turn, does, turn, turns}
use Rattle.promise_tick.specs.Tick.{Rank, weight, weights, ahead, Within, Under, Silent, EachName, Slopes, moving, AMove}
use Rattle.promise_tick.specs.Heard.{Says, unless-says, sends-says}
use Rattle.promise_tick.specs.Costs.{cost_at, cost}
use Rattle.promise_tick.specs.Names.{EachSent, sent-append, names-append, names-arriving}
use Rattle.promise_tick.specs.Sums.{sums-zero}
use Rattle.promise_tick.specs.TickProof.{Fit}
use Rattle.promise_tick.proofs.TickProof.{reached-fit, turns-append, soft-tick, cost-at, does-adds}

-- ---- a move leaves the other trees, and the names

set-name : (ts : List Tree) (i l : ℕ) (d : Tree) → (get_or (set ts i (with_label l (get_or ts i d))) i d).name ≡ (get_or ts i d).name
unfolding with_label
set-name [] i l d = refl
set-name (t ∷ ts) zero l d = refl
set-name (t ∷ ts) (suc i) l d = set-name ts i l d

module _ (i : ℕ) (c : Card) where
  let-go-name : (tree_at i (let_go i c).card).name ≡ (tree_at i c).name
  unfolding let_go still give_up set_label set_use with_trees with_labels tree_at
  let-go-name = picked (λ (m : Moved). (get_or m.card.trees i (bare [])).name ≡ (get_or c.trees i (bare [])).name) (eqb (get_or c.trees i (bare [])).label 0) (λ _. refl) (λ _. set-name c.trees i 0 (bare []))

  let-go-at : (j : ℕ) → (j ≡ i → ⊥) → tree_at j (let_go i c).card ≡ tree_at j c
  unfolding let_go still give_up set_label set_use with_trees with_labels tree_at
  let-go-at j d = picked (λ (m : Moved). get_or m.card.trees j (bare []) ≡ get_or c.trees j (bare [])) (eqb (get_or c.trees i (bare [])).label 0) (λ _. refl) (λ _. get_or-set_other c.trees i j _ (bare []) d)

  take-up-at : (u j : ℕ) → (j ≡ i → ⊥) → tree_at j (take_up i u c).card ≡ tree_at j c
  unfolding take_up still give with_last set_label set_use with_trees with_labels tree_at
  take-up-at u j d = picked (λ (m : Moved). get_or m.card.trees j (bare []) ≡ get_or c.trees j (bare [])) (eqb u no_route) (λ _. refl) (λ _. get_or-set_other c.trees i j _ (bare []) d)

one_at : (r : List ℕ) (u i : ℕ) (c : Card) (j : ℕ) → (j ≡ i → ⊥) → tree_at j (move_one r u i c).card ≡ tree_at j c
unfolding move_one still
one_at r u i c j d =
    picked (λ (m : Moved). tree_at j m.card ≡ tree_at j c) (of_root r (tree_at i c))
    (λ _. unfold move_label followed_by in take-up-at i (let_go i c).card _ j d ∙ let-go-at i c j d)
    (λ _. refl)

-- ---- of which trees the messages are

module _ (r : List ℕ) where
  abbrev Rooted : Moved → Type 0
  Rooted m = EachSent (λ a. root_in a ≡ r) m.sent

  let-go-rooted : (i : ℕ) (c : Card) → root_in (tree_at i c).name ≡ r → Rooted (let_go i c)
  unfolding let_go still give_up
  let-go-rooted i c e = by-test (eqb (tree_at i c).label 0) (λ k. rw k (unfold EachSent in tt)) (λ k. rw k (unfold EachSent in (e, tt)))

  take-up-rooted : (i u : ℕ) (c : Card) → root_in (tree_at i c).name ≡ r → Rooted (take_up i u c)
  unfolding take_up still give
  take-up-rooted i u c e = by-test (eqb u no_route) (λ k. rw k (unfold EachSent in tt)) (λ k. rw k (unfold EachSent in (e, tt)))

  move-rooted : (i u : ℕ) (c : Card) → root_in (tree_at i c).name ≡ r → Rooted (move_label i u c)
  unfolding move_label followed_by
  move-rooted i u c e = sent-append (λ a. root_in a ≡ r) (let_go i c).sent _ (let-go-rooted i c e) (take-up-rooted i u (let_go i c).card (ap root_in (let-go-name i c) ∙ e))

  one-rooted : (u i : ℕ) (c : Card) → Rooted (move_one r u i c)
  unfolding move_one of_root still
  one-rooted u i c = picked Rooted (same (root_in (tree_at i c).name) r) (λ e. move-rooted i _ c (same-eq _ r e)) (λ _. unfold EachSent in tt)

  from-rooted : (u n i : ℕ) (c : Card) → Rooted (move_from r u n i c)
  unfolding move_from followed_by still
  from-rooted u zero i c = unfold EachSent in tt
  from-rooted u (suc n) i c = sent-append (λ a. root_in a ≡ r) (move_one r u i c).sent _ (one-rooted u i c) (from-rooted u n (suc i) (move_one r u i c).card)

-- ---- what they add

sum-from-eq : (f : Tree → ℕ) (n i : ℕ) (c d : Card) → ((j : ℕ) → i ≤ j → tree_at j d ≡ tree_at j c) → sum_from f n i d ≡ sum_from f n i c
unfolding sum_from
sum-from-eq f zero i c d h = refl
sum-from-eq f (suc n) i c d h =
    let a : f (tree_at i d) ≡ f (tree_at i c) = ap f (h i (le_refl i)) in
    let b : sum_from f n (suc i) d ≡ sum_from f n (suc i) c = sum-from-eq f n (suc i) c d (λ j l. h j (omega arith)) in
    omega arith

-- so much for each tree of that kind
sum-from-count : (t : Tree → Bool) (x : ℕ) (ts : List Tree) (i : ℕ) (c : Card) → ((j : ℕ) → get_or ts j (bare []) ≡ tree_at (i + j) c) → sum_from (λ s. pick (t s) x 0) (length ts) i c ≡ count t ts * x
unfolding sum_from count
sum-from-count t x [] i c h = omega arith
sum-from-count t x (s ∷ ts) i c h =
    let e : tree_at i c ≡ s = ap (λ (y : ℕ). tree_at y c) (omega arith) ∙ sym (h 0) in
    let b : sum_from (λ s. pick (t s) x 0) (length ts) (suc i) c ≡ count t ts * x = sum-from-count t x ts (suc i) c (λ j. h (suc j) ∙ ap (λ (y : ℕ). tree_at y c) (omega arith)) in
    by-test (t s)
    (λ k. let m : suc (count t ts) * x ≡ count t ts * x + x = suc-mul (count t ts) x in rw (e, k) (omega arith))
    (λ k. rw (e, k) (omega arith))

from_start : (c : Card) (j : ℕ) → get_or c.trees j (bare []) ≡ tree_at (0 + j) c
unfolding tree_at
from_start c j = ap (λ (i : ℕ). get_or c.trees i (bare [])) (omega arith)

cost-append : (far : Wires) (rank : Rank) (i : ℕ) (ms ns : List Sent) → cost far rank i (ms ++ ns) ≡ cost far rank i ms + cost far rank i ns
unfolding cost
cost-append far rank i [] ns = omega arith
cost-append far rank i (m ∷ ms) ns = let b : cost far rank i (ms ++ ns) ≡ cost far rank i ms + cost far rank i ns = cost-append far rank i ms ns in omega arith

module _ (far : Wires) (W : Wired far) (n : ℕ) (I : Within far n) (rank : Rank) (top : ℕ) (U : Under n rank top) (b : ℕ) where
  abbrev Costs : ℕ → Moved → Type 0
  Costs x m = cost far rank b m.sent ≤ x

  told : (p k : ℕ) (a : List ℕ) (l x : ℕ) → ((j : ℕ) → rank a j ≤ top → weight rank j (record { kind = k; name = a; label = l }) ≤ x) → cost far rank b (tell p k a l ∷ []) ≤ x
  unfolding cost
  told p k a l x h = let y : cost_at rank (record { kind = k; name = a; label = l }) (far b p) ≤ x = cost-at far W n I rank top U b (record { kind = k; name = a; label = l }) p x h (far b p) refl in omega arith

  mute : (x : ℕ) → cost far rank b [] ≤ x
  unfolding cost
  mute x = zero-le

  let-go-costs : (i : ℕ) (c : Card) → Costs (2 * (1 + top)) (let_go i c)
  unfolding let_go still give_up
  let-go-costs i c = picked (Costs (2 * (1 + top))) (eqb (tree_at i c).label 0) (λ _. mute _) (λ _. told (held_for c (tree_at i c)) withdraw (tree_at i c).name (tree_at i c).label (2 * (1 + top)) (λ j h. unfold weight in omega arith))

  take-up-costs : (i u : ℕ) (c : Card) → Costs (1 + top) (take_up i u c)
  unfolding take_up still give
  take-up-costs i u c = picked (Costs (1 + top)) (eqb u no_route) (λ _. mute _) (λ _. told u mapping (tree_at i c).name (next_free c) (1 + top) (λ j h. unfold weight in omega arith))

  move-costs : (i u : ℕ) (c : Card) → Costs (3 * (1 + top)) (move_label i u c)
  unfolding move_label followed_by
  move-costs i u c =
      let x : cost far rank b ((let_go i c).sent ++ (take_up i u (let_go i c).card).sent) ≡ cost far rank b (let_go i c).sent + cost far rank b (take_up i u (let_go i c).card).sent = cost-append far rank b (let_go i c).sent (take_up i u (let_go i c).card).sent in
      let y : cost far rank b (let_go i c).sent ≤ 2 * (1 + top) = let-go-costs i c in
      let z : cost far rank b (take_up i u (let_go i c).card).sent ≤ 1 + top = take-up-costs i u (let_go i c).card in
      omega arith

  abbrev share : List ℕ → Tree → ℕ
  share r t = pick (of_root r t) (3 * (1 + top)) 0

  one-costs : (r : List ℕ) (u i : ℕ) (c : Card) → Costs (share r (tree_at i c)) (move_one r u i c)
  unfolding move_one still
  one-costs r u i c = by-test (of_root r (tree_at i c)) (λ e. rw e (move-costs i _ c)) (λ e. rw e (mute 0))

  from-costs : (r : List ℕ) (u k i : ℕ) (c : Card) → Costs (sum_from (share r) k i c) (move_from r u k i c)
  unfolding move_from followed_by still sum_from
  from-costs r u zero i c = mute 0
  from-costs r u (suc k) i c =
      let d : Card = (move_one r u i c).card in
      let x : cost far rank b ((move_one r u i c).sent ++ (move_from r u k (suc i) d).sent) ≡ cost far rank b (move_one r u i c).sent + cost far rank b (move_from r u k (suc i) d).sent = cost-append far rank b (move_one r u i c).sent (move_from r u k (suc i) d).sent in
      let y : cost far rank b (move_one r u i c).sent ≤ share r (tree_at i c) = one-costs r u i c in
      let z : cost far rank b (move_from r u k (suc i) d).sent ≤ sum_from (share r) k (suc i) d = from-costs r u k (suc i) d in
      let e : sum_from (share r) k (suc i) d ≡ sum_from (share r) k (suc i) c = sum-from-eq (share r) k (suc i) c d (λ j l. one_at r u i c j (λ m. omega arith)) in
      omega arith

  -- a route order: what it adds, and of which trees it speaks
  abbrev Order : List ℕ → Card → List Sent → Type 0
  Order r c ms = (cost far rank b ms ≤ count (of_root r) c.trees * (3 * (1 + top))) × EachSent (λ a. root_in a ≡ r) ms

  none-order : (r : List ℕ) (c : Card) → Order r c []
  none-order r c = (mute _, unfold EachSent in tt)

  all-order : (r : List ℕ) (u : ℕ) (c : Card) → Order r c (move_all r u c).sent
  unfolding move_all
  all-order r u c =
      let x : cost far rank b (move_from r u (length c.trees) 0 c).sent ≤ sum_from (share r) (length c.trees) 0 c = from-costs r u (length c.trees) 0 c in
      let y : sum_from (share r) (length c.trees) 0 c ≡ count (of_root r) c.trees * (3 * (1 + top)) = sum-from-count (of_root r) (3 * (1 + top)) c.trees 0 c (from_start c) in
      (omega arith, from-rooted r u (length c.trees) 0 c)

  route-order : (r : List ℕ) (via : ℕ) (c : Card) → Says (Order r c) (on_route c r via)
  unfolding on_route re_route
  route-order r via c =
      unless-says (Order r c) _ _
      (λ _. picked (Says (Order r c)) (eqb (route_of r c) via)
      (λ _. unfold Says in none-order r c)
      (λ _. unless-says (Order r c) _ _ (λ _. unfold Says in all-order r (upstream via) c)))

  order-sends : (p : Past) → Upheld p → (room : ℕ) (r : List ℕ) (via : ℕ) → Order r p.card (sends p.card (moving room r via))
  order-sends p u room r via = sends-says (Order r p.card) p u (moving room r via) (none-order r p.card) (unfold outcome in route-order r via p.card)

-- ---- in a net where nothing is under way

silent-all : (far : Wires) (w : Net) → Fit far w → Silent far w → (k p : ℕ) → w.inbox k p ≡ []
silent-all far w F Z k p = at (far k p) refl
  where
    at : (f : Far) → far k p ≡ f → w.inbox k p ≡ []
    at nobody e = F.ended k p e
    at (box j q) e = Z k p j q e

silent-ahead : (far : Wires) (rank : Rank) (n : ℕ) (w : Net) → Fit far w → Silent far w → ahead rank n w ≡ 0
unfolding ahead
silent-ahead far rank n w F Z = sums-zero n (λ k p. weights rank k (w.inbox k p)) (λ k p. rw (silent-all far w F Z k p) (unfold weights in refl))

-- all that is under way after the order is of that root
move-names : (far : Wires) (w : Net) → Fit far w → Silent far w → (i room : ℕ) (r : List ℕ) (via : ℕ) → EachSent (λ a. root_in a ≡ r) (sends (w.past i).card (moving room r via))
    → (k p : ℕ) → EachName (λ a. root_in a ≡ r) ((turn far w (does i (moving room r via))).inbox k p)
unfolding turn over_line stepped
move-names far w F Z i room r via h k p =
    let before : EachName (λ a. root_in a ≡ r) (w.inbox k p) = rw (silent-all far w F Z k p) (unfold EachName in tt) in
    names-append (λ a. root_in a ≡ r) (w.inbox k p) _ before (names-arriving (λ a. root_in a ≡ r) w i (moving room r via) (far k p) h)

each-name : (P Q : List ℕ → Type 0) → ((a : List ℕ) → P a → Q a) → (xs : List (List ℕ)) → EachName P xs → EachName Q xs
unfolding EachName
each-name P Q f [] h = tt
each-name P Q f (x ∷ xs) h = (f _ h.0, each-name P Q f xs h.1)

moved-turn : (far : Wires) (w : Net) (ts : List Turn) (t : Turn) → turns far w (ts ++ t ∷ []) ≡ turn far (turns far w ts) t
unfolding turns
moved-turn far w ts t = turns-append far w ts (t ∷ [])

pub a_move : AMove
a_move far W n I base ts Z i room r via rank top U C =
    let w : Net = turns far (laid base) ts in
    let next : Net = turns far (laid base) (ts ++ does i (moving room r via) ∷ []) in
    let fit : Fit far (turns far (laid base) ts) = reached-fit far base ts in
    let step : next ≡ turn far (turns far (laid base) ts) (does i (moving room r via)) = moved-turn far (laid base) ts (does i (moving room r via)) in
    let order = order-sends far W n I rank top U i ((turns far (laid base) ts).past i) (fit.upheld i) room r via in
    let adds : ahead rank n (turn far (turns far (laid base) ts) (does i (moving room r via))) ≤ ahead rank n (turns far (laid base) ts) + count (of_root r) ((turns far (laid base) ts).past i).card.trees * (3 * (1 + top)) = does-adds far W n I rank top U i (turns far (laid base) ts) (moving room r via) _ order.0 in
    let none : ahead rank n (turns far (laid base) ts) ≡ 0 = silent-ahead far rank n (turns far (laid base) ts) fit Z in
    let bound : ahead rank n (turn far (turns far (laid base) ts) (does i (moving room r via))) ≤ count (of_root r) ((turns far (laid base) ts).past i).card.trees * (3 * (1 + top)) = omega arith in
    let names : (k p : ℕ) → EachName (λ a. root_in a ≡ r) (next.inbox k p) = λ k p. subst (λ (v : Net). EachName (λ a. root_in a ≡ r) (v.inbox k p)) (sym step) (move-names far (turns far (laid base) ts) fit Z i room r via order.1 k p) in
    let S : Slopes far next rank = λ k p. each-name _ _ C _ (names k p) in
    record {
      few = subst (λ (v : Net). ahead rank n v ≤ count (of_root r) ((turns far (laid base) ts).past i).card.trees * (3 * (1 + top))) (sym step) bound;
      slopes = S;
      dies = soft-tick far W n I base (ts ++ does i (moving room r via) ∷ []) rank S;
    }
