-- AN ACCEPTED LIST, carried out in order with no event between: no order is refused, and no route is through n afterwards. Over any table that is sound and keeps the rules.
-- Assumes nothing.
use Prim.Native.Nat.{ℕ, suc, ◌+◌, ◌≤◌, ◌<◌, zero-le, suc-le-suc}
use Rattle.std.proofs.Common.{le_refl, le_trans, sym, ap₂, ◌∙◌}
use native.Mathlib.Omega.{arith}
use Rattle.std.specs.Prelude.{◌≡◌, refl, Bool, not, get_or, length, leb, ltb}
use Rattle.std.proofs.Math.Path.{ap}
use Rattle.std.proofs.Math.Bool.{true, false}
use mathlib.Core.List.{List, [], ◌∷◌}
use Rattle.std.proofs.Math.Dec.{eqb}
use borrow.Author.Tests.{eqb-true, eqb-false, eq-eqb, ltb-true, ltb-false, leb-true, not-true}
use Rattle.meaning.specs.Octets.{pick, place, count, any, all, same}
use Rattle.meaning.specs.Card.{no_entry, Route, Card, no_route, with_next, is_for, route_place, route_of, free_labels, sent_limit, neighbour_count}
use Rattle.meaning.specs.Events.{Out, accept, need_all, not_root, route, event}
use Rattle.meaning.specs.Lists.{by-test, picked, place-finds, place-count, place-only, get_d-out, get_d-same, same-eq, same_refl, no_way}
use Rattle.meaning_laws.specs.RoundTrip.{both}
use Rattle.meaning_save.specs.Save.{is_route}
use Rattle.meaning_laws.specs.SaveFields.{all_cons}
use Rattle.meaning_laws.specs.SaveRules.{all-at}
use Rattle.promise.specs.Promise.{Given}
use Rattle.promise.specs.LabelLaws.{Sound}
use Rattle.promise.specs.RuleLaws.{Ruled}
use Rattle.meaning_plan.specs.Plan.{Move, move_for, Allowed, permits, goes_by, need_list, may_have, is_move, listed_once, accepts, ordered, carried_out, answers, is_taken, no_refusal, some_through, route_after}
use Rattle.promise_plan.specs.OneOrder.{order-taken, after-sound, after-ruled, after-need, after_free, own-after, other_after}

-- ---- what an entry has to be

pub record Movable (c : Card) (n : ℕ) (m : Move) : Type 0 where
  pub from : route_of m.root c ≡ n
  pub right : not_root m.root ≡ false
  pub near : m.via < neighbour_count
  pub other : m.via ≡ n → ⊥

unfoldable pub AllMovable : Card → ℕ → List Move → Type 0
AllMovable c n [] = Unit {0}
AllMovable c n (m ∷ ms) = Movable c n m × AllMovable c n ms

-- no root is listed twice
unfoldable pub Once : List Move → Type 0
Once ms = (q : List ℕ) → count (move_for q) ms ≤ 1

once-head : (m : Move) (ms : List Move) → Once (m ∷ ms) → count (move_for m.root) ms ≡ 0
unfolding Once count move_for
once-head m ms h = let k : suc (count (move_for m.root) ms) ≤ 1 = unfold move_for in rw (same_refl m.root) at (h m.root) in omega arith

once-tail : (m : Move) (ms : List Move) → Once (m ∷ ms) → Once ms
unfolding Once count
once-tail m ms h q = le_trans (picked (λ (k : ℕ). count (move_for q) ms ≤ k) (move_for q m) (λ _. omega arith) (λ _. le_refl _)) (h q)

-- ---- the next table

module _ (c d : Card) (n : ℕ) (r : List ℕ) (stay : (q : List ℕ) → same r q ≡ false → route_of q d ≡ route_of q c) where
  others-movable : (ms : List Move) → count (move_for r) ms ≡ 0 → AllMovable c n ms → AllMovable d n ms
  unfolding AllMovable count move_for
  others-movable [] h p = tt
  others-movable (m ∷ ms) h p =
      by-test (same m.root r)
      (λ e. absurd (let z : suc (count (move_for r) ms) ≡ 0 = unfold move_for in rw e at h in omega arith))
      (λ e. (
        record { from = stay m.root (apart e) ∙ p.0.from; right = p.0.right; near = p.0.near; other = p.0.other },
        others-movable ms (rw e at h) p.1,
      ))
    where
      apart : same m.root r ≡ false → same r m.root ≡ false
      apart e =
          by-test (same r m.root)
          (λ k. no_way (sym (same_refl r) ∙ ap (λ (x : List ℕ). same x r) (same-eq r m.root k) ∙ e))
          (λ k. k)

need-list-same : (c d : Card) (ms : List Move) → ((q : List ℕ) (w : ℕ) → need_all q w d ≡ need_all q w c) → need_list d ms ≡ need_list c ms
unfolding need_list
need-list-same c d [] e = refl
need-list-same c d (m ∷ ms) e = ap₂ ◌+◌ (e m.root m.via) (need-list-same c d ms e)

-- ---- all of the list

-- what carrying out a list comes to
pub record Done (room n : ℕ) (c : Card) (ms : List Move) : Type 0 where
  pub taken : no_refusal room c ms ≡ true
  pub ruled : Ruled (carried_out room c ms)
  -- a root goes by n afterwards only if it did before and was not listed
  pub left : (q : List ℕ) → route_of q (carried_out room c ms) ≡ n → (route_of q c ≡ n) × (count (move_for q) ms ≡ 0)
  -- each listed root has its new neighbour, every other root the route that it had
  pub routes : (q : List ℕ) → route_of q (carried_out room c ms) ≡ route_after q ms (route_of q c)

none_done : (room n : ℕ) (c : Card) → Ruled c → Done room n c []
unfolding no_refusal answers all carried_out count route_after
none_done room n c R = record { taken = refl; ruled = R; left = λ q e. (e, refl); routes = λ q. refl }

-- one order that is taken, before the others
module _ (room n : ℕ) (c : Card) (m : Move) (ms : List Move) (written : List ℕ) (id : ℕ) (end : Card)
    (is : event room c (route m.root m.via) ≡ accept written id end) (own : route_of m.root (with_next id end) ≡ m.via) (other : m.via ≡ n → ⊥)
    (stay : (q : List ℕ) → same m.root q ≡ false → route_of q (with_next id end) ≡ route_of q c) (rest : Done room n (with_next id end) ms) where
  card-is : (ordered room c m).card ≡ with_next id end
  unfolding ordered accept
  card-is = ap (λ (o : Out). o.card) is

  answer-is : (ordered room c m).answer ≡ 0
  unfolding ordered accept
  answer-is = ap (λ (o : Out). o.answer) is

  then-taken : no_refusal room c (m ∷ ms) ≡ true
  unfolding no_refusal answers all is_taken
  then-taken = rw (answer-is, card-is) (unfold no_refusal in rest.taken)

  then-carried : carried_out room c (m ∷ ms) ≡ carried_out room (with_next id end) ms
  unfolding carried_out
  then-carried = ap (λ (d : Card). carried_out room d ms) card-is

  then-left : (q : List ℕ) → route_of q (with_next id end) ≡ n → count (move_for q) ms ≡ 0 → (route_of q c ≡ n) × (count (move_for q) (m ∷ ms) ≡ 0)
  unfolding count move_for
  then-left q e k =
      by-test (same m.root q)
      (λ z. absurd (other (sym own ∙ ap (λ (x : List ℕ). route_of x (with_next id end)) (same-eq m.root q z) ∙ e)))
      (λ z. (sym (stay q z) ∙ e, rw z k))

  then-routes : (q : List ℕ) → route_of q (with_next id end) ≡ pick (same m.root q) m.via (route_of q c)
  then-routes q =
      by-test (same m.root q)
      (λ z. rw z (ap (λ (x : List ℕ). route_of x (with_next id end)) (sym (same-eq m.root q z)) ∙ own))
      (λ z. rw z (stay q z))

  then-done : Done room n c (m ∷ ms)
  then-done = record {
    taken = then-taken;
    ruled = rw then-carried rest.ruled;
    left = λ q e. let l = rest.left q (rw then-carried at e) in then-left q l.0 l.1;
    routes = λ q. unfold route_after in ap (route_of q) then-carried ∙ rest.routes q ∙ ap (route_after q ms) (then-routes q);
  }

done : (room n : ℕ) → sent_limit ≤ room → n < neighbour_count → (ms : List Move) (c : Card) (gs : List Given) → Sound c gs → Ruled c → AllMovable c n ms → Once ms → need_list c ms ≤ free_labels c → Done room n c ms
unfolding AllMovable need_list
done room n big low [] c gs S R p o enough = none_done room n c R
done room n big low (m ∷ ms) c gs S R p o enough =
    let r : List ℕ = m.root in
    let v : ℕ = m.via in
    let a : Movable c n m = p.0 in
    let first : need_all r v c ≤ free_labels c = omega arith in
    let spent = after_free c gs S R r n v a.from low a.right a.near a.other first in
    let same-need = need-list-same c _ ms (after-need c gs S R r n v a.from low a.right a.near a.other first) in
    let stay = other_after c gs S R r n v a.from low a.right a.near a.other first in
    then-done room n c m ms _ _ _
    (order-taken c gs S R r n v a.from low a.right a.near a.other first room big)
    (own-after c gs S R r n v a.from low a.right a.near a.other first)
    a.other
    stay
    (done room n big low ms _ _ (after-sound c gs S R r n v a.from low a.right a.near a.other first) (after-ruled c gs S R r n v a.from low a.right a.near a.other first)
    (others-movable c _ n r stay ms (once-head m ms o) p.1) (once-tail m ms o) (omega (arith, spent, same-need)))

-- ---- what acceptance says

pub of-root : (q : List ℕ) (x : Move) → move_for q x ≡ true → x.root ≡ q
unfolding move_for
of-root q x e = same-eq x.root q e

pub for-root : (q : List ℕ) (x : Route) → is_for q x ≡ true → x.root ≡ q
unfolding is_for
for-root q x e = same-eq x.root q e

-- a root with a route has an entry in the table, which says so
pub route-there : (c : Card) (r : List ℕ) → (route_of r c ≡ no_route → ⊥) → (i : ℕ) × (i < length c.routes) × ((d : Route) → (get_or c.routes i d).root ≡ r) × ((d : Route) → (get_or c.routes i d).via ≡ route_of r c)
unfolding route_of route_place
route-there c r h =
    by-test (ltb (place (is_for r) c.routes) (length c.routes))
    (λ e. let k = ltb-true _ _ e in
    let x : Route = no_entry r in (
      place (is_for r) c.routes,
      k,
      (λ d. ap (λ (y : Route). y.root) (get_d-same c.routes _ d x k) ∙ for-root r _ (place-finds (is_for r) c.routes x k)),
      (λ d. ap (λ (y : Route). y.via) (get_d-same c.routes _ d x k)),
    ))
    (λ e. absurd (h (ap (λ (y : Route). y.via) (get_d-out c.routes _ (no_entry r) (ltb-false _ _ e)))))

-- and the table's entry is its root's route, where no two have one root
pub route-at : (c : Card) (i : ℕ) (d : Route) → ((r : List ℕ) → count (is_for r) c.routes ≤ 1) → i < length c.routes → route_of (get_or c.routes i d).root c ≡ (get_or c.routes i d).via
unfolding route_of route_place is_for
route-at c i d once h =
    let r : List ℕ = (get_or c.routes i d).root in
    let at : place (is_for r) c.routes ≡ i = place-only (is_for r) c.routes i d h (unfold is_for in same_refl r) (once r) in
    ap (λ (k : ℕ). (get_or c.routes k (no_entry r)).via) at ∙ ap (λ (y : Route). y.via) (get_d-same c.routes i (no_entry r) d h)

any_none {ℓ} : {A : Type ℓ} (t : A → Bool) (l : List A) (d : A) → ((i : ℕ) → i < length l → t (get_or l i d) ≡ false) → any t l ≡ false
unfolding any
any_none t [] d h = refl
any_none t (x ∷ l) d h = rw (h 0 (suc-le-suc zero-le)) (any_none t l d (λ i k. h (suc i) (suc-le-suc k)))

-- no root goes by n: no entry of the table does
pub none-through : (c : Card) (n : ℕ) → ((r : List ℕ) → count (is_for r) c.routes ≤ 1) → ((q : List ℕ) → route_of q c ≡ n → ⊥) → some_through n c ≡ false
unfolding some_through goes_by
none-through c n once h =
    let d : Route = no_entry [] in
    any_none (goes_by n) c.routes d
    (λ i k. unfold goes_by in by-test (eqb (get_or c.routes i d).via n) (λ e. absurd (h (get_or c.routes i d).root (route-at c i d once k ∙ eqb-true _ _ e))) (λ e. e))

-- the parts of the test
pub record Accepted (c : Card) (n : ℕ) (ps : List Allowed) (ms : List Move) : Type 0 where
  pub moves : all (is_move c n ps) ms ≡ true
  pub lists : all (listed_once n ms) c.routes ≡ true
  pub enough : need_list c ms ≤ free_labels c

pub accepted : (c : Card) (n : ℕ) (ps : List Allowed) (ms : List Move) → accepts c n ps ms ≡ true → Accepted c n ps ms
unfolding accepts
accepted c n ps ms h =
    let a = both _ (leb (need_list c ms) (free_labels c)) h in
    let b = both (all (is_move c n ps) ms) (all (listed_once n ms) c.routes) a.0 in
    record { moves = b.0; lists = b.1; enough = leb-true _ _ a.1 }

pub record May (n : ℕ) (ps : List Allowed) (r : List ℕ) (v : ℕ) : Type 0 where
  pub near : v < neighbour_count
  pub other : v ≡ n → ⊥
  pub permitted : permits ps r v ≡ true

pub may : (n : ℕ) (ps : List Allowed) (r : List ℕ) (v : ℕ) → may_have n ps r v ≡ true → May n ps r v
unfolding may_have
may n ps r v h =
    let a = both _ (permits ps r v) h in
    let b = both (ltb v neighbour_count) (not (eqb v n)) a.0 in
    record { near = ltb-true _ _ b.0; other = eqb-false v n (not-true _ b.1); permitted = a.1 }

pub move-from : (c : Card) (n : ℕ) (ps : List Allowed) (m : Move) → is_move c n ps m ≡ true → (route_of m.root c ≡ n) × (may_have n ps m.root m.via ≡ true)
unfolding is_move
move-from c n ps m h = let a = both (eqb (route_of m.root c) n) (may_have n ps m.root m.via) h in (eqb-true _ _ a.0, a.1)

module _ (c : Card) (n : ℕ) (low : n < neighbour_count) (good : all is_route c.routes ≡ true) (ps : List Allowed) (ms : List Move) where
  -- every root that goes by n is listed once
  pub each-once : Accepted c n ps ms → (q : List ℕ) → route_of q c ≡ n → count (move_for q) ms ≡ 1
  each-once A q e =
      let d : Route = no_entry [] in
      let t = route-there c q (λ z. omega arith) in
      let l = all-at (listed_once n ms) c.routes d A.lists t.0 t.1 in
      eqb-true _ _ (listed_here (get_or c.routes t.0 d) (t.2 d) (t.3 d ∙ e) l)
    where
      listed_here : (x : Route) → x.root ≡ q → x.via ≡ n → listed_once n ms x ≡ true → eqb (count (move_for q) ms) 1 ≡ true
      listed_here x a b l = unfold listed_once goes_by in let k : eqb (count (move_for x.root) ms) 1 ≡ true = unfold listed_once goes_by in rw (eq-eqb x.via n b) at l in rw a at k

  -- and no other root is
  pub others-not : Accepted c n ps ms → (q : List ℕ) → 0 < count (move_for q) ms → route_of q c ≡ n
  others-not A q h =
      let d : Move = record { root = []; via = 0 } in
      let k = place-count (move_for q) ms h in
      let m : Move = get_or ms (place (move_for q) ms) d in
      let is : is_move c n ps m ≡ true = all-at (is_move c n ps) ms d A.moves _ k in
      let its : m.root ≡ q = of-root q m (place-finds (move_for q) ms d k) in
      ap (λ (x : List ℕ). route_of x c) (sym its) ∙ (move-from c n ps m is).0

  right-root : (r : List ℕ) → route_of r c ≡ n → not_root r ≡ false
  right-root r e =
      let d : Route = no_entry [] in
      let t = route-there c r (λ z. omega arith) in
      let g = all-at is_route c.routes d good t.0 t.1 in
      its-root (get_or c.routes t.0 d) (t.2 d) g
    where
      its-root : (x : Route) → x.root ≡ r → is_route x ≡ true → not_root r ≡ false
      its-root x a g = unfold is_route in let k : not_root x.root ≡ false = not-true _ (both (not (not_root x.root)) (leb x.via 16) (unfold is_route in g)).0 in rw a at k

  movable : (m : Move) → is_move c n ps m ≡ true → Movable c n m
  movable m h =
      let a = move-from c n ps m h in
      let b = may n ps m.root m.via a.1 in
      record { from = a.0; right = right-root m.root a.0; near = b.near; other = b.other }

  pub all-movable : (xs : List Move) → all (is_move c n ps) xs ≡ true → AllMovable c n xs
  unfolding AllMovable
  all-movable [] h = tt
  all-movable (x ∷ xs) h = let p = all_cons (is_move c n ps) x xs h in (movable x p.0, all-movable xs p.1)

  listed-once : Accepted c n ps ms → Once ms
  unfolding Once
  listed-once A q =
      by-test (ltb 0 (count (move_for q) ms))
      (λ e. let k : count (move_for q) ms ≡ 1 = each-once A q (others-not A q (ltb-true 0 (count (move_for q) ms) e)) in omega arith)
      (λ e. let k : count (move_for q) ms ≤ 0 = ltb-false 0 (count (move_for q) ms) e in omega arith)

  -- AN ACCEPTED LIST CARRIED OUT
  module _ (gs : List Given) (S : Sound c gs) (R : Ruled c) (room : ℕ) (big : sent_limit ≤ room) (yes' : accepts c n ps ms ≡ true) where
    all_done : Done room n c ms
    all_done =
        let A = accepted c n ps ms yes' in
        done room n big low ms c gs S R (all-movable ms A.moves) (listed-once A) A.enough

    none_left : (q : List ℕ) → route_of q (carried_out room c ms) ≡ n → ⊥
    none_left q e =
        let l = all_done.left q e in
        let k = each-once (accepted c n ps ms yes') q l.0 in
        omega arith

    pub carried : (no_refusal room c ms ≡ true) × (some_through n (carried_out room c ms) ≡ false)
    carried = (all_done.taken, none-through (carried_out room c ms) n all_done.ruled.roots none_left)

    pub carried-routes : (q : List ℕ) → route_of q (carried_out room c ms) ≡ route_after q ms (route_of q c)
    carried-routes = all_done.routes
