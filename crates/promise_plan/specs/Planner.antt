-- THE PLANNER finds a list whenever any is accepted: its own list is accepted, and where it says that there is none no list is. Over any table whose routes keep the rules.
-- Assumes nothing.
use Prim.Native.Nat.{ℕ, zero, suc, ◌+◌, ◌≤◌, ◌<◌, zero-le}
use Rattle.std.proofs.Common.{le_refl, le_trans, le_of_suc-le-suc, not-suc-le-zero, sym, ap, ◌∙◌, subst}
use native.Mathlib.Omega.{arith}
use Rattle.std.specs.Prelude.{◌≡◌, Bool, false, ◌&&◌, get_or, length, eqb, ltb}
use Rattle.std.proofs.Math.Path.{refl}
use Rattle.std.proofs.Math.Bool.{true, not}
use mathlib.Core.List.{List, [], ◌∷◌}
use borrow.Author.Tests.{eqb-true, eq-eqb, ltb-true, ltb-false, lt-ltb, le-leb}
use Rattle.meaning.specs.Octets.{place, count, all, same, cut}
use Rattle.meaning.specs.Card.{no_entry, Route, Card, is_for, route_of, free_labels, neighbour_count}
use Rattle.meaning.specs.Events.{need_all}
use Rattle.meaning.specs.Lists.{by-test, picked, place-finds, place-count, count-some, same-eq, same_refl}
use Rattle.meaning_laws.specs.RoundTrip.{both}
use Rattle.meaning_save.specs.Save.{is_route}
use Rattle.meaning_laws.specs.SaveFields.{all_cons}
use Rattle.meaning_laws.specs.SaveRules.{all-at, all_of}
use Rattle.meaning_plan.specs.Plan.{Move, move_for, Allowed, goes_by, need_list, may_have, is_move, listed_once, accepts, choice, as_move, through, chosen, proposal, is_found}
use Rattle.promise_plan.specs.CarriedOut.{of-root, for-root, route-there, route-at, Accepted, move-from, each-once}
use Rattle.meaning_plan.proofs.Cheapest.{Beats, cheapest-in, cheapest-beats}
use Rattle.meaning_plan.specs.Rising.{own_first, count-through, as-of, count-both, count-chosen}

-- ---- sums over the roots of a list

unfoldable sum_by : (List ℕ → ℕ) → List Move → ℕ
sum_by f [] = 0
sum_by f (x ∷ xs) = f x.root + sum_by f xs

module _ (f : List ℕ → ℕ) (r : List ℕ) where
  -- without the first entry for r
  sum-cut : (l : List Move) → place (move_for r) l < length l → sum_by f l ≡ f r + sum_by f (cut l (place (move_for r) l))
  unfolding sum_by place cut
  sum-cut [] h = absurd (not-suc-le-zero h)
  sum-cut (x ∷ l) h =
      by-test (move_for r x)
      (λ e. rw e (ap (λ (q : List ℕ). f q + sum_by f l) (of-root r x e)))
      (λ e. let rest : sum_by f l ≡ f r + sum_by f (cut l (place (move_for r) l)) = unfold cut in sum-cut l (le_of_suc-le-suc (rw e at h)) in rw e (shift _ _ _ _ (unfold cut in rest)))
    where
      shift : (a b k m : ℕ) → b ≡ k + m → a + b ≡ k + (a + m)
      shift a b k m e = omega arith

count-own : (r : List ℕ) (l : List Move) → place (move_for r) l < length l → count (move_for r) l ≡ suc (count (move_for r) (cut l (place (move_for r) l)))
unfolding count place cut
count-own r [] h = absurd (not-suc-le-zero h)
count-own r (x ∷ l) h =
    by-test (move_for r x)
    (λ e. rw e refl)
    (λ e. rw e (rw e (count-own r l (le_of_suc-le-suc (rw e at h)))))

count-other : (r q : List ℕ) (l : List Move) → same r q ≡ false → count (move_for q) (cut l (place (move_for r) l)) ≡ count (move_for q) l
unfolding count place cut
count-other r q [] d = refl
count-other r q (x ∷ l) d =
    by-test (move_for r x)
    (λ e. rw (e, not-for e) refl)
    (λ e. rw (e, count-other r q l d) refl)
  where
    not-for : move_for r x ≡ true → move_for q x ≡ false
    not-for e = unfold move_for in rw (of-root r x e) d

-- what has no root more often than another list has no greater sum
sum-fewer : (f : List ℕ → ℕ) (ys xs : List Move) → ((q : List ℕ) → count (move_for q) ys ≤ count (move_for q) xs) → sum_by f ys ≤ sum_by f xs
unfolding sum_by
sum-fewer f [] xs h = zero-le
sum-fewer f (y ∷ ys) xs h =
    let r : List ℕ = y.root in
    let own : count (move_for r) (y ∷ ys) ≡ suc (count (move_for r) ys) = own_first y ys in
    let there : place (move_for r) xs < length xs = place-count (move_for r) xs (le_trans (positive-one _ _ own) (h r)) in
    let rest : sum_by f ys ≤ sum_by f (cut xs (place (move_for r) xs)) = sum-fewer f ys (cut xs (place (move_for r) xs)) (λ q. fewer q there (h q)) in
    omega (arith, rest, sum-cut f r xs there)
  where
    positive-one : (a b : ℕ) → a ≡ suc b → 1 ≤ a
    positive-one a b e = omega arith

    fewer : (q : List ℕ) → place (move_for y.root) xs < length xs → count (move_for q) (y ∷ ys) ≤ count (move_for q) xs → count (move_for q) ys ≤ count (move_for q) (cut xs (place (move_for y.root) xs))
    fewer q there k =
        by-test (same y.root q)
        (λ e. subst (λ (x : List ℕ). count (move_for x) ys ≤ count (move_for x) (cut xs (place (move_for y.root) xs))) (same-eq y.root q e)
        (let k' : count (move_for y.root) (y ∷ ys) ≤ count (move_for y.root) xs = subst (λ (x : List ℕ). count (move_for x) (y ∷ ys) ≤ count (move_for x) xs) (sym (same-eq y.root q e)) k in
        omega (arith, own_first y ys, count-own y.root xs there)))
        (λ e. let k' : count (move_for q) ys ≤ count (move_for q) xs = unfold count move_for in rw e at k in rw (count-other y.root q xs e) k')

-- ---- the choice of a root

found-near : (m : Move) → is_found m ≡ true → m.via < neighbour_count
unfolding is_found
found-near m h = ltb-true m.via neighbour_count h

module _ (c : Card) (n : ℕ) (ps : List Allowed) where
  choice-may : (r : List ℕ) → choice c n ps r < neighbour_count → may_have n ps r (choice c n ps r) ≡ true
  unfolding choice
  choice-may r h = (cheapest-in (may_have n ps r) (λ v. need_all r v c) 16 0 (le_refl 16) h).1

  pub choice-beats : (r : List ℕ) (v : ℕ) → v < neighbour_count → may_have n ps r v ≡ true → Beats (may_have n ps r) (λ w. need_all r w c) (choice c n ps r) v
  unfolding choice
  choice-beats r v near h = cheapest-beats (may_have n ps r) (λ w. need_all r w c) 16 0 (le_refl 16) v zero-le near h

  may-near : (r : List ℕ) (v : ℕ) → may_have n ps r v ≡ true → v < neighbour_count
  unfolding may_have
  may-near r v h = ltb-true v neighbour_count (both (ltb v neighbour_count) _ (both (ltb v neighbour_count && not (eqb v n)) _ h).0).0

  -- every entry has its root's choice
  pub chosen_at : (xs : List Move) (i : ℕ) (d : Move) → i < length (chosen c n ps xs) → (get_or (chosen c n ps xs) i d).via ≡ choice c n ps (get_or (chosen c n ps xs) i d).root
  unfolding chosen
  chosen_at [] i d h = absurd (not-suc-le-zero h)
  chosen_at (x ∷ xs) zero d h = refl
  chosen_at (x ∷ xs) (suc i) d h = chosen_at xs i d (le_of_suc-le-suc h)

  -- ---- the proposal's entries

  in_tail : (q : List ℕ) (x : Move) (xs : List Move) → 0 < count (move_for q) xs → 0 < count (move_for q) (x ∷ xs)
  unfolding count
  in_tail q x xs h = picked (λ (k : ℕ). 0 < k) (move_for q x) (λ _. omega arith) (λ _. h)

  in_head : (x : Move) (xs : List Move) → 0 < count (move_for x.root) (x ∷ xs)
  unfolding count move_for
  in_head x xs = rw (same_refl x.root) (omega arith)

  chosen-moves : (xs : List Move) → ((q : List ℕ) → 0 < count (move_for q) xs → route_of q c ≡ n) → all is_found (chosen c n ps xs) ≡ true → all (is_move c n ps) (chosen c n ps xs) ≡ true
  unfolding chosen all is_move
  chosen-moves [] h k = refl
  chosen-moves (x ∷ xs) h k =
      let m : Move = record { root = x.root; via = choice c n ps x.root } in
      let p = all_cons is_found m (chosen c n ps xs) (unfold all in k) in
      rw (eq-eqb (route_of x.root c) n (h x.root (in_head x xs)), choice-may x.root (found-near m p.0))
      (chosen-moves xs (λ q j. h q (in_tail q x xs j)) p.1)

  chosen-found : (xs : List Move) → ((q : List ℕ) → 0 < count (move_for q) xs → choice c n ps q < neighbour_count) → all is_found (chosen c n ps xs) ≡ true
  unfolding chosen all is_found
  chosen-found [] h = refl
  chosen-found (x ∷ xs) h = rw (lt-ltb (choice c n ps x.root) neighbour_count (h x.root (in_head x xs))) (chosen-found xs (λ q j. h q (in_tail q x xs j)))

  -- what the choice of a root needs
  abbrev least : List ℕ → ℕ
  least r = need_all r (choice c n ps r) c

  chosen-need : (xs : List Move) → need_list c (chosen c n ps xs) ≡ sum_by least xs
  unfolding chosen need_list sum_by
  chosen-need [] = refl
  chosen-need (x ∷ xs) = rw (chosen-need xs) refl

  -- any entry needs as much
  least-need : (xs : List Move) → all (is_move c n ps) xs ≡ true → sum_by least xs ≤ need_list c xs
  unfolding need_list sum_by
  least-need [] h = zero-le
  least-need (x ∷ xs) h =
      let p = all_cons (is_move c n ps) x xs h in
      let m = (move-from c n ps x p.0).1 in
      let b = choice-beats x.root x.via (may-near x.root x.via m) m in
      omega (arith, b.cheap, least-need xs p.1)

  -- ---- the roots through n

  module _ (low : n < neighbour_count) (good : all is_route c.routes ≡ true) (once : (q : List ℕ) → count (is_for q) c.routes ≤ 1) where
    through-once : (q : List ℕ) → count (move_for q) (through n c.routes) ≤ 1
    through-once q = omega (arith, count-through n (move_for q) c.routes, count-both n q c.routes, once q)

    -- exactly the roots that go by n are there
    through-goes : (q : List ℕ) → 0 < count (move_for q) (through n c.routes) → route_of q c ≡ n
    through-goes q h =
        let d : Route = no_entry [] in
        let t : Route → Bool = λ x. goes_by n x && move_for q (as_move x) in
        let k : place t c.routes < length c.routes = place-count t c.routes (rw (count-through n (move_for q) c.routes) at h) in
        let e = both (goes_by n (get_or c.routes (place t c.routes) d)) (move_for q (as_move (get_or c.routes (place t c.routes) d))) (place-finds t c.routes d k) in
        ap (λ (x : List ℕ). route_of x c) (sym (for-root q _ (sym (as-of q _) ∙ e.1))) ∙ route-at c (place t c.routes) d once k ∙ goes-via _ e.0
      where
        goes-via : (x : Route) → goes_by n x ≡ true → x.via ≡ n
        goes-via x e = eqb-true x.via n (unfold goes_by in e)

    goes_through : (q : List ℕ) → route_of q c ≡ n → 0 < count (move_for q) (through n c.routes)
    goes_through q e =
        let d : Route = no_entry [] in
        let t = route-there c q (λ z. omega arith) in
        rw (count-through n (move_for q) c.routes) (count-some (λ (x : Route). goes_by n x && move_for q (as_move x)) c.routes t.0 d t.1 (is_one _ (t.2 d) (t.3 d ∙ e)))
      where
        is_one : (x : Route) → x.root ≡ q → x.via ≡ n → (goes_by n x && move_for q (as_move x)) ≡ true
        is_one x a b = unfold goes_by move_for as_move in rw (eq-eqb x.via n b, a, same_refl q) refl

    through-one : (q : List ℕ) → route_of q c ≡ n → count (move_for q) (through n c.routes) ≡ 1
    through-one q e = omega (arith, goes_through q e, through-once q)

    -- ITS OWN LIST IS ACCEPTED
    lists-all : all (listed_once n (proposal c n ps)) c.routes ≡ true
    lists-all =
        let d : Route = no_entry [] in
        all_of (listed_once n (proposal c n ps)) c.routes d
        (λ i h. listed-one (get_or c.routes i d) (λ e. route-at c i d once h ∙ e))
      where
        listed-one : (x : Route) → (x.via ≡ n → route_of x.root c ≡ n) → listed_once n (proposal c n ps) x ≡ true
        listed-one x f = unfold listed_once goes_by in
            picked (λ (b : Bool). b ≡ true) (eqb x.via n)
            (λ e. eq-eqb (count (move_for x.root) (proposal c n ps)) 1 (unfold proposal in count-chosen c n ps x.root (through n c.routes) ∙ through-one x.root (f (eqb-true _ _ e))))
            (λ _. refl)

    pub proposal-accepted : all is_found (proposal c n ps) ≡ true → need_list c (proposal c n ps) ≤ free_labels c → accepts c n ps (proposal c n ps) ≡ true
    unfolding accepts
    proposal-accepted found enough =
        let moves : all (is_move c n ps) (proposal c n ps) ≡ true = unfold proposal in chosen-moves (through n c.routes) through-goes (unfold proposal in found) in
        rw (moves, lists-all, le-leb (need_list c (proposal c n ps)) (free_labels c) enough) refl

    -- WHERE ANY LIST IS ACCEPTED, ITS OWN HAS A CHOICE FOR EACH ROOT AND NEEDS NO MORE
    module _ (xs : List Move) (A : Accepted c n ps xs) where
      its-entry : (q : List ℕ) → route_of q c ≡ n → (v : ℕ) × (may_have n ps q v ≡ true)
      its-entry q e =
          let d : Move = record { root = []; via = 0 } in
          let one : count (move_for q) xs ≡ 1 = each-once c n low good ps xs A q e in
          let k : place (move_for q) xs < length xs = place-count (move_for q) xs (omega arith) in
          let m : Move = get_or xs (place (move_for q) xs) d in
          (m.via, subst (λ (x : List ℕ). may_have n ps x m.via ≡ true) (of-root q m (place-finds (move_for q) xs d k)) (move-from c n ps m (all-at (is_move c n ps) xs d A.moves _ k)).1)

      pub any_found : all is_found (proposal c n ps) ≡ true
      unfolding proposal
      any_found = chosen-found (through n c.routes) (λ q h. let m = its-entry q (through-goes q h) in (choice-beats q m.0 (may-near q m.0 m.1) m.1).found)

      fewer-there : (q : List ℕ) → count (move_for q) (through n c.routes) ≤ count (move_for q) xs
      fewer-there q =
          by-test (ltb 0 (count (move_for q) (through n c.routes)))
          (λ e. let h : 0 < count (move_for q) (through n c.routes) = ltb-true _ _ e in
          omega (arith, through-once q, each-once c n low good ps xs A q (through-goes q h)))
          (λ e. let h : count (move_for q) (through n c.routes) ≤ 0 = ltb-false _ _ e in omega arith)

      pub any-cheaper : need_list c (proposal c n ps) ≤ need_list c xs
      unfolding proposal
      any-cheaper = rw (chosen-need (through n c.routes)) (le_trans (sum-fewer least (through n c.routes) xs fewer-there) (least-need xs A.moves))
