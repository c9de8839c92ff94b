-- THE PLAN'S PROMISES, over every table that keeps the rules in force: after any history, after a restore.
-- (What carries a list out gives labels, and so asks too that the last label given is one that could be: `last_right`.)
-- Assumes nothing.
use Rattle.std.specs.Prelude.{ℕ, ◌≤◌, ◌<◌, ◌≡◌, Bool, true, false, ◌&&◌, List, [], get_or, length, eqb, leb}
use Rattle.std.proofs.Common.{suc-le-suc, arith, sym, ◌∙◌, subst}
use Rattle.std.proofs.Math.Path.{refl}
use borrow.Author.Tests.{eqb-true, eq-eqb, ne_eqb, ltb-false, lt-ltb, leb-true, le-leb}
use Rattle.meaning.specs.Octets.{pick, count, all}
use Rattle.meaning.specs.Card.{no_entry, Route, Card, route_of, free_labels, sent_limit, neighbour_count}
use Rattle.meaning.specs.Events.{no_neighbour, need_all}
use Rattle.meaning.specs.Lists.{by-test, picked}
use Rattle.meaning_laws.specs.RoundTrip.{both}
use Rattle.meaning_save.specs.Save.{keeps_rules, last_right}
use Rattle.meaning_laws.specs.SaveRules.{all-at, all_of, rules}
use Rattle.promise.specs.Promise.{Step, history}
use Rattle.promise.proofs.SaveKept.{history-keeps-rules, history-last}
use Rattle.meaning_plan.specs.Plan.{Move, move_for, Allowed, goes_by, need_list, may_have, is_move, listed_once, accepts, choice, through, proposal, is_found, refused, none, listed, planned, carried_out, no_refusal, some_through, route_after}
use Rattle.promise_plan.specs.CarriedOut.{route-at, accepted, May, may, move-from, each-once, carried, carried-routes}
use Rattle.promise_plan.specs.RulesSound.{in_use, rules-sound, rules-ruled}
use Rattle.meaning_plan.specs.Rising.{rising, proposal-rising}
use Rattle.promise_plan.specs.Planner.{choice-beats, chosen_at, proposal-accepted, any_found, any-cheaper}

pub near : (n : ℕ) → no_neighbour n ≡ false → n < neighbour_count
unfolding no_neighbour
near n h = suc-le-suc (ltb-false 15 n h)

-- ---- what is accepted, in words

-- an entry of the list
pub record Entry (c : Card) (n : ℕ) (ps : List Allowed) (m : Move) : Type 0 where
  -- no other root
  pub goes : route_of m.root c ≡ n
  -- the new neighbour: one of 0 to 15, not n, and permitted
  pub is : May n ps m.root m.via

pub record Exactly (c : Card) (n : ℕ) (ps : List Allowed) (ms : List Move) : Type 0 where
  pub entries : (i : ℕ) (d : Move) → i < length ms → Entry c n ps (get_or ms i d)
  -- every root routed through n once
  pub once : (q : List ℕ) → route_of q c ≡ n → count (move_for q) ms ≡ 1
  -- labels needed in sum no more than are free
  pub enough : need_list c ms ≤ free_labels c

may-have : (n : ℕ) (ps : List Allowed) (r : List ℕ) (v : ℕ) → May n ps r v → may_have n ps r v ≡ true
unfolding may_have
may-have n ps r v m = rw (lt-ltb v neighbour_count m.near, ne_eqb v n m.other, m.permitted) refl

is-move : (c : Card) (n : ℕ) (ps : List Allowed) (m : Move) → Entry c n ps m → is_move c n ps m ≡ true
unfolding is_move
is-move c n ps m e = rw (eq-eqb (route_of m.root c) n e.goes, may-have n ps m.root m.via e.is) refl

is-listed : (n : ℕ) (ms : List Move) (x : Route) → (x.via ≡ n → count (move_for x.root) ms ≡ 1) → listed_once n ms x ≡ true
unfolding listed_once goes_by
is-listed n ms x h = picked (λ (b : Bool). b ≡ true) (eqb x.via n) (λ e. eq-eqb _ _ (h (eqb-true _ _ e))) (λ _. refl)

planned-near : (c : Card) (n : ℕ) (ps : List Allowed) → no_neighbour n ≡ false → planned c n ps ≡ pick (all is_found (proposal c n ps) && leb (need_list c (proposal c n ps)) (free_labels c)) (listed (proposal c n ps)) none
unfolding planned
planned-near c n ps h = rw h refl

-- a number above 15 is refused 1
pub planned-refused : (c : Card) (n : ℕ) (ps : List Allowed) → no_neighbour n ≡ true → planned c n ps ≡ refused 1
unfolding planned
planned-refused c n ps h = rw h refl

module _ (c : Card) (keeps : keeps_rules c ≡ true) (n : ℕ) (neighbour : no_neighbour n ≡ false) (ps : List Allowed) where
  -- THE CHECKER accepts exactly this
  pub accepts-exactly : (ms : List Move) → (accepts c n ps ms ≡ true → Exactly c n ps ms) × (Exactly c n ps ms → accepts c n ps ms ≡ true)
  accepts-exactly ms = (to, back)
    where
      to : accepts c n ps ms ≡ true → Exactly c n ps ms
      to h =
          let A = accepted c n ps ms h in
          record {
            entries = λ i d k. let m = move-from c n ps (get_or ms i d) (all-at (is_move c n ps) ms d A.moves i k) in record { goes = m.0; is = may n ps (get_or ms i d).root (get_or ms i d).via m.1 };
            once = each-once c n (near n neighbour) (rules c keeps).routes ps ms A;
            enough = A.enough;
          }

      moves_of : Exactly c n ps ms → all (is_move c n ps) ms ≡ true
      moves_of E = let d : Move = record { root = []; via = 0 } in all_of (is_move c n ps) ms d (λ i k. is-move c n ps _ (E.entries i d k))

      lists_of : Exactly c n ps ms → all (listed_once n ms) c.routes ≡ true
      lists_of E =
          let d : Route = no_entry [] in
          all_of (listed_once n ms) c.routes d (λ i k. is-listed n ms (get_or c.routes i d) (λ e. E.once _ (route-at c i d (rules c keeps).roots k ∙ e)))

      back : Exactly c n ps ms → accepts c n ps ms ≡ true
      back E = unfold accepts in rw (moves_of E, lists_of E, le-leb (need_list c ms) (free_labels c) E.enough) refl

  -- AN ACCEPTED LIST, carried out in order with no event between and room for any route order each time, has no refusal and leaves no route through n.
  pub accepted-carried : last_right c ≡ true → (ms : List Move) → accepts c n ps ms ≡ true → (room : ℕ) → sent_limit ≤ room → (no_refusal room c ms ≡ true) × (some_through n (carried_out room c ms) ≡ false)
  accepted-carried right ms h room big =
      let R = rules c keeps in
      carried c n (near n neighbour) R.routes ps ms (in_use c.base c.labels) (rules-sound c R right) (rules-ruled c R) room big h

  -- Each listed root then has its new neighbour, and every other root the route that it had.
  pub accepted-routes : last_right c ≡ true → (ms : List Move) → accepts c n ps ms ≡ true → (room : ℕ) → sent_limit ≤ room → (q : List ℕ) → route_of q (carried_out room c ms) ≡ route_after q ms (route_of q c)
  accepted-routes right ms h room big =
      let R = rules c keeps in
      carried-routes c n (near n neighbour) R.routes ps ms (in_use c.base c.labels) (rules-sound c R right) (rules-ruled c R) room big h

  -- with the most octets that one call sends, 22272
  pub accepted-carried-most : last_right c ≡ true → (ms : List Move) → accepts c n ps ms ≡ true → (no_refusal sent_limit c ms ≡ true) × (some_through n (carried_out sent_limit c ms) ≡ false)
  accepted-carried-most right ms h = accepted-carried right ms h sent_limit (omega arith)

  -- THE PLANNER: whenever any list is accepted it finds one
  pub planner-finds : (ms : List Move) → accepts c n ps ms ≡ true → planned c n ps ≡ listed (proposal c n ps)
  planner-finds ms h =
      let R = rules c keeps in
      let A = accepted c n ps ms h in
      let found : all is_found (proposal c n ps) ≡ true = any_found c n ps (near n neighbour) R.routes R.roots ms A in
      let enough : need_list c (proposal c n ps) ≤ free_labels c = omega (arith, any-cheaper c n ps (near n neighbour) R.routes R.roots ms A, A.enough) in
      planned-near c n ps neighbour ∙ rw (found, le-leb (need_list c (proposal c n ps)) (free_labels c) enough) refl

  -- its list is the proposal
  pub planner-list : (ms : List Move) → planned c n ps ≡ listed ms → (proposal c n ps ≡ ms) × (all is_found (proposal c n ps) ≡ true) × (need_list c (proposal c n ps) ≤ free_labels c)
  planner-list ms h =
      by-test (all is_found (proposal c n ps) && leb (need_list c (proposal c n ps)) (free_labels c))
      (λ e. let its : listed (proposal c n ps) ≡ listed ms = sym (planned-near c n ps neighbour ∙ rw e refl) ∙ h in
      let b = both (all is_found (proposal c n ps)) (leb (need_list c (proposal c n ps)) (free_labels c)) e in
      (cc, b.0, leb-true _ _ b.1))
      (λ e. let its : none ≡ listed ms = sym (planned-near c n ps neighbour ∙ rw e refl) ∙ h in let z : ◌≡◌ {A = ℕ} 0 1 = cc in absurd (omega arith))

  -- what it lists is accepted
  pub planner-accepted : (ms : List Move) → planned c n ps ≡ listed ms → accepts c n ps ms ≡ true
  planner-accepted ms h =
      let R = rules c keeps in
      let l = planner-list ms h in
      subst (λ (x : List Move). accepts c n ps x ≡ true) l.0 (proposal-accepted c n ps (near n neighbour) R.routes R.roots l.1 l.2)

  -- and where it says that there is none, none is accepted
  pub planner-none : planned c n ps ≡ none → (ms : List Move) → accepts c n ps ms ≡ false
  planner-none h ms =
      by-test (accepts c n ps ms)
      (λ e. let its : none ≡ listed (proposal c n ps) = sym h ∙ planner-finds ms e in let z : ◌≡◌ {A = ℕ} 0 1 = cc in absurd (omega arith))
      (λ e. e)

  -- no accepted list needs fewer labels
  pub planner-cheapest : (ms xs : List Move) → planned c n ps ≡ listed ms → accepts c n ps xs ≡ true → need_list c ms ≤ need_list c xs
  planner-cheapest ms xs h k =
      let R = rules c keeps in
      subst (λ (l : List Move). need_list c l ≤ need_list c xs) (planner-list ms h).0 (any-cheaper c n ps (near n neighbour) R.routes R.roots xs (accepted c n ps xs k))

  -- EACH ENTRY has the neighbour that needs fewest labels of those that its root may have, and of these the lowest.
  pub planner-best : (ms : List Move) → planned c n ps ≡ listed ms → (i : ℕ) (d : Move) → i < length ms → (v : ℕ) → May n ps (get_or ms i d).root v
      → (need_all (get_or ms i d).root (get_or ms i d).via c ≤ need_all (get_or ms i d).root v c) × (need_all (get_or ms i d).root (get_or ms i d).via c ≡ need_all (get_or ms i d).root v c → (get_or ms i d).via ≤ v)
  planner-best ms h = subst (λ (l : List Move). (i : ℕ) (d : Move) → i < length l → (v : ℕ) → May n ps (get_or l i d).root v
      → (need_all (get_or l i d).root (get_or l i d).via c ≤ need_all (get_or l i d).root v c) × (need_all (get_or l i d).root (get_or l i d).via c ≡ need_all (get_or l i d).root v c → (get_or l i d).via ≤ v)) (planner-list ms h).0
      (λ i d k v m. best (get_or (proposal c n ps) i d) (unfold proposal in chosen_at c n ps (through n c.routes) i d (unfold proposal in k)) v m)
    where
      best : (x : Move) → x.via ≡ choice c n ps x.root → (v : ℕ) → May n ps x.root v → (need_all x.root x.via c ≤ need_all x.root v c) × (need_all x.root x.via c ≡ need_all x.root v c → x.via ≤ v)
      best x is v m = let b = choice-beats c n ps x.root v m.near (may-have n ps x.root v m) in rw is (b.cheap, b.lowest)

  -- THE ORDER OF ITS LIST: 4-octet roots before 16-octet ones, each by rising address
  pub planner-order : (ms : List Move) → planned c n ps ≡ listed ms → rising ms ≡ true
  planner-order ms h = subst (λ (l : List Move). rising l ≡ true) (planner-list ms h).0 (proposal-rising c n ps (rules c keeps).roots)

-- After any history.
pub history-plan : (base : ℕ) (steps : List Step) (n : ℕ) → no_neighbour n ≡ false → (ps : List Allowed) (ms : List Move) → planned (history base steps).card n ps ≡ listed ms
    → (no_refusal sent_limit (history base steps).card ms ≡ true) × (some_through n (carried_out sent_limit (history base steps).card ms) ≡ false)
history-plan base steps n h ps ms e =
    let keeps = history-keeps-rules base steps in
    accepted-carried-most (history base steps).card keeps n h ps (history-last base steps) ms (planner-accepted (history base steps).card keeps n h ps ms e)
