-- THE SOFT TICK: the proof.
-- Assumes nothing.
use Prim.Native.Nat.{ℕ, suc, ◌+◌, ◌*◌, ◌≤◌, ◌<◌, zero-le}
use Rattle.std.proofs.Math.Nat.{suc-mul}
use native.Mathlib.Omega.{arith}
use Rattle.std.specs.Prelude.{◌≡◌, Bool, ◌||◌, eqb}
use Rattle.std.proofs.Math.Path.{refl, sym, ap, subst}
use Rattle.std.proofs.Common.{◌∙◌, eqb-true}
use mathlib.Core.List.{List, [], ◌∷◌, ◌++◌}
use Rattle.std.proofs.Math.ListN.{length}
use Rattle.meaning.specs.Octets.{pick}
use Rattle.meaning.specs.Lists.{by-test, picked}
use Rattle.meaning.specs.Wire.{root_in, element_refusal, mapping, withdraw, Message, message_in, Sent}
use Rattle.meaning.specs.Card.{tree_of, route_of, neighbour_count}
use Rattle.meaning.specs.Events.{receive}
use Rattle.promise.specs.Promise.{leaf_by, route_by, Step, Past, is_taken, accepted_at, sends, then_step}
use Rattle.promise.specs.PromiseProof.{Upheld}
use Rattle.promise.proofs.PromiseProof.{then-upheld, started}
use Rattle.promise_line.specs.Line.{refuses}
use Rattle.promise_line.specs.Line
use Rattle.promise_net.specs.Net.{Far, nobody, box, Wires, Wired, Net, box_at, laid, arriving, stepped, anew, heard, over_line, losing, parted, severed, Turn, hears, does, cuts, turn, turns, via, joined, Way, here, up, Climbs, Whole}
use Rattle.promise_net.proofs.NetProof.{anew-here, anew-box, anew-number}
use Rattle.promise_net.proofs.PacketProof.{whole-tree}
use Rattle.promise_tick.specs.Tick.{Ear, hearing, hearings, Silent, some, delivered, Served, Rank, weight, weights, ahead, Within, EachName, Slopes, Unrefused, Reaches, DiesDown, SoftTick, ThenWhole, Under, OrderAdds}
use Rattle.promise_tick.specs.Sums.{sums, sums-add, sums-eq, sums-has, sums-less}
use Rattle.promise_tick.specs.Heard.{Calls, heard-calls}
use Rattle.promise_tick.specs.Costs.{cost_at, cost}
use Rattle.promise_tick.proofs.Costs.{weights-append, arrives, weight-some, calls-cost}
use Rattle.promise_tick.specs.Names.{names-append, names-arriving, calls-names}
use Rattle.promise_tick.specs.TickProof.{Fit, Ready}

filled : (s : List ℕ) (rest : List (List ℕ)) → s ∷ rest ≡ [] → ⊥
filled s rest e = let z : ◌≡◌ {A = ℕ} 0 1 = cc in omega arith

stepped-fit : (far : Wires) (w : Net) (i : ℕ) (s : Step) (inbox : ℕ → ℕ → List (List ℕ)) (refused : ℕ → ℕ → Bool) → Fit far w → ((k p : ℕ) → far k p ≡ nobody → inbox k p ≡ []) → Fit far (stepped far w i s inbox refused)
unfolding stepped arriving
stepped-fit far w i s inbox refused F h = record {
  upheld = λ k. picked Upheld (eqb k i) (λ _. then-upheld (w.past i) s (F.upheld i)) (λ _. F.upheld k);
  ended = λ k p e. rw (e, h k p e) refl;
}

pub anew-at {ℓ κ} : {X : Type ℓ} (P : ℕ → ℕ → X → Type κ) (i p : ℕ) (x : X) (f : ℕ → ℕ → X) (k n : ℕ) → P i p x → P k n (f k n) → P k n (anew i p x f k n)
unfolding anew
anew-at P i p x f k n at there =
    by-test (eqb k i)
    (λ a. by-test (eqb n p)
    (λ b. rw (a, b) (subst (λ (y : ℕ). P y n x) (sym (eqb-true k i a)) (subst (λ (y : ℕ). P i y x) (sym (eqb-true n p b)) at)))
    (λ b. rw (a, b) there))
    (λ a. rw a there)

heard-fit : (far : Wires) (w : Net) → Fit far w → (i p room : ℕ) (xs : List (List ℕ)) → w.inbox i p ≡ xs → Fit far (heard far w i p room xs)
unfolding heard
heard-fit far w F i p room [] u = F
heard-fit far w F i p room (s ∷ rest) u =
    stepped-fit far w i (Line.hearing room p s) (anew i p rest w.inbox) _ F
    (λ k n. anew-at (λ (x y : ℕ) (xs : List (List ℕ)). far x y ≡ nobody → xs ≡ []) i p rest w.inbox k n (λ e. absurd (filled s rest (sym u ∙ F.ended i p e))) (F.ended k n))

severed-fit : (far : Wires) (w : Net) → Fit far w → (i p : ℕ) (f : Far) → Fit far (severed far w i p f)
unfolding severed parted
severed-fit far w F i p nobody = F
severed-fit far w F i p (box j q) =
    let one : Fit far (stepped far w i (losing p) w.inbox w.refused) = stepped-fit far w i (losing p) w.inbox w.refused F F.ended in
    let both-lost = stepped-fit far _ j (losing q) _ (stepped far w i (losing p) w.inbox w.refused).refused one one.ended in
    record {
      upheld = both-lost.upheld;
      ended = λ k n e. anew-at (λ (x y : ℕ) (xs : List (List ℕ)). xs ≡ []) i p [] (anew j q [] _) k n refl (anew-at (λ (x y : ℕ) (xs : List (List ℕ)). xs ≡ []) j q [] _ k n refl (both-lost.ended k n e));
    }

turn-fit : (far : Wires) (w : Net) → Fit far w → (t : Turn) → Fit far (turn far w t)
unfolding turn
turn-fit far w F (hears i p room) = heard-fit far w F i p room (w.inbox i p) refl
turn-fit far w F (cuts i p) = severed-fit far w F i p (far i p)
turn-fit far w F (does i s) = picked (Fit far) (over_line far i s.does) (λ _. F) (λ _. stepped-fit far w i s w.inbox w.refused F F.ended)

turns_fit : (far : Wires) (w : Net) → Fit far w → (ts : List Turn) → Fit far (turns far w ts)
unfolding turns
turns_fit far w F [] = F
turns_fit far w F (t ∷ ts) = turns_fit far (turn far w t) (turn-fit far w F t) ts

pub reached-fit : (far : Wires) (base : ℕ → ℕ) (ts : List Turn) → Fit far (turns far (laid base) ts)
reached-fit far base ts = turns_fit far (laid base) (unfold laid in record { upheld = λ i. started (base i); ended = λ i p e. refl }) ts

-- ---- hearing changes no route and no leaf

module _ (p : Past) (u : Upheld p) (room n : ℕ) (s : List ℕ) where
  abbrev st : Step
  st = record { room = room; does = receive n s }

  -- a step is among the accepted events, or it is not
  accepted-or : (Q : Past → Type 0) → ((then_step p st).accepted ≡ receive n s ∷ p.accepted → Q (then_step p st)) → ((then_step p st).accepted ≡ p.accepted → Q (then_step p st)) → Q (then_step p st)
  accepted-or Q f g =
      by-test (is_taken p.card st)
      (λ e. f (unfold then_step accepted_at in rw e refl))
      (λ e. g (unfold then_step accepted_at in rw e refl))

  same_route : (r : List ℕ) → route_of r (then_step p st).card ≡ route_of r p.card
  same_route r =
      (then-upheld p st u).routed r
      ∙ accepted-or (λ (x : Past). route_by r x.accepted ≡ route_by r p.accepted) (λ e. ap (route_by r) e ∙ (unfold route_by in refl)) (λ e. ap (route_by r) e)
      ∙ sym (u.routed r)

  same-leaf : (a : List ℕ) → (tree_of a (then_step p st).card).leaf ≡ (tree_of a p.card).leaf
  same-leaf a =
      ((then-upheld p st u).reads a).leaf
      ∙ accepted-or (λ (x : Past). leaf_by a x.accepted ≡ leaf_by a p.accepted) (λ e. ap (leaf_by a) e ∙ (unfold leaf_by in refl)) (λ e. ap (leaf_by a) e)
      ∙ sym (u.reads a).leaf

-- the routes and leaves of v are those of w
record Alike (v w : Net) : Type 0 where
  pub routes : (a : List ℕ) (i : ℕ) → via v a i ≡ via w a i
  pub leaves : (a : List ℕ) (i : ℕ) → joined v a i ≡ joined w a i

heard-alike : (far : Wires) (w : Net) → Fit far w → (i p room : ℕ) (xs : List (List ℕ)) → Alike (heard far w i p room xs) w
unfolding heard via joined
heard-alike far w F i p room [] = record { routes = λ a k. refl; leaves = λ a k. refl }
heard-alike far w F i p room (s ∷ rest) = record { routes = λ a k. unfold stepped in route-at a k; leaves = λ a k. unfold stepped in leaf-at a k }
  where
    route-at : (a : List ℕ) (k : ℕ) → route_of (root_in a) (pick (eqb k i) (then_step (w.past i) (Line.hearing room p s)) (w.past k)).card ≡ route_of (root_in a) (w.past k).card
    route-at a k = by-test (eqb k i) (λ e. rw e (same_route (w.past i) (F.upheld i) room p s (root_in a) ∙ ap (λ (x : ℕ). route_of (root_in a) (w.past x).card) (sym (eqb-true k i e)))) (λ e. rw e refl)

    leaf-at : (a : List ℕ) (k : ℕ) → (tree_of a (pick (eqb k i) (then_step (w.past i) (Line.hearing room p s)) (w.past k)).card).leaf ≡ (tree_of a (w.past k).card).leaf
    leaf-at a k = by-test (eqb k i) (λ e. rw e (same-leaf (w.past i) (F.upheld i) room p s a ∙ ap (λ (x : ℕ). (tree_of a (w.past x).card).leaf) (sym (eqb-true k i e)))) (λ e. rw e refl)

climbs-alike : (far : Wires) (v w : Net) → Alike v w → (a : List ℕ) (rank : ℕ → ℕ) → Climbs far w a rank → Climbs far v a rank
climbs-alike far v w A a rank C j q i p e f = C j q i p e (sym (A.routes a j) ∙ f)

alike-trans : (u v w : Net) → Alike u v → Alike v w → Alike u w
alike-trans u v w A B = record { routes = λ a i. A.routes a i ∙ B.routes a i; leaves = λ a i. A.leaves a i ∙ B.leaves a i }

-- ---- one message heard

-- what a step of box i adds to what is under way
step-adds : (far : Wires) → Wired far → (rank : Rank) (n : ℕ) (w : Net) (i : ℕ) (s : Step) (inbox : ℕ → ℕ → List (List ℕ)) (refused : ℕ → ℕ → Bool)
    → ahead rank n (stepped far w i s inbox refused) ≤ sums n (λ k p. weights rank k (inbox k p)) + cost far rank i (sends (w.past i).card s)
unfolding ahead stepped
step-adds far W rank n w i s inbox refused =
    let a : sums n (λ k p. weights rank k (inbox k p ++ arriving w i s (far k p))) ≡ sums n (λ k p. weights rank k (inbox k p) + weights rank k (arriving w i s (far k p))) = sums-eq n _ _ (λ k p. weights-append rank k (inbox k p) (arriving w i s (far k p))) in
    let b : sums n (λ k p. weights rank k (inbox k p) + weights rank k (arriving w i s (far k p))) ≡ sums n (λ k p. weights rank k (inbox k p)) + sums n (λ k p. weights rank k (arriving w i s (far k p))) = sums-add n (λ k p. weights rank k (inbox k p)) (λ k p. weights rank k (arriving w i s (far k p))) in
    let c : sums n (λ k p. weights rank k (arriving w i s (far k p))) ≤ cost far rank i (sends (w.past i).card s) = arrives far W rank n i w s in
    omega arith

-- what is left on the lines when one message has been taken off
taken-off : (rank : Rank) (n : ℕ) (w : Net) (i p : ℕ) (s : List ℕ) (rest : List (List ℕ)) → i < n → p < neighbour_count → w.inbox i p ≡ s ∷ rest
    → sums n (λ k q. weights rank k (anew i p rest w.inbox k q)) + weight rank i (message_in s) ≡ ahead rank n w
unfolding ahead
taken-off rank n w i p s rest h l u =
    sums-less n (λ k q. weights rank k (anew i p rest w.inbox k q)) (λ k q. weights rank k (w.inbox k q)) i p (weight rank i (message_in s)) h l
    at-it
    (λ k q d. ap (weights rank k) (anew-box i p rest w.inbox k q d))
    (λ q d. ap (weights rank i) (anew-number i p rest w.inbox i q d))
  where
    at-it : weights rank i (anew i p rest w.inbox i p) + weight rank i (message_in s) ≡ weights rank i (w.inbox i p)
    at-it = rw (anew-here i p rest w.inbox, u) (unfold weights in omega arith)

module _ (far : Wires) (W : Wired far) (n : ℕ) (I : Within far n) (rank : Rank) (P : List ℕ → Type 0) where
  module _ (w : Net) (R : Ready far rank P w) (i p room : ℕ) where
    abbrev pub next : Net
    next = turn far w (hears i p room)

    pub next-none : w.inbox i p ≡ [] → next ≡ w
    unfolding turn heard
    next-none u = rw u refl

    module _ (s : List ℕ) (rest : List (List ℕ)) (u : w.inbox i p ≡ s ∷ rest) where
      abbrev pub st' : Step
      st' = Line.hearing room p s

      abbrev pub then : Net
      then = stepped far w i st' (anew i p rest w.inbox) (anew i p (w.refused i p || refuses (box_at w i p) st') w.refused)

      pub next-some : next ≡ then
      unfolding turn heard
      next-some = rw u refl

      -- the tree that it is about, and those of the messages behind it
      pub about : P (message_in s).name × EachName P rest
      about = unfold EachName in subst (EachName P) u (R.names i p)

      pub said : Calls (via w (message_in s).name i) p (message_in s) (sends (w.past i).card st')
      said = unfold via in heard-calls (w.past i) (R.fit.upheld i) room p s

      then-falls : ahead rank n then < ahead rank n w
      then-falls = at (far i p) refl
        where
          at : (f : Far) → far i p ≡ f → ahead rank n then < ahead rank n w
          at nobody e = absurd (filled s rest (sym u ∙ R.fit.ended i p e))
          at (box j q) e =
              let a : ahead rank n then ≤ sums n (λ k q. weights rank k (anew i p rest w.inbox k q)) + cost far rank i (sends (w.past i).card st') = step-adds far W rank n w i st' _ _ in
              let b : cost far rank i (sends (w.past i).card st') < weight rank i (message_in s) = calls-cost far w rank i p (message_in s) (R.climbs _ about.0) _ said in
              let c : sums n (λ k q. weights rank k (anew i p rest w.inbox k q)) + weight rank i (message_in s) ≡ ahead rank n w = taken-off rank n w i p s rest (I i p j q e) (W.near i p j q e) u in
              omega arith

      then-names : (k q : ℕ) → EachName P (then.inbox k q)
      unfolding stepped
      then-names k q =
          names-append P _ _
          (anew-at (λ (x y : ℕ) (xs : List (List ℕ)). EachName P xs) i p rest w.inbox k q about.1 (R.names k q))
          (names-arriving P w i st' (far k q) (calls-names P _ p (message_in s) _ about.0 said))

    next-alike : Alike next w
    next-alike = unfold turn in heard-alike far w R.fit i p room (w.inbox i p)

    next-names : (xs : List (List ℕ)) → w.inbox i p ≡ xs → (k q : ℕ) → EachName P (next.inbox k q)
    next-names [] u = rw (next-none u) R.names
    next-names (s ∷ rest) u = rw (next-some s rest u) (then-names s rest u)

    pub next-ready : Ready far rank P next
    next-ready = record {
      fit = turn-fit far w R.fit (hears i p room);
      names = next-names (w.inbox i p) refl;
      climbs = λ a h. climbs-alike far next w next-alike a (rank a) (R.climbs a h);
    }

    -- where a message is heard, and where none is
    next-falls : (xs : List (List ℕ)) → w.inbox i p ≡ xs → some xs + ahead rank n next ≤ ahead rank n w
    unfolding some
    next-falls [] u = rw (next-none u) (omega arith)
    next-falls (s ∷ rest) u = let less : ahead rank n (then s rest u) < ahead rank n w = then-falls s rest u in rw (next-some s rest u) (omega arith)

  -- ---- any servings

  abbrev later : Net → List Ear → Net
  later w es = turns far w (hearings es)

  pub later-ready : (w : Net) → Ready far rank P w → (es : List Ear) → Ready far rank P (later w es)
  unfolding turns hearings
  later-ready w R [] = R
  later-ready w R (e ∷ es) = later-ready (turn far w (hearing e)) (next-ready w R e.at e.from e.room) es

  later-alike : (w : Net) → Ready far rank P w → (es : List Ear) → Alike (later w es) w
  unfolding turns hearings
  later-alike w R [] = record { routes = λ a i. refl; leaves = λ a i. refl }
  later-alike w R (e ∷ es) = alike-trans _ (turn far w (hearing e)) w (later-alike (turn far w (hearing e)) (next-ready w R e.at e.from e.room) es) (next-alike w R e.at e.from e.room)

  pub later-most : (w : Net) → Ready far rank P w → (es : List Ear) → delivered far w es + ahead rank n (later w es) ≤ ahead rank n w
  unfolding turns hearings delivered
  later-most w R [] = omega arith
  later-most w R (e ∷ es) =
      let a : some (w.inbox e.at e.from) + ahead rank n (turn far w (hearing e)) ≤ ahead rank n w = next-falls w R e.at e.from e.room (w.inbox e.at e.from) refl in
      let b : delivered far (turn far w (hearing e)) es + ahead rank n (later (turn far w (hearing e)) es) ≤ ahead rank n (turn far w (hearing e)) = later-most (turn far w (hearing e)) (next-ready w R e.at e.from e.room) es in
      omega arith

  -- where the measure is 0, nothing is under way
  pub none_ahead : (w : Net) → ahead rank n w ≡ 0 → Silent far w
  unfolding ahead
  none_ahead w z i p j q e = at (w.inbox i p) refl
    where
      at : (xs : List (List ℕ)) → w.inbox i p ≡ xs → xs ≡ []
      at [] u = refl
      at (s ∷ rest) u =
          let a : weights rank i (w.inbox i p) ≤ sums n (λ k r. weights rank k (w.inbox k r)) = sums-has n (λ k r. weights rank k (w.inbox k r)) i p (I i p j q e) (W.near i p j q e) in
          let b : weights rank i (w.inbox i p) ≡ weight rank i (message_in s) + weights rank i rest = rw u (unfold weights in refl) in
          let c : 1 ≤ weight rank i (message_in s) = weight-some rank i (message_in s) in
          absurd (omega arith)

  -- silence lasts
  still-silent : (w : Net) → Fit far w → Silent far w → (i p room : ℕ) → turn far w (hears i p room) ≡ w
  still-silent w F Z i p room = unfold turn heard in at (far i p) refl
    where
      at : (f : Far) → far i p ≡ f → heard far w i p room (w.inbox i p) ≡ w
      at nobody e = rw (F.ended i p e) (unfold heard in refl)
      at (box j q) e = rw (Z i p j q e) (unfold heard in refl)

  pub silent-lasts : (w : Net) → Fit far w → Silent far w → (es : List Ear) → Silent far (later w es)
  unfolding turns hearings
  silent-lasts w F Z [] = Z
  silent-lasts w F Z (e ∷ es) = subst (λ (v : Net). Silent far (later v es)) (sym (still-silent w F Z e.at e.from e.room)) (silent-lasts w F Z es)

  later-ends : (w : Net) → Ready far rank P w → (es : List Ear) → Served far w es → ahead rank n w ≤ length es → Silent far (later w es)
  unfolding turns hearings Served
  later-ends w R [] S h = none_ahead w (omega arith)
  later-ends w R (e ∷ es) S h =
      served-on w R e es S.0 h (w.inbox e.at e.from) refl (λ l. later-ends (turn far w (hearing e)) (next-ready w R e.at e.from e.room) es S.1 l)
    where
      served-on : (w : Net) → Ready far rank P w → (e : Ear) (es : List Ear) → (w.inbox e.at e.from ≡ [] → Silent far w) → ahead rank n w ≤ suc (length es) → (xs : List (List ℕ)) → w.inbox e.at e.from ≡ xs
          → (ahead rank n (turn far w (hearing e)) ≤ length es → Silent far (later (turn far w (hearing e)) es)) → Silent far (later (turn far w (hearing e)) es)
      served-on w R e es Z h [] u on = rw (next-none w R e.at e.from e.room u) (silent-lasts w R.fit (Z u) es)
      served-on w R e es Z h (s ∷ rest) u on =
          let a : some (s ∷ rest) + ahead rank n (turn far w (hearing e)) ≤ ahead rank n w = next-falls w R e.at e.from e.room (s ∷ rest) u in
          on (unfold some in omega arith)

  pub ready-dies : (w : Net) → Ready far rank P w → DiesDown far n rank w
  ready-dies w R = record { falls = λ es e d. fall (later w es) (later-ready w R es) e d ((later w es).inbox e.at e.from) refl; most = later-most w R; ends = later-ends w R }
    where
      fall : (v : Net) → Ready far rank P v → (e : Ear) → (v.inbox e.at e.from ≡ [] → ⊥) → (xs : List (List ℕ)) → v.inbox e.at e.from ≡ xs → ahead rank n (turn far v (hearing e)) < ahead rank n v
      fall v R e d [] u = absurd (d u)
      fall v R e d (s ∷ rest) u = rw (next-some v R e.at e.from e.room s rest u) (then-falls v R e.at e.from e.room s rest u)

each_all : (P : List ℕ → Type 0) → ((a : List ℕ) → P a) → (xs : List (List ℕ)) → EachName P xs
unfolding EachName
each_all P h [] = tt
each_all P h (x ∷ xs) = (h (message_in x).name, each_all P h xs)

-- where no routes go round at all
pub slopes-all : (far : Wires) (w : Net) (rank : Rank) → ((a : List ℕ) → Climbs far w a (rank a)) → Slopes far w rank
slopes-all far w rank C i p = each_all (λ a. Climbs far w a (rank a)) C (w.inbox i p)

-- SOFT TICK
pub soft-tick : SoftTick
soft-tick far W n I base ts rank S =
    ready-dies far W n I rank (λ a. Climbs far (turns far (laid base) ts) a (rank a)) (turns far (laid base) ts) (record { fit = reached-fit far base ts; names = S; climbs = λ a h. h })

-- ---- and then the whole tree

pub turns-append : (far : Wires) (w : Net) (ts us : List Turn) → turns far w (ts ++ us) ≡ turns far (turns far w ts) us
unfolding turns
turns-append far w [] us = refl
turns-append far w (t ∷ ts) us = turns-append far (turn far w t) ts us

way-alike : {far : Wires} {v w : Net} {a : List ℕ} {k i : ℕ} → Alike v w → Way far v a k i → Way far w a k i
way-alike A here = here
way-alike {a = a} A (up {j = j} q p y e f) = up q p (way-alike A y) e (sym (A.routes a j) ∙ f)

alike-flip : (v w : Net) → Alike v w → Alike w v
alike-flip v w A = record { routes = λ a i. sym (A.routes a i); leaves = λ a i. sym (A.leaves a i) }

module _ (far : Wires) (W : Wired far) (n : ℕ) (I : Within far n) (base : ℕ → ℕ) (ts : List Turn) (rank : Rank) (S : Slopes far (turns far (laid base) ts) rank) where
  abbrev w₀ : Net
  w₀ = turns far (laid base) ts

  pub laid-ready : Ready far rank (λ a. Climbs far (turns far (laid base) ts) a (rank a)) (turns far (laid base) ts)
  laid-ready = record { fit = reached-fit far base ts; names = S; climbs = λ a h. h }

  -- once nothing is under way, by whatever servings
  pub silent-whole : (es : List Ear) → Silent far (turns far (turns far (laid base) ts) (hearings es)) → Unrefused far (turns far (turns far (laid base) ts) (hearings es))
      → (a : List ℕ) → element_refusal a ≡ 0 → Climbs far (turns far (laid base) ts) a (rank a) → Reaches far (turns far (laid base) ts) (turns far (turns far (laid base) ts) (hearings es)) a (rank a)
  silent-whole es Z unrefused a good C m i k h =
      let A : Alike (turns far w₀ (hearings es)) w₀ = later-alike far W n I rank (λ a. Climbs far (turns far (laid base) ts) a (rank a)) w₀ laid-ready es in
      let whole : Whole far (turns far w₀ (hearings es)) = subst (Whole far) (turns-append far (laid base) ts (hearings es)) (whole-tree far W base (ts ++ hearings es)) in
      let exact = whole (record { inbox = Z; refused = unrefused }) a good (rank a) (climbs-alike far _ w₀ A a (rank a) C) m i k h in
      ((λ j y. exact.0 (A.leaves a k ∙ j) (way-alike (alike-flip _ w₀ A) y)), (λ d. exact.1 (λ j y. d (sym (A.leaves a k) ∙ j) (way-alike A y))))

pub then-whole : ThenWhole
then-whole far W n I base ts rank S es served enough = silent-whole far W n I base ts rank S es ((soft-tick far W n I base ts rank S).ends es served enough)

-- ---- how much an order adds

under-weight : (rank : Rank) (top j : ℕ) (m : Message) → rank m.name j ≤ top → weight rank j m ≤ 2 * (1 + top)
unfolding weight
under-weight rank top j m h = picked (λ (x : ℕ). x ≤ 2 * (1 + top)) (eqb m.kind mapping) (λ _. omega arith) (λ _. picked (λ (x : ℕ). x ≤ 2 * (1 + top)) (eqb m.kind withdraw) (λ _. omega arith) (λ _. omega arith))

module _ (far : Wires) (W : Wired far) (n : ℕ) (I : Within far n) (rank : Rank) (top : ℕ) (U : Under n rank top) (i : ℕ) where
  -- what a message adds that box i sends to its number p
  pub cost-at : (m : Message) (p c : ℕ) → ((j : ℕ) → rank m.name j ≤ top → weight rank j m ≤ c) → (f : Far) → far i p ≡ f → cost_at rank m f ≤ c
  unfolding cost_at
  cost-at m p c h nobody e = zero-le
  cost-at m p c h (box j q) e = h j (U m.name j (I j q i p (W.back i p j q e)))

  cost-under : (ms : List Sent) → cost far rank i ms ≤ length ms * (2 * (1 + top))
  unfolding cost
  cost-under [] = zero-le
  cost-under (m ∷ ms) =
      let a : cost_at rank m.message (far i m.to) ≤ 2 * (1 + top) = cost-at m.message m.to (2 * (1 + top)) (λ j h. under-weight rank top j m.message h) (far i m.to) refl in
      let b : cost far rank i ms ≤ length ms * (2 * (1 + top)) = cost-under ms in
      let c : suc (length ms) * (2 * (1 + top)) ≡ length ms * (2 * (1 + top)) + 2 * (1 + top) = suc-mul (length ms) (2 * (1 + top)) in
      omega arith

  -- any step of box i that is no message of another
  pub does-adds : (w : Net) (s : Step) (c : ℕ) → cost far rank i (sends (w.past i).card s) ≤ c → ahead rank n (turn far w (does i s)) ≤ ahead rank n w + c
  unfolding turn
  does-adds w s c h =
      picked (λ (v : Net). ahead rank n v ≤ ahead rank n w + c) (over_line far i s.does)
      (λ _. omega arith)
      (λ _. let a : ahead rank n (stepped far w i s w.inbox w.refused) ≤ sums n (λ k p. weights rank k (w.inbox k p)) + cost far rank i (sends (w.past i).card s) = step-adds far W rank n w i s w.inbox w.refused in
      let b : sums n (λ k p. weights rank k (w.inbox k p)) ≡ ahead rank n w = unfold ahead in refl in
      omega arith)

pub order-adds : OrderAdds
order-adds far W n I rank top U w i s = does-adds far W n I rank top U i w s _ (cost-under far W n I rank top U i (sends (w.past i).card s))
