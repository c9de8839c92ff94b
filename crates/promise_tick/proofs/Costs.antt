-- WHAT A BOX SENDS, WEIGHED: no more arrives over the lines than was sent, and what a message that is heard makes a box send weighs less than the message.
-- Assumes nothing.
use Prim.Native.Nat.{ℕ, zero, suc, ◌+◌, ◌*◌, ◌≤◌, ◌<◌, zero-le}
use Rattle.std.proofs.Math.Nat.{le_refl}
use native.Mathlib.Omega.{arith}
use Rattle.std.proofs.Math.Path.{◌≡◌, refl, sym}
use Rattle.std.proofs.Common.{◌∙◌, subst, eqb-true, eq-eqb}
use Rattle.std.specs.Prelude.{Bool, true, false, ◌&&◌, drop, length, eqb}
use mathlib.Core.List.{List, [], ◌∷◌, ◌++◌}
use Rattle.meaning.specs.Octets.{pick, two_at}
use Rattle.meaning_laws.specs.RoundTrip.{both}
use Rattle.meaning.specs.Lists.{by-test, picked}
use Rattle.meaning.specs.Wire.{mapping, withdraw, release, Message, Sent, records_f, records_in}
use Rattle.promise.specs.Promise.{Step, answer_to, sends}
use Rattle.promise_line.specs.Line.{parcels_f, parcels, addressed, sent_by}
use Rattle.promise_net.specs.Net.{Far, nobody, box, Wires, Wired, Net, box_at, arriving, via, Climbs}
use Rattle.promise_tick.specs.Tick.{Rank, weight, weights}
use Rattle.promise_tick.specs.Sums.{sums, sums-add, sums-eq, sums-zero, sums-one}
use Rattle.promise_tick.specs.Heard.{Calls, mute, asks, frees, quits}
use Rattle.promise_tick.specs.Costs.{cost_at, cost}

pub weights-append : (rank : Rank) (i : ℕ) (xs ys : List (List ℕ)) → weights rank i (xs ++ ys) ≡ weights rank i xs + weights rank i ys
unfolding weights
weights-append rank i [] ys = omega arith
weights-append rank i (x ∷ xs) ys = let b : weights rank i (xs ++ ys) ≡ weights rank i xs + weights rank i ys = weights-append rank i xs ys in omega arith

-- ---- messages sent, weighed where they arrive

-- whether what box i sends to its number n goes to who has this at the far end
unfoldable comes : ℕ → ℕ → Far → Bool
comes i n nobody = false
comes i n (box j q) = eqb j i && eqb n q

-- what arrives at box k, over a line with f at the far end, of the messages that box i sends
unfoldable gain : Rank → ℕ → List Sent → ℕ → Far → ℕ
gain rank i [] k f = 0
gain rank i (m ∷ ms) k f = pick (comes i m.to f) (weight rank k m.message) 0 + gain rank i ms k f

gain-nobody : (rank : Rank) (i k : ℕ) (ms : List Sent) → gain rank i ms k nobody ≡ 0
unfolding gain comes
gain-nobody rank i k [] = refl
gain-nobody rank i k (m ∷ ms) = let b : gain rank i ms k nobody ≡ 0 = gain-nobody rank i k ms in omega arith

gain-other : (rank : Rank) (i k : ℕ) (ms : List Sent) (j q : ℕ) → eqb j i ≡ false → gain rank i ms k (box j q) ≡ 0
unfolding gain comes
gain-other rank i k [] j q e = refl
gain-other rank i k (m ∷ ms) j q e = let b : gain rank i ms k (box j q) ≡ 0 = gain-other rank i k ms j q e in rw e (omega arith)

-- the octets put on the line are the messages that are read in what is written
gain-parcels : (rank : Rank) (i k j q : ℕ) → eqb j i ≡ true → (f : ℕ) (s : List ℕ) → weights rank k (addressed q (parcels_f f s)) ≡ gain rank i (records_f f s) k (box j q)
unfolding weights addressed parcels_f records_f gain comes
gain-parcels rank i k j q h zero s = refl
gain-parcels rank i k j q h (suc f) s =
    by-test (eqb (length s) 0)
    (λ e. rw e refl)
    (λ e. let b : weights rank k (addressed q (parcels_f f (drop (4 + two_at s 6) (drop 4 s)))) ≡ gain rank i (records_f f (drop (4 + two_at s 6) (drop 4 s))) k (box j q) = gain-parcels rank i k j q h f (drop (4 + two_at s 6) (drop 4 s)) in
    rw e (by-test (eqb (two_at s 2) q)
    (λ n. rw (n, h) (omega arith))
    (λ n. rw (n, h) (omega arith))))

arriving-gain : (rank : Rank) (w : Net) (i : ℕ) (s : Step) (k : ℕ) (f : Far) → weights rank k (arriving w i s f) ≡ gain rank i (sends (w.past i).card s) k f
unfolding arriving weights
arriving-gain rank w i s k nobody = sym (gain-nobody rank i k (sends (w.past i).card s))
arriving-gain rank w i s k (box j q) =
    by-test (eqb j i)
    (λ e. rw e (unfold sent_by box_at sends parcels records_in in (gain-parcels rank i k j q e _ (answer_to (w.past i).card s).octets)))
    (λ e. rw e (sym (gain-other rank i k (sends (w.past i).card s) j q e)))

-- ---- no more arrives than was sent

comes_back : (far : Wires) → Wired far → (i n k p : ℕ) (f : Far) → far k p ≡ f → comes i n f ≡ true → far i n ≡ box k p
unfolding comes
comes_back far W i n k p nobody e h = absurd (let z : ◌≡◌ {A = ℕ} 0 1 = cc in omega arith)
comes_back far W i n k p (box j q) e h =
    let at = both (eqb j i) (eqb n q) h in
    rw (eqb-true n q at.1) (subst (λ (x : ℕ). far x q ≡ box k p) (eqb-true j i at.0) (W.back k p j q e))

module _ (far : Wires) (W : Wired far) (rank : Rank) (n i : ℕ) where
  module _ (m : Sent) where
    abbrev part : ℕ → ℕ → ℕ
    part k p = pick (comes i m.to (far k p)) (weight rank k m.message) 0

    part_none : (k p : ℕ) → (far i m.to ≡ box k p → ⊥) → part k p ≡ 0
    part_none k p d = picked (λ (x : ℕ). x ≡ 0) (comes i m.to (far k p)) (λ e. absurd (d (comes_back far W i m.to k p (far k p) refl e))) (λ _. refl)

    -- a message has one line to go over
    one-arrives : (f : Far) → far i m.to ≡ f → sums n part ≤ cost_at rank m.message f
    unfolding cost_at
    one-arrives nobody e = let z : sums n part ≡ 0 = sums-zero n part (λ k p. part_none k p (λ h. let t : nobody ≡ box k p = sym e ∙ h in let z' : ◌≡◌ {A = ℕ} 0 1 = cc in omega arith)) in omega arith
    one-arrives (box j q) e =
        sums-one n part j q (weight rank j m.message)
        (picked (λ (x : ℕ). x ≤ weight rank j m.message) (comes i m.to (far j q)) (λ _. le_refl _) (λ _. zero-le))
        (λ k p d. part_none k p (λ h. d (let t : box j q ≡ box k p = sym e ∙ h in cc)))
        (λ p d. part_none j p (λ h. d (let t : box j q ≡ box j p = sym e ∙ h in cc)))

  all-arrive : (ms : List Sent) → sums n (λ k p. gain rank i ms k (far k p)) ≤ cost far rank i ms
  unfolding gain cost
  all-arrive [] = let z : sums n (λ k p. 0) ≡ 0 = sums-zero n (λ k p. 0) (λ k p. refl) in omega arith
  all-arrive (m ∷ ms) =
      let a : sums n (λ k p. part m k p + gain rank i ms k (far k p)) ≡ sums n (part m) + sums n (λ k p. gain rank i ms k (far k p)) = sums-add n (part m) (λ k p. gain rank i ms k (far k p)) in
      let b : sums n (part m) ≤ cost_at rank m.message (far i m.to) = one-arrives m (far i m.to) refl in
      let c : sums n (λ k p. gain rank i ms k (far k p)) ≤ cost far rank i ms = all-arrive ms in
      omega arith

  pub arrives : (w : Net) (s : Step) → sums n (λ k p. weights rank k (arriving w i s (far k p))) ≤ cost far rank i (sends (w.past i).card s)
  arrives w s =
      let a : sums n (λ k p. weights rank k (arriving w i s (far k p))) ≡ sums n (λ k p. gain rank i (sends (w.past i).card s) k (far k p)) = sums-eq n _ _ (λ k p. arriving-gain rank w i s k (far k p)) in
      let b : sums n (λ k p. gain rank i (sends (w.past i).card s) k (far k p)) ≤ cost far rank i (sends (w.past i).card s) = all-arrive (sends (w.past i).card s) in
      omega arith

-- ---- what is heard weighs more than what it makes a box say

pub weight-some : (rank : Rank) (i : ℕ) (m : Message) → 1 ≤ weight rank i m
unfolding weight
weight-some rank i m = picked (λ (x : ℕ). 1 ≤ x) (eqb m.kind mapping) (λ _. omega arith) (λ _. picked (λ (x : ℕ). 1 ≤ x) (eqb m.kind withdraw) (λ _. omega arith) (λ _. omega arith))

weight-mapping : (rank : Rank) (i : ℕ) (m : Message) → m.kind ≡ mapping → weight rank i m ≡ 1 + rank m.name i
unfolding weight
weight-mapping rank i m k = rw (eq-eqb _ mapping k) refl

weight-withdraw : (rank : Rank) (i : ℕ) (m : Message) → m.kind ≡ withdraw → weight rank i m ≡ 2 * (1 + rank m.name i)
unfolding weight
weight-withdraw rank i m k = rw (k) refl

module _ (far : Wires) (w : Net) (rank : Rank) (i n : ℕ) (m : Message) (C : Climbs far w m.name (rank m.name)) where
  abbrev v : ℕ
  v = via w m.name i

  -- a message to the upstream, which has a lower rank
  mapping-on : (l : ℕ) (f : Far) → far i v ≡ f → cost_at rank (record { kind = mapping; name = m.name; label = l }) f ≤ rank m.name i
  unfolding cost_at weight
  mapping-on l nobody e = zero-le
  mapping-on l (box j q) e = let less : rank m.name j < rank m.name i = C i v j q e refl in omega arith

  withdraw-on : (l : ℕ) (f : Far) → far i v ≡ f → cost_at rank (record { kind = withdraw; name = m.name; label = l }) f ≤ 2 * rank m.name i
  unfolding cost_at weight
  withdraw-on l nobody e = zero-le
  withdraw-on l (box j q) e = let less : rank m.name j < rank m.name i = C i v j q e refl in omega arith

  release-back : (l : ℕ) (f : Far) → cost_at rank (record { kind = release; name = m.name; label = l }) f ≤ 1
  unfolding cost_at weight
  release-back l nobody = zero-le
  release-back l (box j q) = le_refl 1

  pub calls-cost : (ms : List Sent) → Calls v n m ms → cost far rank i ms < weight rank i m
  unfolding cost
  calls-cost ms mute = weight-some rank i m
  calls-cost ms (asks l k) = let a = mapping-on l (far i v) refl in let b = weight-mapping rank i m k in omega arith
  calls-cost ms (frees k) = let a = release-back m.label (far i n) in let b = weight-withdraw rank i m k in omega arith
  calls-cost ms (quits l k) = let a = release-back m.label (far i n) in let c = withdraw-on l (far i v) refl in let b = weight-withdraw rank i m k in omega arith
