-- The theorems applied: what they ask for can be met. The ring of `TickExample`, and the feed moved: six servings are enough, in any order, with any rooms.
-- Assumes nothing.
use Rattle.std.specs.Prelude.{ℕ, zero, suc, ◌≤◌, ◌<◌, ◌≡◌, refl, true, List, [], length, eqb}
use Rattle.std.proofs.Common.{arith, sym, ap, ◌∙◌, subst, eqb-true}
use Rattle.meaning.specs.Lists.{picked}
use Rattle.meaning_laws.specs.RoundTrip.{both}
use Rattle.meaning.specs.Wire.{root_in}
use Rattle.meaning.specs.Card.{route_of, sent_limit}
use Rattle.meaning.specs.Computing.{computing}
use Rattle.meaning.specs.Examples.{A}
use Rattle.promise.specs.Promise.{answer_to, is_taken, live_at, accepted_at, then_step}
use Rattle.promise_line.specs.Line.{parcels_f, parcels, addressed, sent_by, refuses}
use Rattle.promise_net.specs.Net.{Far, nobody, box, Wired, box_at, laid, arriving, stepped, anew, heard, is_box, over_line, turn, turns, via, Climbs}
use Rattle.promise_net.specs.NetExample.{is_at}
use Rattle.promise_tick.specs.Tick.{Ear, hearings, Silent, Served, Within, Under, weight, weights, sum_to, ahead, AfterMove}
use Rattle.promise_tick.proofs.MoveProof.{a_move}
use Rattle.promise_tick.specs.TickExample.{ring, early, morning, moved, heights}

at_place : (Q : ℕ → ℕ → Far → Type 0) (i p a b : ℕ) (f : Far) → is_at i p a b ≡ true → Q a b f → Q i p f
unfolding is_at
at_place Q i p a b f e q = let at = both (eqb i a) (eqb p b) e in subst (λ (x : ℕ). Q x p f) (sym (eqb-true i a at.0)) (subst (λ (x : ℕ). Q a x f) (sym (eqb-true p b at.1)) q)

-- what is so at the eight ends of the lines, and where no line is, is so everywhere
ring-each : (Q : ℕ → ℕ → Far → Type 0) → Q 0 1 (box 1 0) → Q 1 0 (box 0 1) → Q 0 2 (box 2 0) → Q 2 0 (box 0 2) → Q 1 3 (box 3 1) → Q 3 1 (box 1 3) → Q 2 3 (box 3 2) → Q 3 2 (box 2 3) → ((i p : ℕ) → Q i p nobody) → (i p : ℕ) → Q i p (ring i p)
unfolding ring
ring-each Q a b c d e f g h none i p =
    picked (Q i p) (is_at i p 0 1) (λ t. at_place Q i p 0 1 _ t a)
    (λ _. picked (Q i p) (is_at i p 1 0) (λ t. at_place Q i p 1 0 _ t b)
    (λ _. picked (Q i p) (is_at i p 0 2) (λ t. at_place Q i p 0 2 _ t c)
    (λ _. picked (Q i p) (is_at i p 2 0) (λ t. at_place Q i p 2 0 _ t d)
    (λ _. picked (Q i p) (is_at i p 1 3) (λ t. at_place Q i p 1 3 _ t e)
    (λ _. picked (Q i p) (is_at i p 3 1) (λ t. at_place Q i p 3 1 _ t f)
    (λ _. picked (Q i p) (is_at i p 2 3) (λ t. at_place Q i p 2 3 _ t g)
    (λ _. picked (Q i p) (is_at i p 3 2) (λ t. at_place Q i p 3 2 _ t h)
    (λ _. none i p))))))))

-- the same of lines alone
ring-lines : (Q : ℕ → ℕ → ℕ → ℕ → Type 0) → Q 0 1 1 0 → Q 1 0 0 1 → Q 0 2 2 0 → Q 2 0 0 2 → Q 1 3 3 1 → Q 3 1 1 3 → Q 2 3 3 2 → Q 3 2 2 3 → (i p j q : ℕ) → ring i p ≡ box j q → Q i p j q
ring-lines Q a b c d e f g h i p j q z =
    ring-each (λ (i p : ℕ) (x : Far). x ≡ box j q → Q i p j q)
    (ends 0 1 1 0 a) (ends 1 0 0 1 b) (ends 0 2 2 0 c) (ends 2 0 0 2 d) (ends 1 3 3 1 e) (ends 3 1 1 3 f) (ends 2 3 3 2 g) (ends 3 2 2 3 h)
    (λ i p t. absurd (let t' : ◌≡◌ {A = ℕ} 0 1 = cc in omega arith))
    i p z
  where
    ends : (i p x y : ℕ) → Q i p x y → box x y ≡ box j q → Q i p j q
    ends i p x y k t = let e₁ : x ≡ j = cc in let e₂ : y ≡ q = cc in subst (λ (s : ℕ). Q i p s q) e₁ (subst (λ (s : ℕ). Q i p x s) e₂ k)

ring-back : (i p j q : ℕ) → ring i p ≡ box j q → ring j q ≡ box i p
unfolding ring is_at
ring-back = ring-lines (λ i p j q. ring j q ≡ box i p) refl refl refl refl refl refl refl refl

ring-wired : Wired ring
ring-wired = record {
  back = ring-back;
  near = ring-lines (λ i p j q. p < 16) (omega arith) (omega arith) (omega arith) (omega arith) (omega arith) (omega arith) (omega arith) (omega arith);
  apart = ring-lines (λ i p j q. i ≡ j → ⊥) (λ e. omega arith) (λ e. omega arith) (λ e. omega arith) (λ e. omega arith) (λ e. omega arith) (λ e. omega arith) (λ e. omega arith) (λ e. omega arith);
}

ring-within : Within ring 4
ring-within = ring-lines (λ i p j q. i < 4) (omega arith) (omega arith) (omega arith) (omega arith) (omega arith) (omega arith) (omega arith) (omega arith)

heights-under : Under 4 heights 2
unfolding heights
heights-under a zero h = omega arith
heights-under a (suc zero) h = omega arith
heights-under a (suc (suc zero)) h = omega arith
heights-under a (suc (suc (suc zero))) h = omega arith
heights-under a (suc (suc (suc (suc j)))) h = absurd (omega arith)

-- nothing is under way in the morning
morning-silent : Silent ring morning
unfolding computing A is_at ring early morning parcels_f parcels addressed sent_by refuses box_at laid arriving stepped anew heard is_box over_line turn turns answer_to is_taken live_at accepted_at then_step
morning-silent = ring-lines (λ i p j q. morning.inbox i p ≡ []) refl refl refl refl refl refl refl refl

-- the routes after the order
unfoldable route-at : ℕ → ℕ
route-at i = route_of (root_in A) (moved.past i).card

routes-are : (route-at 0 ≡ 16) × (route-at 1 ≡ 0) × (route-at 2 ≡ 0) × (route-at 3 ≡ 2)
unfolding computing A is_at ring early moved parcels_f parcels addressed sent_by refuses box_at laid arriving stepped anew heard is_box over_line turn turns answer_to is_taken live_at accepted_at then_step route-at
routes-are = (refl, refl, refl, refl)

by-root : (a : List ℕ) → root_in a ≡ root_in A → (i q : ℕ) → via moved a i ≡ q → route-at i ≡ q
unfolding via route-at
by-root a e i q h = ap (λ (r : List ℕ). route_of r (moved.past i).card) (sym e) ∙ h

moved-climbs : (a : List ℕ) → root_in a ≡ root_in A → Climbs ring moved a (heights a)
moved-climbs a e i p j q z h = lower i p j q z (by-root a e i p h)
  where
    lower : (i p j q : ℕ) → ring i p ≡ box j q → route-at i ≡ p → heights a j < heights a i
    lower =
        ring-lines (λ i p j q. route-at i ≡ p → heights a j < heights a i)
        (λ h. absurd (let r = routes-are.0 in omega arith))
        (λ h. unfold heights in omega arith)
        (λ h. absurd (let r = routes-are.0 in omega arith))
        (λ h. unfold heights in omega arith)
        (λ h. absurd (let r = routes-are.1 in omega arith))
        (λ h. absurd (let r = routes-are.3 in omega arith))
        (λ h. absurd (let r = routes-are.2 in omega arith))
        (λ h. unfold heights in omega arith)

-- what `AMove` says of it
pub ring-moved : AfterMove ring 4 heights 2 morning 3 (root_in A) moved
unfolding morning moved
ring-moved = a_move ring ring-wired 4 ring-within (λ i. 16) early morning-silent 3 sent_limit (root_in A) 2 heights 2 heights-under moved-climbs

six-ahead : ahead heights 4 moved ≡ 6
unfolding computing A is_at ring early moved parcels_f parcels addressed sent_by refuses box_at laid arriving stepped anew heard is_box over_line turn turns answer_to is_taken live_at accepted_at then_step weight weights sum_to ahead heights
six-ahead = refl

-- six servings are enough, in whatever order and with whatever room
pub six-are-enough : (es : List Ear) → Served ring moved es → 6 ≤ length es → Silent ring (turns ring moved (hearings es))
six-are-enough es served h = ring-moved.dies.ends es served (omega (arith, six-ahead))
