-- The choice of one root's new neighbour: it passes the test, none that passes costs less, and of those that cost the same it is the lowest.
-- Assumes nothing.
use Prim.Native.Nat.{ℕ, zero, suc, ◌+◌, ◌≤◌, ◌<◌}
use Rattle.std.proofs.Math.Nat.{le_refl}
use native.Mathlib.Omega.{arith}
use Rattle.std.specs.Prelude.{◌≡◌, Bool, false, ◌&&◌, eqb}
use Rattle.std.proofs.Math.Path.{ap, subst}
use Rattle.std.proofs.Common.{◌∙◌}
use Rattle.std.proofs.Math.Bool.{true}
use borrow.Author.Tests.{eqb-true, eqb-false, leb-true, leb-false, ne_eqb}
use Rattle.meaning.specs.Lists.{by-test, no_way}
use Rattle.meaning_laws.specs.RoundTrip.{both}
use Rattle.meaning_plan.specs.Plan.{goes_first, cheapest}
use Rattle.meaning.specs.Card.{neighbour_count}

module _ (ok : ℕ → Bool) (cost : ℕ → ℕ) where
  pub cheapest-most : (k v : ℕ) → v + k ≤ 16 → cheapest ok cost k v ≤ 16
  unfolding cheapest
  cheapest-most zero v h = le_refl 16
  cheapest-most (suc k) v h =
      by-test (ok v && goes_first cost v (cheapest ok cost k (suc v)))
      (λ e. rw e (omega arith))
      (λ e. rw e (cheapest-most k (suc v) (omega arith)))

  -- it is one of those that pass
  pub cheapest-in : (k v : ℕ) → v + k ≤ 16 → cheapest ok cost k v < neighbour_count → (v ≤ cheapest ok cost k v) × (ok (cheapest ok cost k v) ≡ true)
  unfolding cheapest
  cheapest-in zero v h lt = absurd (omega arith)
  cheapest-in (suc k) v h lt =
      by-test (ok v && goes_first cost v (cheapest ok cost k (suc v)))
      (λ e. rw e (le_refl v, (both (ok v) _ e).0))
      (λ e. let p = cheapest-in k (suc v) (omega arith) (rw e at lt) in rw e (lower v _ p.0, p.1))
    where
      lower : (v w : ℕ) → suc v ≤ w → v ≤ w
      lower v w h = omega arith

  -- b is no dearer than w, and no higher at the same cost
  pub record Beats (b w : ℕ) : Type 0 where
    pub found : b < neighbour_count
    pub cheap : cost b ≤ cost w
    pub lowest : cost b ≡ cost w → b ≤ w

  -- of the first, with what comes later
  first-beats : (v later w : ℕ) → v < neighbour_count → goes_first cost v later ≡ true → (v ≡ w → ⊥) → v ≤ w → Beats later w → Beats v w
  unfolding goes_first
  first-beats v later w near e d h B =
      let cheaper : cost v ≤ cost later = leb-true _ _ (rw (ne_eqb later 16 (λ z. let f = B.found in omega arith)) at e) in
      record { found = near; cheap = omega (arith, B.cheap); lowest = λ _. h }

  later-beats : (v later : ℕ) → later ≤ 16 → goes_first cost v later ≡ false → Beats later v
  unfolding goes_first
  later-beats v later most e =
      by-test (eqb later 16)
      (λ k. no_way (rw k at e))
      (λ k. let dear : cost later < cost v = leb-false (cost v) (cost later) (rw k at e) in
      let other : later ≡ 16 → ⊥ = eqb-false later 16 k in
      record { found = below later most other; cheap = omega arith; lowest = λ z. absurd (omega arith) })
    where
      below : (x : ℕ) → x ≤ 16 → (x ≡ 16 → ⊥) → x < neighbour_count
      below x h d = omega arith

  same-beats : (v : ℕ) → v < neighbour_count → Beats v v
  same-beats v h = record { found = h; cheap = le_refl _; lowest = λ _. le_refl v }

  pub cheapest-beats : (k v : ℕ) → v + k ≤ 16 → (w : ℕ) → v ≤ w → w < v + k → ok w ≡ true → Beats (cheapest ok cost k v) w
  unfolding cheapest
  cheapest-beats zero v h w lo hi good = absurd (omega arith)
  cheapest-beats (suc k) v h w lo hi good =
      by-test (ok v && goes_first cost v (cheapest ok cost k (suc v)))
      (λ e. rw e (by-test (eqb v w)
      (λ z. subst (λ (x : ℕ). Beats v x) (eqb-true v w z) (same-beats v (omega arith)))
      (λ z. let d : v ≡ w → ⊥ = eqb-false v w z in first-beats v (cheapest ok cost k (suc v)) w (omega arith) (both (ok v) _ e).1 d lo (cheapest-beats k (suc v) (omega arith) w (omega arith) (omega arith) good))))
      (λ e. rw e (by-test (eqb v w)
      (λ z. let z' : v ≡ w = eqb-true v w z in
      let okv : ok v ≡ true = ap ok z' ∙ good in
      subst (λ (x : ℕ). Beats (cheapest ok cost k (suc v)) x) z' (later-beats v _ (cheapest-most k (suc v) (omega arith)) (rw okv at e)))
      (λ z. let d : v ≡ w → ⊥ = eqb-false v w z in cheapest-beats k (suc v) (omega arith) w (omega arith) (omega arith) good)))
