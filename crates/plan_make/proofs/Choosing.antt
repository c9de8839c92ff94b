-- The choice, from the highest neighbour down. Assumes nothing.
use Prim.Native.Nat.{ℕ, suc, ◌+◌, ◌-◌, ◌≤◌, ◌<◌}
use native.Mathlib.Omega.{arith}
use mathlib.Core.Path.{◌≡◌, refl, sym, ap, ◌∙◌}
use mathlib.Core.Bool.{Bool, true, false, ◌&&◌}
use mathlib.Core.List.{List}
use lib.Dec.{eqb}
use borrow.Author.Tests.{eqb-false, eq-eqb, ne_eqb, le-leb, lt-leb}
use Rattle.meaning.specs.Octets.{pick}
use Rattle.meaning.specs.Card.{Card, tree_limit}
use Rattle.meaning.specs.Events.{need_all}
use Rattle.meaning.specs.Lists.{by-test, no_way}
use Rattle.meaning_plan.specs.Plan.{Allowed, may_have, no_choice, goes_first, cheapest, choice}
use Rattle.meaning_plan.specs.Loops.{cheapest-step}

module _ (ok : ℕ → Bool) (cost : ℕ → ℕ) where
  -- what the best so far needs
  unfoldable pub least_of : ℕ → ℕ
  least_of best = pick (eqb best no_choice) tree_limit (cost best)

  unfoldable pub offered : ℕ → ℕ
  offered v = pick (ok v) (cost v) (1 + tree_limit)

  -- the choice among the neighbours from w on
  unfoldable pub best_from : ℕ → ℕ
  best_from w = cheapest ok cost (no_choice - w) w

  pub best_none : no_choice ≡ best_from no_choice
  unfolding best_from cheapest
  best_none = refl

  pub least-none : tree_limit ≡ least_of no_choice
  unfolding least_of
  least-none = refl

  one_more : (w : ℕ) → 0 < w → w ≤ no_choice → best_from (w - 1) ≡ pick (ok (w - 1) && goes_first cost (w - 1) (best_from w)) (w - 1) (best_from w)
  unfolding best_from
  one_more w low high =
      let k : no_choice - (w - 1) ≡ suc (no_choice - w) = omega arith in
      let up : suc (w - 1) ≡ w = omega arith in
      ap (λ (n : ℕ). cheapest ok cost n (w - 1)) k ∙ cheapest-step ok cost (no_choice - w) (w - 1) ∙ rw up refl

  least-found : (b : ℕ) → (b ≡ no_choice → ⊥) → least_of b ≡ cost b
  unfolding least_of
  least-found b ne = rw (ne_eqb b no_choice ne) refl

  offered-ok : (v : ℕ) → ok v ≡ true → offered v ≡ cost v
  unfolding offered
  offered-ok v h = rw h refl

  offered-not : (v : ℕ) → ok v ≡ false → offered v ≡ 1 + tree_limit
  unfolding offered
  offered-not v h = rw h refl

  -- v is no neighbour for the root, or dearer than the best so far
  module _ (w best least need : ℕ) (low : 0 < w) (high : w ≤ no_choice) (is : best ≡ best_from w) (cheap : least ≡ least_of best) (offer : need ≡ offered (w - 1)) where
    pub best-new : least ≤ tree_limit → need ≤ least → (w - 1 ≡ best_from (w - 1)) × (need ≡ least_of (w - 1))
    best-new most h =
        by-test (ok (w - 1))
        (λ e. (sym (one_more w low high ∙ rw (← is, e) (better e)), offer ∙ offered-ok (w - 1) e ∙ sym (least-found (w - 1) (λ z. omega arith))))
        (λ e. absurd (omega (arith, offer, offered-not (w - 1) e)))
      where
        better : ok (w - 1) ≡ true → pick (goes_first cost (w - 1) best) (w - 1) best ≡ w - 1
        better e = unfold goes_first in
            by-test (eqb best no_choice)
            (λ k. rw k refl)
            (λ k. rw (k, le-leb (cost (w - 1)) (cost best) (omega (arith, offer, offered-ok (w - 1) e, cheap, least-found best (eqb-false best no_choice k)))) refl)

    pub best-stays : (ok (w - 1) ≡ true → need ≤ tree_limit) → least < need → best ≡ best_from (w - 1)
    best-stays most h =
        by-test (ok (w - 1))
        (λ e. sym (one_more w low high ∙ rw (← is, e) (worse e (most e))))
        (λ e. sym (one_more w low high ∙ rw (← is, e) refl))
      where
        some : need ≤ tree_limit → best ≡ no_choice → ⊥
        some m z = let none : least_of best ≡ tree_limit = unfold least_of in rw (eq-eqb best no_choice z) refl in omega (arith, none, cheap)

        worse : ok (w - 1) ≡ true → need ≤ tree_limit → pick (goes_first cost (w - 1) best) (w - 1) best ≡ best
        worse e m = unfold goes_first in rw (ne_eqb best no_choice (some m), lt-leb (cost (w - 1)) (cost best) (omega (arith, offer, offered-ok (w - 1) e, cheap, least-found best (some m)))) refl

module _ (c : Card) (n : ℕ) (ps : List Allowed) (r : List ℕ) where
  abbrev pub ok : ℕ → Bool
  ok = may_have n ps r

  abbrev pub cost : ℕ → ℕ
  cost v = need_all r v c

  pub chosen_last : (best v : ℕ) → v ≤ 0 → best ≡ best_from ok cost v → best ≡ choice c n ps r
  unfolding choice best_from
  chosen_last best v h e = let z : v ≡ 0 = omega arith in e ∙ rw z refl

  pub offer-may : (b : Bool) (k : ℕ) → b ≡ may_have n ps r k → b ≡ true → (need : ℕ) → need ≡ need_all r k c → need ≤ tree_limit → (need ≡ pick (may_have n ps r k) (need_all r k c) (1 + tree_limit)) × (may_have n ps r k ≡ true → need ≤ tree_limit)
  offer-may b k e h need is most = (rw (← e, h) is, λ _. most)

  pub offer-not : (b : Bool) (k : ℕ) → b ≡ may_have n ps r k → b ≡ false → (1 + tree_limit ≡ pick (may_have n ps r k) (need_all r k c) (1 + tree_limit)) × (may_have n ps r k ≡ true → 1 + tree_limit ≤ tree_limit)
  offer-not b k e h = (rw (← e, h) refl, λ z. no_way (sym z ∙ sym e ∙ h))

  pub as-offered : (v need : ℕ) → need ≡ pick (may_have n ps r v) (need_all r v c) (1 + tree_limit) → need ≡ offered ok cost v
  unfolding offered
  as-offered v need e = e
