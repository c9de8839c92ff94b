-- The ways that the routes make: from each box one, and upwards.
-- Assumes nothing.
use Rattle.std.specs.Prelude.{ℕ, ◌≤◌, ◌≡◌, refl, List}
use Rattle.std.proofs.Common.{le_refl, arith, sym, ap, ◌∙◌, subst}
use Rattle.promise_net.specs.Net.{box, Wires, Net, via, Way, here, up, Climbs}

data Or (X Y : Type 0) : Type 0 where
  left : X → Or X Y
  right : Y → Or X Y

box-one : {i j p q : ℕ} → box i p ≡ box j q → (i ≡ j) × (p ≡ q)
box-one e = (cc, cc)

module _ (far : Wires) (w : Net) (a : List ℕ) where
  -- the next box is one
  next_one : (j q p i r s m : ℕ) → far j q ≡ box i p → via w a j ≡ q → far j r ≡ box m s → via w a j ≡ r → (i ≡ m) × (p ≡ s)
  next_one j q p i r s m e v f u = box-one (sym e ∙ ap (far j) (sym v ∙ u) ∙ f)

  -- a way that has not ended goes by the next box
  goes_by : {j y : ℕ} (q p i : ℕ) → far j q ≡ box i p → via w a j ≡ q → Way far w a j y → Or (j ≡ y) (Way far w a i y)
  goes_by {j} q p i e v here = left refl
  goes_by {j} q p i e v (up {j = z} {i = y} r s x f u) = onto (goes_by q p i e v x)
    where
      onto : Or (j ≡ z) (Way far w a i z) → Or (j ≡ y) (Way far w a i y)
      onto (left h) = right (subst (λ (m : ℕ). Way far w a i m) (next_one j q p i r s y e v (ap (λ (n : ℕ). far n r) h ∙ f) (ap (via w a) h ∙ u)).0 here)
      onto (right h) = right (up r s h f u)

  -- of two boxes on the way one is on the way from the other
  in-line : {k x y : ℕ} → Way far w a k x → Way far w a k y → Or (Way far w a x y) (Way far w a y x)
  in-line here g = left g
  in-line {y = y} (up {j = j} {i = i} q p f e v) g = onto (in-line f g)
    where
      onto : Or (Way far w a j y) (Way far w a y j) → Or (Way far w a i y) (Way far w a y i)
      onto (left h) = past (goes_by q p i e v h)
        where
          past : Or (j ≡ y) (Way far w a i y) → Or (Way far w a i y) (Way far w a y i)
          past (left z) = right (subst (λ (m : ℕ). Way far w a m i) z (up q p here e v))
          past (right z) = left z
      onto (right h) = right (up q p h e v)

  module _ (rank : ℕ → ℕ) (C : Climbs far w a rank) where
    pub rank_up : {k i : ℕ} → Way far w a k i → rank i ≤ rank k
    rank_up here = le_refl _
    rank_up (up {j = j} {i = i} q p f e v) = let below = rank_up f in let step = C j q i p e v in omega arith

    -- two boxes on one way, each one before i, stand at one number of i
    one-before : (j m q r p s i : ℕ) → Way far w a j m → far j q ≡ box i p → via w a j ≡ q → far m r ≡ box i s → via w a m ≡ r → p ≡ s
    one-before j m q r p s i g e v f u = ends (goes_by q p i e v g)
      where
        ends : Or (j ≡ m) (Way far w a i m) → p ≡ s
        ends (left h) = (next_one j q p i r s i e v (ap (λ (n : ℕ). far n r) h ∙ f) (ap (via w a) h ∙ u)).1
        ends (right h) = absurd (let low = rank_up h in let high = C m r i s f u in omega arith)

    pub one-door : {k : ℕ} (j m q r p s i : ℕ) → Way far w a k j → Way far w a k m → far j q ≡ box i p → via w a j ≡ q → far m r ≡ box i s → via w a m ≡ r → p ≡ s
    one-door j m q r p s i x y e v f u = ends (in-line x y)
      where
        ends : Or (Way far w a j m) (Way far w a m j) → p ≡ s
        ends (left g) = one-before j m q r p s i g e v f u
        ends (right g) = sym (one-before m j r q s p i g f u e v)
