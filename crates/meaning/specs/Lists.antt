-- Laws of searches, counts and stores in lists, and of tests.
-- Assumes nothing.
use Prim.Native.Nat.{ℕ, zero, suc, ◌+◌, ◌-◌, ◌≤◌, ◌<◌, suc-le-suc}
use Rattle.std.proofs.Common.{le_of_suc-le-suc, not-suc-le-zero, sym, ap₂, ◌∙◌}
use Rattle.std.proofs.Math.Nat.{le_refl, le_trans}
use native.Mathlib.Omega.{arith}
use Rattle.std.specs.Prelude.{◌≡◌, Bool, true, false, ◌||◌, get_or, length, set, replicate, drop, eqb, ltb}
use Rattle.std.proofs.Math.Path.{refl, ap}
use mathlib.Core.List.{List, [], ◌∷◌, ◌++◌}
use Rattle.std.proofs.Math.ListN.{length-drop, get_or-eq_default}
use Rattle.std.proofs.Math.Seq.{get_or-drop}
use borrow.Author.Tests.{eqb-true, eq-eqb, ltb-true, ltb-false}
use Rattle.meaning.specs.Octets.{pick, place, place_from, count, any, same, put, cut, ◌when◌else◌}

-- a test, with what it tells
pub by-test {ℓ} : {X : Type ℓ} (b : Bool) → (b ≡ true → X) → (b ≡ false → X) → X
by-test true f g = f refl
by-test false f g = g refl

-- either way
pub picked {ℓ κ} : {X : Type ℓ} (P : X → Type κ) (b : Bool) {x y : X} → (b ≡ true → P x) → (b ≡ false → P y) → P (pick b x y)
picked P true f g = f refl
picked P false f g = g refl

-- a test does not come out both ways
pub never : false ≡ true → ⊥
never e = let z : ◌≡◌ {A = ℕ} 0 1 = cc in omega arith

pub no_way : {X : Type 0} → true ≡ false → X
no_way z = absurd (let z' : ◌≡◌ {A = ℕ} 0 1 = cc in omega arith)

pub neither : (x y : Bool) → (x || y) ≡ false → (x ≡ false) × (y ≡ false)
neither true y e = no_way e
neither false y e = (refl, e)

-- ---- places

pub place-finds {ℓ} : {A : Type ℓ} (t : A → Bool) (l : List A) (d : A) → place t l < length l → t (get_or l (place t l) d) ≡ true
unfolding place
place-finds t [] d h = absurd (not-suc-le-zero h)
place-finds t (x ∷ xs) d h =
    picked (λ (k : ℕ). k < suc (length xs) → t (get_or (x ∷ xs) k d) ≡ true) (t x)
    (λ e _. e)
    (λ e h. place-finds t xs d (le_of_suc-le-suc h)) h

pub place-count {ℓ} : {A : Type ℓ} (t : A → Bool) (l : List A) → 0 < count t l → place t l < length l
unfolding place count
place-count t [] h = absurd (not-suc-le-zero h)
place-count t (x ∷ xs) h =
    by-test (t x)
    (λ e. rw e (omega arith))
    (λ e. rw e (suc-le-suc (place-count t xs (rw e at h))))

pub get_d-out {ℓ} : {A : Type ℓ} (l : List A) (i : ℕ) (d : A) → length l ≤ i → get_or l i d ≡ d
get_d-out l i d h = get_or-eq_default l d h

-- within a list, what is read does not depend on what stands for absence
pub get_d-same {ℓ} : {A : Type ℓ} (l : List A) (i : ℕ) (d e : A) → i < length l → get_or l i d ≡ get_or l i e
get_d-same [] i d e h = absurd (not-suc-le-zero h)
get_d-same (x ∷ l) zero d e h = refl
get_d-same (x ∷ l) (suc i) d e h = get_d-same l i d e (le_of_suc-le-suc h)

pub same-eq : (xs ys : List ℕ) → same xs ys ≡ true → xs ≡ ys
unfolding same
same-eq [] [] e = refl
same-eq [] (y ∷ ys) e = cc
same-eq (x ∷ xs) [] e = cc
same-eq (x ∷ xs) (y ∷ ys) e =
    by-test (eqb x y)
    (λ h. ap₂ ◌∷◌ (eqb-true x y h) (same-eq xs ys (rw h at e)))
    (λ h. let z : false ≡ true = rw h at e in cc)

pub same_refl : (l : List ℕ) → same l l ≡ true
unfolding same
same_refl [] = refl
same_refl (x ∷ l) = rw (eq-eqb x x refl) (same_refl l)

-- as many as before, where the new one passes as the old did
pub count_set {ℓ} : {A : Type ℓ} (t : A → Bool) (l : List A) (i : ℕ) (x d : A) → t x ≡ t (get_or l i d) → count t (set l i x) ≡ count t l
unfolding count
count_set t [] i x d e = refl
count_set t (y ∷ l) zero x d e = rw e refl
count_set t (y ∷ l) (suc i) x d e = rw (count_set t l i x d e) refl

pub count-set-place {ℓ} : {A : Type ℓ} (t : A → Bool) (l : List A) (x : A) → t x ≡ false → 0 < count t l → suc (count t (set l (place t l) x)) ≡ count t l
unfolding count place
count-set-place t [] x p h = absurd (not-suc-le-zero h)
count-set-place t (y ∷ l) x p h =
    by-test (t y)
    (λ e. rw (e, p) refl)
    (λ e. rw e (rw e (count-set-place t l x p (rw e at h))))

-- one less, where the old one passed and the new one does not
pub count_less {ℓ} : {A : Type ℓ} (t : A → Bool) (l : List A) (i : ℕ) (x d : A) → t (get_or l i d) ≡ true → t x ≡ false → i < length l → suc (count t (set l i x)) ≡ count t l
unfolding count
count_less t [] i x d h p q = absurd (not-suc-le-zero q)
count_less t (y ∷ l) zero x d h p q = rw (h, p) refl
count_less t (y ∷ l) (suc i) x d h p q = by-test (t y) (λ e. rw e (ap suc (count_less t l i x d h p (le_of_suc-le-suc q)))) (λ e. rw e (count_less t l i x d h p (le_of_suc-le-suc q)))

-- going round: a place of the list whose element passes, where there is one
module _ {ℓ} {A : Type ℓ} (t : A → Bool) (i : ℕ) (l : List A) (some : 0 < count t l) where
  pub from-within : place_from t i l < length l
  unfolding place_from
  from-within =
      by-test (ltb (place t (drop i l)) (length (drop i l)))
      (λ e. rw e (omega (arith, ltb-true (place t (drop i l)) (length (drop i l)) e, length-drop i l)))
      (λ e. rw e (place-count t l some))

  pub from-passes : (d : A) → t (get_or l (place_from t i l) d) ≡ true
  unfolding place_from
  from-passes d =
      by-test (ltb (place t (drop i l)) (length (drop i l)))
      (λ e. rw e (rw (← get_or-drop i l (place t (drop i l)) d) (place-finds t (drop i l) d (ltb-true _ _ e))))
      (λ e. rw e (place-finds t l d (place-count t l some)))

-- what a search passes over does not pass the test
pub place-skips {ℓ} : {A : Type ℓ} (t : A → Bool) (l : List A) (d : A) (j : ℕ) → j < place t l → t (get_or l j d) ≡ false
unfolding place
place-skips t [] d j h = absurd (not-suc-le-zero h)
place-skips t (x ∷ l) d zero h = by-test (t x) (λ e. absurd (not-suc-le-zero (rw e at h))) (λ e. e)
place-skips t (x ∷ l) d (suc j) h = by-test (t x) (λ e. absurd (not-suc-le-zero (rw e at h))) (λ e. place-skips t l d j (le_of_suc-le-suc (rw e at h)))

module _ {ℓ} {A : Type ℓ} (t : A → Bool) (i : ℕ) (l : List A) (d : A) where
  -- from i on, up to the place that is found
  pub from-skips : (j : ℕ) → i ≤ j → j < place_from t i l → t (get_or l j d) ≡ false
  unfolding place_from
  from-skips j low high =
      by-test (ltb (place t (drop i l)) (length (drop i l)))
      (λ e. let high' : j < i + place t (drop i l) = rw e at high in
      let at : i + (j - i) ≡ j = omega arith in
      ap (λ (k : ℕ). t (get_or l k d)) (sym at) ∙ ap t (sym (get_or-drop i l (j - i) d)) ∙ place-skips t (drop i l) d (j - i) (omega arith))
      (λ e. place-skips t l d j (rw e at high))

  -- it lies before i only where none is from i on, and then it is the first of all
  pub from-round : place_from t i l < i → (j : ℕ) → i ≤ j → j < length l → t (get_or l j d) ≡ false
  unfolding place_from
  from-round round j low high =
      by-test (ltb (place t (drop i l)) (length (drop i l)))
      (λ e. let z : i + place t (drop i l) < i = rw e at round in absurd (omega arith))
      (λ e. let none = ltb-false (place t (drop i l)) (length (drop i l)) e in
      let at : i + (j - i) ≡ j = omega arith in
      ap (λ (k : ℕ). t (get_or l k d)) (sym at) ∙ ap t (sym (get_or-drop i l (j - i) d)) ∙ place-skips t (drop i l) d (j - i) (omega (arith, length-drop i l)))

  pub from_first : place_from t i l < i → (j : ℕ) → j < place_from t i l → t (get_or l j d) ≡ false
  unfolding place_from
  from_first round j high =
      by-test (ltb (place t (drop i l)) (length (drop i l)))
      (λ e. let z : i + place t (drop i l) < i = rw e at round in absurd (omega arith))
      (λ e. place-skips t l d j (rw e at high))

-- no refusal: no test applied
pub no-when : (n : ℕ) (b : Bool) (m : ℕ) → (suc n) when b else m ≡ 0 → (b ≡ false) × (m ≡ 0)
unfolding ◌when◌else◌
no-when n true m e = absurd (omega arith)
no-when n false m e = (refl, e)

-- ---- searches after `put` and `cut` at the place that a search found

module _ {ℓ} {A : Type ℓ} (t : A → Bool) where
  pub found_none : (l : List A) (d : A) → count t l ≤ 0 → get_or l (place t l) d ≡ d
  unfolding place count
  found_none [] d h = refl
  found_none (y ∷ l) d h =
      by-test (t y)
      (λ e. absurd (not-suc-le-zero (rw e at h)))
      (λ e. rw e (found_none l d (rw e at h)))

  pub found-put : (l : List A) (x d : A) → t x ≡ true → get_or (put l (place t l) x) (place t (put l (place t l) x)) d ≡ x
  unfolding place put
  found-put [] x d h = rw h refl
  found-put (y ∷ l) x d h =
      by-test (t y)
      (λ e. rw e (rw h refl))
      (λ e. rw e (rw e (found-put l x d h)))

  pub found-cut : (l : List A) (d : A) → count t l ≤ 1 → get_or (cut l (place t l)) (place t (cut l (place t l))) d ≡ d
  unfolding place cut count
  found-cut [] d h = refl
  found-cut (y ∷ l) d h =
      by-test (t y)
      (λ e. rw e (found_none l d (le_of_suc-le-suc (rw e at h))))
      (λ e. rw e (rw e (found-cut l d (rw e at h))))

  pub count-put : (l : List A) (x : A) → count t l ≤ 1 → count t (put l (place t l) x) ≤ 1
  unfolding place put count
  count-put [] x h = picked (λ (k : ℕ). k ≤ 1) (t x) (λ _. omega arith) (λ _. omega arith)
  count-put (y ∷ l) x h =
      by-test (t y)
      (λ e. rw e (picked (λ (k : ℕ). k ≤ 1) (t x) (λ _. rw e at h) (λ _. le_trans (omega arith) (rw e at h))))
      (λ e. rw e (rw e (count-put l x (rw e at h))))

  pub count_cut : (l : List A) (i : ℕ) → count t (cut l i) ≤ count t l
  unfolding cut count
  count_cut [] zero = le_refl 0
  count_cut [] (suc i) = le_refl 0
  count_cut (y ∷ l) zero = picked (λ (k : ℕ). count t l ≤ k) (t y) (λ _. omega arith) (λ _. le_refl _)
  count_cut (y ∷ l) (suc i) = by-test (t y) (λ e. rw e (suc-le-suc (count_cut l i))) (λ e. rw e (count_cut l i))

-- another search
module _ {ℓ} {A : Type ℓ} (t s : A → Bool) (apart : (x : A) → t x ≡ true → s x ≡ false) where
  pub other-put : (l : List A) (x d : A) → s x ≡ false → get_or (put l (place t l) x) (place s (put l (place t l) x)) d ≡ get_or l (place s l) d
  unfolding place put
  other-put [] x d h = rw h refl
  other-put (y ∷ l) x d h =
      by-test (t y)
      (λ e. rw e (rw (h, apart y e) refl))
      (λ e. rw e (by-test (s y) (λ k. rw k refl) (λ k. rw k (other-put l x d h))))

  pub other_cut : (l : List A) (d : A) → get_or (cut l (place t l)) (place s (cut l (place t l))) d ≡ get_or l (place s l) d
  unfolding place cut
  other_cut [] d = refl
  other_cut (y ∷ l) d =
      by-test (t y)
      (λ e. rw e (rw (apart y e) refl))
      (λ e. rw e (by-test (s y) (λ k. rw k refl) (λ k. rw k (other_cut l d))))

  pub count-other-put : (l : List A) (x : A) → s x ≡ false → count s (put l (place t l) x) ≡ count s l
  unfolding place put count
  count-other-put [] x h = rw h refl
  count-other-put (y ∷ l) x h =
      by-test (t y)
      (λ e. rw e (rw (h, apart y e) refl))
      (λ e. rw e (rw (count-other-put l x h) refl))

-- ---- the place of the only one

pub count-some {ℓ} : {A : Type ℓ} (t : A → Bool) (l : List A) (i : ℕ) (d : A) → i < length l → t (get_or l i d) ≡ true → 0 < count t l
unfolding count
count-some t [] i d h e = absurd (not-suc-le-zero h)
count-some t (x ∷ l) zero d h e = rw e (omega arith)
count-some t (x ∷ l) (suc i) d h e = picked (λ (k : ℕ). 0 < k) (t x) (λ _. omega arith) (λ _. count-some t l i d (le_of_suc-le-suc h) e)

pub place-only {ℓ} : {A : Type ℓ} (t : A → Bool) (l : List A) (i : ℕ) (d : A) → i < length l → t (get_or l i d) ≡ true → count t l ≤ 1 → place t l ≡ i
unfolding count place
place-only t [] i d h e o = absurd (not-suc-le-zero h)
place-only t (x ∷ l) zero d h e o = rw e refl
place-only t (x ∷ l) (suc i) d h e o =
    by-test (t x)
    (λ k. let some_one = count-some t l i d (le_of_suc-le-suc h) e in
    let o' : suc (count t l) ≤ 1 = rw k at o in absurd (omega arith))
    (λ k. rw k (ap suc (place-only t l i d (le_of_suc-le-suc h) e (rw k at o))))

pub same-no : (a b : List ℕ) → same a b ≡ false → a ≡ b → ⊥
same-no a b n e = let z : true ≡ false = sym (same_refl a) ∙ ap (same a) e ∙ n in let z' : ◌≡◌ {A = ℕ} 0 1 = cc in omega arith

pub same-flip : (x y : List ℕ) → same x y ≡ false → same y x ≡ false
same-flip x y n =
    by-test (same y x)
    (λ e. absurd (same-no x y n (sym (same-eq y x e))))
    (λ e. e)

-- one more than before, where the new one passes and the old one did not
pub count-new {ℓ} : {A : Type ℓ} (t : A → Bool) (l : List A) (i : ℕ) (x d : A) → t (get_or l i d) ≡ false → t x ≡ true → i < length l → count t (set l i x) ≡ suc (count t l)
unfolding count
count-new t [] i x d h p q = absurd (not-suc-le-zero q)
count-new t (y ∷ l) zero x d h p q = rw (h, p) refl
count-new t (y ∷ l) (suc i) x d h p q = by-test (t y) (λ e. rw (e, count-new t l i x d h p (le_of_suc-le-suc q)) refl) (λ e. rw (e, count-new t l i x d h p (le_of_suc-le-suc q)) refl)

pub positive : (k : ℕ) → (k ≡ 0 → ⊥) → 0 < k
positive zero h = absurd (h refl)
positive (suc k) h = omega arith

pub append-nil {ℓ} : {A : Type ℓ} (l : List A) → l ++ [] ≡ l
append-nil [] = refl
append-nil (x ∷ l) = ap (◌∷◌ x) (append-nil l)

-- what every element is, stored over one of them
pub set-replicate {ℓ} : {A : Type ℓ} (n u : ℕ) (x : A) → set (replicate n x) u x ≡ replicate n x
set-replicate zero u x = refl
set-replicate (suc n) zero x = refl
set-replicate (suc n) (suc u) x = ap (λ l. x ∷ l) (set-replicate n u x)

-- ---- some, or none

pub any-count {ℓ} : {A : Type ℓ} (t : A → Bool) (l : List A) → any t l ≡ false → count t l ≡ 0
unfolding any count
any-count t [] h = refl
any-count t (x ∷ l) h = by-test (t x) (λ e. absurd (let z : true ≡ false = rw e at h in let z' : ◌≡◌ {A = ℕ} 0 1 = cc in omega arith)) (λ e. rw e (any-count t l (rw e at h)))

pub count-any {ℓ} : {A : Type ℓ} (t : A → Bool) (l : List A) → count t l ≡ 0 → any t l ≡ false
unfolding any count
count-any t [] h = refl
count-any t (x ∷ l) h = by-test (t x) (λ e. absurd (let z : suc (count t l) ≡ 0 = rw e at h in omega arith)) (λ e. rw e (count-any t l (rw e at h)))

-- and read at any place
pub get_d-all {ℓ} : {A : Type ℓ} (n i : ℕ) (x : A) → get_or (replicate n x) i x ≡ x
get_d-all zero i x = refl
get_d-all (suc n) zero x = refl
get_d-all (suc n) (suc i) x = get_d-all n i x
