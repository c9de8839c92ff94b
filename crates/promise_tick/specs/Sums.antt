-- Sums over the numbers under n, and over boxes and their numbers.
-- Assumes nothing.
use Rattle.std.specs.Prelude.{ℕ, zero, suc, ◌+◌, ◌≤◌, ◌<◌, ◌≡◌, refl, eqb}
use Rattle.std.proofs.Common.{zero-le, not-suc-le-zero, arith, ap, eqb-true}
use Rattle.std.proofs.lemmas.Bool.{eqb-false}
use Rattle.meaning.specs.Lists.{by-test}
use Rattle.promise_tick.specs.Tick.{sum_to}
use Rattle.meaning.specs.Card.{neighbour_count}

sum-eq : (n : ℕ) (f g : ℕ → ℕ) → ((k : ℕ) → k < n → f k ≡ g k) → sum_to n f ≡ sum_to n g
unfolding sum_to
sum-eq zero f g h = refl
sum-eq (suc n) f g h = let a : f n ≡ g n = h n (omega arith) in let b : sum_to n f ≡ sum_to n g = sum-eq n f g (λ k l. h k (omega arith)) in omega arith

sum-zero : (n : ℕ) (f : ℕ → ℕ) → ((k : ℕ) → k < n → f k ≡ 0) → sum_to n f ≡ 0
unfolding sum_to
sum-zero zero f h = refl
sum-zero (suc n) f h = let a : f n ≡ 0 = h n (omega arith) in let b : sum_to n f ≡ 0 = sum-zero n f (λ k l. h k (omega arith)) in omega arith

sum-add : (n : ℕ) (f g : ℕ → ℕ) → sum_to n (λ k. f k + g k) ≡ sum_to n f + sum_to n g
unfolding sum_to
sum-add zero f g = refl
sum-add (suc n) f g = let b : sum_to n (λ k. f k + g k) ≡ sum_to n f + sum_to n g = sum-add n f g in omega arith

-- one of them is no more than the sum
sum-has : (n : ℕ) (f : ℕ → ℕ) (j : ℕ) → j < n → f j ≤ sum_to n f
unfolding sum_to
sum-has zero f j h = absurd (not-suc-le-zero h)
sum-has (suc n) f j h =
    by-test (eqb j n)
    (λ e. let z : f j ≡ f n = ap f (eqb-true j n e) in omega arith)
    (λ e. let d : j ≡ n → ⊥ = eqb-false j n e in let b : f j ≤ sum_to n f = sum-has n f j (omega arith) in omega arith)

-- all but one of them are 0
sum_one : (n : ℕ) (f : ℕ → ℕ) (j c : ℕ) → f j ≤ c → ((k : ℕ) → (k ≡ j → ⊥) → f k ≡ 0) → sum_to n f ≤ c
unfolding sum_to
sum_one zero f j c here there = zero-le
sum_one (suc n) f j c here there =
    by-test (eqb n j)
    (λ e. let s : n ≡ j = eqb-true n j e in
    let z : f n ≡ f j = ap f s in
    let b : sum_to n f ≡ 0 = sum-zero n f (λ k l. there k (λ m. omega arith)) in omega arith)
    (λ e. let z : f n ≡ 0 = there n (eqb-false n j e) in let b : sum_to n f ≤ c = sum_one n f j c here there in omega arith)

-- one of them is less by d
sum_less : (n : ℕ) (f g : ℕ → ℕ) (j d : ℕ) → j < n → f j + d ≡ g j → ((k : ℕ) → (k ≡ j → ⊥) → f k ≡ g k) → sum_to n f + d ≡ sum_to n g
unfolding sum_to
sum_less zero f g j d h here there = absurd (not-suc-le-zero h)
sum_less (suc n) f g j d h here there =
    by-test (eqb n j)
    (λ e. let s : n ≡ j = eqb-true n j e in
    let y : f n ≡ f j = ap f s in
    let z : g n ≡ g j = ap g s in
    let b : sum_to n f ≡ sum_to n g = sum-eq n f g (λ k l. there k (λ m. omega arith)) in omega arith)
    (λ e. let m : n ≡ j → ⊥ = eqb-false n j e in
    let z : f n ≡ g n = there n m in
    let b : sum_to n f + d ≡ sum_to n g = sum_less n f g j d (omega arith) here there in omega arith)

-- ---- over n boxes and their sixteen numbers

abbrev pub sums : ℕ → (ℕ → ℕ → ℕ) → ℕ
sums n f = sum_to n (λ k. sum_to neighbour_count (f k))

pub sums-add : (n : ℕ) (f g : ℕ → ℕ → ℕ) → sums n (λ k p. f k p + g k p) ≡ sums n f + sums n g
sums-add n f g =
    let a : sums n (λ k p. f k p + g k p) ≡ sum_to n (λ k. sum_to neighbour_count (f k) + sum_to neighbour_count (g k)) = sum-eq n _ _ (λ k _. sum-add neighbour_count (f k) (g k)) in
    let b : sum_to n (λ k. sum_to neighbour_count (f k) + sum_to neighbour_count (g k)) ≡ sums n f + sums n g = sum-add n (λ k. sum_to neighbour_count (f k)) (λ k. sum_to neighbour_count (g k)) in
    omega arith

pub sums-eq : (n : ℕ) (f g : ℕ → ℕ → ℕ) → ((k p : ℕ) → f k p ≡ g k p) → sums n f ≡ sums n g
sums-eq n f g h = sum-eq n _ _ (λ k _. sum-eq neighbour_count (f k) (g k) (λ p _. h k p))

pub sums-zero : (n : ℕ) (f : ℕ → ℕ → ℕ) → ((k p : ℕ) → f k p ≡ 0) → sums n f ≡ 0
sums-zero n f h = sum-zero n _ (λ k _. sum-zero neighbour_count (f k) (λ p _. h k p))

pub sums-has : (n : ℕ) (f : ℕ → ℕ → ℕ) (j q : ℕ) → j < n → q < neighbour_count → f j q ≤ sums n f
sums-has n f j q h l =
    let a : f j q ≤ sum_to neighbour_count (f j) = sum-has neighbour_count (f j) q l in
    let b : sum_to neighbour_count (f j) ≤ sums n f = sum-has n (λ k. sum_to neighbour_count (f k)) j h in
    omega arith

pub sums-one : (n : ℕ) (f : ℕ → ℕ → ℕ) (j q c : ℕ) → f j q ≤ c → ((k p : ℕ) → (k ≡ j → ⊥) → f k p ≡ 0) → ((p : ℕ) → (p ≡ q → ⊥) → f j p ≡ 0) → sums n f ≤ c
sums-one n f j q c here there beside = sum_one n (λ k. sum_to neighbour_count (f k)) j c (sum_one neighbour_count (f j) q c here beside) (λ k d. sum-zero neighbour_count (f k) (λ p _. there k p d))

pub sums-less : (n : ℕ) (f g : ℕ → ℕ → ℕ) (j q d : ℕ) → j < n → q < neighbour_count → f j q + d ≡ g j q → ((k p : ℕ) → (k ≡ j → ⊥) → f k p ≡ g k p) → ((p : ℕ) → (p ≡ q → ⊥) → f j p ≡ g j p) → sums n f + d ≡ sums n g
sums-less n f g j q d h l here there beside =
    sum_less n (λ k. sum_to neighbour_count (f k)) (λ k. sum_to neighbour_count (g k)) j d h (sum_less neighbour_count (f j) (g j) q d l here beside) (λ k m. sum-eq neighbour_count (f k) (g k) (λ p _. there k p m))
