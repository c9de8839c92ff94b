-- The branches of a tree: how many, and whether one stands beside those of two neighbours. Assumes nothing.
use Prim.Native.Nat.{ℕ, zero, suc, ◌+◌, ◌-◌, ◌≤◌, ◌<◌}
use native.Mathlib.Nat.{not-suc-le-zero, le_of_suc-le-suc}
use native.Mathlib.Numerals.{add-one}
use native.Mathlib.Omega.{arith}
use mathlib.Core.Path.{◌≡◌, refl, sym, ap, ◌∙◌}
use mathlib.Core.Bool.{Bool, true, false, not}
use mathlib.Core.List.{List, [], ◌∷◌}
use mathlib.Core.Logic.{◌⊎◌, ⊎_elim}
use lib.ListN.{length, drop, get_or, set, length-set, drop_of_length-le}
use lib.Seq.{get_or-set_same, get_or-set_other, set_out, set-set, drop-cons}
use lib.Dec.{eqb, leb}
use mir.Val.{bool_byte}
use borrow.Author.Tests.{eqb-true, eqb-false, leb-true, leb-false, lt-ltb}
use Rattle.meaning.specs.Octets.{pick, any, count}
use Rattle.meaning.specs.Lists.{by-test, get_d-out, positive}
use Rattle.meaning.specs.Card.{is_branch}

-- ---- how many there are

-- whether x is a branch, as a number
abbrev pub one : ℕ → ℕ
one x = pick (is_branch x) 1 0

pub one_none : (x : ℕ) → x ≡ 0 → 0 ≡ one x
unfolding is_branch
one_none x z = rw z refl

pub one-some : (x : ℕ) → (x ≡ 0 → ⊥) → 1 ≡ one x
unfolding is_branch
one-some x z = rw (lt-ltb 0 x (positive x z)) refl

-- whether it is none
abbrev pub none : ℕ → ℕ
none x = pick (is_branch x) 0 1

-- the test of a program, as a number
pub one-byte : (x : ℕ) → bool_byte (not (eqb x 0)) ≡ one x
one-byte x = by-test (eqb x 0) (λ t. rw t (one_none x (eqb-true x 0 t))) (λ t. rw t (one-some x (eqb-false x 0 t)))

pub none-byte : (x : ℕ) → bool_byte (eqb x 0) ≡ none x
unfolding is_branch
none-byte x = by-test (eqb x 0) (λ t. rw (eqb-true x 0 t) refl) (λ t. rw (t, lt-ltb 0 x (positive x (eqb-false x 0 t))) refl)

pub byte-most : (b : Bool) → bool_byte b ≤ 1
byte-most true = omega arith
byte-most false = omega arith

-- of the first n places k have none: with these, all that there are make n and those behind
pub count-step : (bs : List ℕ) (n k all r b : ℕ) → all + k ≡ n + count is_branch (drop n bs) → n < length bs → b ≡ get_or bs n 0 → r ≡ none b → all + (k + r) ≡ n + 1 + count is_branch (drop (n + 1) bs)
unfolding count
count-step bs n k all r b so_far h e f =
    by-test (is_branch (get_or bs n 0))
    (λ t.
    let step : all + k ≡ n + suc (count is_branch (drop (suc n) bs)) = rw (drop-cons bs n 0 h, t) at so_far in
    let is : r ≡ 0 = rw (e, t) at f in
    rw (add-one n) (omega arith))
    (λ t.
    let step : all + k ≡ n + count is_branch (drop (suc n) bs) = rw (drop-cons bs n 0 h, t) at so_far in
    let is : r ≡ 1 = rw (e, t) at f in
    rw (add-one n) (omega arith))

pub count-all : (bs : List ℕ) (n k all : ℕ) → all + k ≡ n + count is_branch (drop n bs) → length bs ≤ n → n - k ≡ all
unfolding count
count-all bs n k all so_far h = let done : all + k ≡ n + 0 = rw (drop_of_length-le bs {i = n} h) at so_far in omega arith

-- ---- once one is another

pub count_set : (bs : List ℕ) (n x : ℕ) → n < length bs → count is_branch (set bs n x) + one (get_or bs n 0) ≡ count is_branch bs + one x
unfolding count
count_set [] n x h = absurd (not-suc-le-zero h)
count_set (b ∷ bs) zero x h =
    by-test (is_branch b)
    (λ t. by-test (is_branch x) (λ u. rw (t, u) (omega arith)) (λ u. rw (t, u) (omega arith)))
    (λ t. by-test (is_branch x) (λ u. rw (t, u) (omega arith)) (λ u. rw (t, u) (omega arith)))
count_set (b ∷ bs) (suc n) x h =
    let less = count_set bs n x (le_of_suc-le-suc h) in
    by-test (is_branch b) (λ t. rw t (omega arith)) (λ t. rw t (omega arith))

-- a place behind the last one changes nothing
count-clear : (bs : List ℕ) (n : ℕ) → count is_branch (set bs n 0) + one (get_or bs n 0) ≡ count is_branch bs
count-clear bs n =
    by-test (leb (length bs) n)
    (λ t.
    let out : length bs ≤ n = leb-true (length bs) n t in
    let none : 0 ≡ one (get_or bs n 0) = one_none (get_or bs n 0) (get_d-out bs n 0 out) in
    rw (set_out bs n 0 out) (omega arith))
    (λ t. let z : 0 ≡ one 0 = one_none 0 refl in omega (arith, count_set bs n 0 (leb-false (length bs) n t), z))

pub one-within : (bs : List ℕ) (n : ℕ) → one (get_or bs n 0) ≤ count is_branch bs
one-within bs n = omega (arith, count-clear bs n)

-- ---- the branches but one, from the front

module _ (bs : List ℕ) (but n : ℕ) where
  unbranched : n < length bs → get_or (set bs but 0) n 0 ≡ 0 → any is_branch (drop n (set bs but 0)) ≡ any is_branch (drop (n + 1) (set bs but 0))
  unfolding any is_branch
  unbranched h e = rw (drop-cons (set bs but 0) n 0 (rw length-set h), e, add-one n) refl

  pub others-but : n < length bs → n ≡ but → any is_branch (drop n (set bs but 0)) ≡ any is_branch (drop (n + 1) (set bs but 0))
  others-but h e = unbranched h (rw (← e) (get_or-set_same bs n 0 0 h))

  pub others-miss : (r : ℕ) → n < length bs → (n ≡ but → ⊥) → r ≡ get_or bs n 0 → r ≡ 0 → any is_branch (drop n (set bs but 0)) ≡ any is_branch (drop (n + 1) (set bs but 0))
  others-miss r h ne e z = unbranched h (get_or-set_other bs but n 0 0 ne ∙ sym e ∙ z)

  pub others-hit : (r : ℕ) → n < length bs → (n ≡ but → ⊥) → r ≡ get_or bs n 0 → (r ≡ 0 → ⊥) → any is_branch (drop n (set bs but 0)) ≡ true
  unfolding any is_branch
  others-hit r h ne e z = rw (drop-cons (set bs but 0) n 0 (rw length-set h), get_or-set_other bs but n 0 0 ne, ← e, lt-ltb 0 r (positive r z)) refl

  pub others-none : length bs ≤ n → any is_branch (drop n (set bs but 0)) ≡ false
  unfolding any
  others-none h = rw (drop_of_length-le (set bs but 0) {i = n} (rw length-set h)) refl

-- ---- but those of two neighbours

-- what passes behind some place passes
any-behind {ℓ} : {A : Type ℓ} (t : A → Bool) (n : ℕ) (l : List A) → any t (drop n l) ≡ true → any t l ≡ true
unfolding any
any-behind t zero l e = e
any-behind t (suc n) [] e = e
any-behind t (suc n) (x ∷ l) e = by-test (t x) (λ h. rw h refl) (λ h. rw h (any-behind t n l e))

module _ (bs : List ℕ) (n but : ℕ) where
  -- from place k on
  abbrev Rest : ℕ → Bool
  Rest k = any is_branch (drop k (set (set bs n 0) but 0))

  pub other-hit : (k r : ℕ) → k < length bs → r ≡ get_or bs k 0 → (r ≡ 0 → ⊥) → (k ≡ n → ⊥) → (k ≡ but → ⊥) → Rest k ≡ true
  other-hit k r h e z kn kb = others-hit (set bs n 0) but k r (rw length-set h) kb (e ∙ sym (get_or-set_other bs n k 0 0 kn)) z

  zero-then : (k : ℕ) → k < length bs → get_or (set bs n 0) k 0 ≡ 0 → Rest k ≡ Rest (k + 1)
  zero-then k h z =
      by-test (eqb k but)
      (λ t. others-but (set bs n 0) but k (rw length-set h) (eqb-true k but t))
      (λ t. others-miss (set bs n 0) but k 0 (rw length-set h) (eqb-false k but t) (sym z) refl)

  pub other-zero : (k r : ℕ) → k < length bs → r ≡ get_or bs k 0 → r ≡ 0 → Rest k ≡ Rest (k + 1)
  other-zero k r h e z =
      zero-then k h
      (by-test (eqb k n)
      (λ t. let q : k ≡ n = eqb-true k n t in rw (← q) (get_or-set_same bs k 0 0 h))
      (λ t. get_or-set_other bs n k 0 0 (eqb-false k n t) ∙ sym e ∙ z))

  pub other-not : (k : ℕ) → k < length bs → (k ≡ n) ⊎ (k ≡ but) → Rest k ≡ Rest (k + 1)
  other-not k h =
      ⊎_elim
      (λ q. zero-then k h (rw (← q) (get_or-set_same bs k 0 0 h)))
      (λ q. others-but (set bs n 0) but k (rw length-set h) q)

  -- once neighbour n's branch is x
  pub one-leads : (x : ℕ) → (x ≡ 0 → ⊥) → n < length bs → (n ≡ but → ⊥) → any is_branch (set (set bs n x) but 0) ≡ true
  one-leads x z h nb =
      any-behind is_branch n (set (set bs n x) but 0) (others-hit (set bs n x) but n x (rw length-set h) nb (sym (get_or-set_same bs n x 0 h)) z)

  pub one-not : (x : ℕ) → (x ≡ 0) ⊎ ((length bs ≤ n) ⊎ (n ≡ but)) → set (set bs n 0) but 0 ≡ set (set bs n x) but 0
  one-not x =
      ⊎_elim
      (λ z. rw z refl)
      (⊎_elim
      (λ h. ap (λ (l : List ℕ). set l but 0) (set_out bs n 0 h ∙ sym (set_out bs n x h)))
      (λ q. rw (← q) (set-set bs n 0 0 ∙ sym (set-set bs n x 0))))
