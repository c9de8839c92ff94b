-- Octets laid one behind the other, row by row. Assumes nothing.
use Prim.Native.Nat.{ℕ, zero, suc, ◌+◌, ◌-◌, ◌≤◌, ◌<◌}
use native.Mathlib.Nat.{not-suc-le-zero}
use native.Mathlib.Numerals.{add-one}
use native.Mathlib.Omega.{arith}
use mathlib.Core.Path.{◌≡◌, refl, sym, ap, ap₂, ◌∙◌}
use mathlib.Core.List.{List, [], ◌∷◌, ◌++◌, append_assoc}
use lib.ListN.{length, length-append}
use lib.Dec.{eqb}
use borrow.Author.Tests.{eqb-true, eqb-false}
use Rattle.meaning.specs.Lists.{by-test, append-nil}
use Rattle.octets.specs.Part.{mid, tab}
use Rattle.octets.proofs.Parts.{mid_none}
use Rattle.save_texts.specs.Laid.{laid}
use Rattle.save_texts.proofs.Parts.{laid_then, laid-length}

-- ---- rows: g 0, g 1, .., g (n - 1)

unfoldable pub joined : ℕ → (ℕ → List ℕ) → List ℕ
joined zero g = []
joined (suc n) g = joined n g ++ g n

pub joined-more : (n : ℕ) (g : ℕ → List ℕ) → joined (n + 1) g ≡ joined n g ++ g n
unfolding joined
joined-more n g = rw (add-one n) refl

pub joined-first : (n : ℕ) (g : ℕ → List ℕ) → joined (suc n) g ≡ g 0 ++ joined n (λ i. g (suc i))
unfolding joined
joined-first zero g = sym (append-nil (g 0))
joined-first (suc n) g = ap (λ (l : List ℕ). l ++ g (suc n)) (joined-first n g) ∙ append_assoc (g 0) (joined n (λ i. g (suc i))) (g (suc n))

pub joined-ext : (n : ℕ) (f g : ℕ → List ℕ) → ((i : ℕ) → i < n → f i ≡ g i) → joined n f ≡ joined n g
unfolding joined
joined-ext zero f g h = refl
joined-ext (suc n) f g h = ap₂ ◌++◌ (joined-ext n f g (λ i k. h i (omega arith))) (h n (omega arith))

joined-within : (m n : ℕ) (g : ℕ → List ℕ) → m < n → length (joined m g) + length (g m) ≤ length (joined n g)
unfolding joined
joined-within m zero g h = absurd (not-suc-le-zero h)
joined-within m (suc n) g h =
    by-test (eqb m n)
    (λ t. rw (eqb-true m n t, length-append (joined n g) (g n)) (omega arith))
    (λ t. omega (arith, length-append (joined n g) (g n), joined-within m n g (omega (arith, eqb-false m n t))))

-- a list's rows, where each element has one
module _ {A : Type 0} (one : A → List ℕ) (all : List A → List ℕ) (none : all [] ≡ []) (more : (x : A) (xs : List A) → all (x ∷ xs) ≡ one x ++ all xs) where
  pub all-joined : (n : ℕ) (f : ℕ → A) → all (tab n f) ≡ joined n (λ i. one (f i))
  unfolding tab joined
  all-joined zero f = none
  all-joined (suc n) f = more (f 0) (tab n (λ i. f (suc i))) ∙ ap (λ (l : List ℕ). one (f 0) ++ l) (all-joined n (λ i. f (suc i))) ∙ sym (joined-first n (λ i. one (f i)))

-- What a loop lays row by row: so many rows, from a place of the output on; they are the whole, and it finds room.
pub record Lot : Type 0 where
  pub row : ℕ → List ℕ
  pub many : ℕ
  pub from : ℕ
  pub whole : List ℕ
  pub out : List ℕ
  pub all : whole ≡ joined many row
  pub fits : from + length whole ≤ length out

-- i of n rows stand in ys, and the next comes at `at`
abbrev pub Rows : (ℕ → List ℕ) → ℕ → ℕ → List ℕ → ℕ → ℕ → List ℕ → Type 0
Rows g n from xs i at ys = (i ≤ n) × (length ys ≡ length xs) × (at ≡ from + length (joined i g)) × (ys ≡ laid from (joined i g) xs)

abbrev pub Stand : Lot → ℕ → ℕ → List ℕ → Type 0
Stand t = Rows t.row t.many t.from t.out

module _ (t : Lot) where
  within : (i : ℕ) → i < t.many → t.from + length (joined i t.row) + length (t.row i) ≤ length t.out
  within i h = omega (arith, joined-within i t.many t.row h, ap length t.all, t.fits)

  pub rows_none : Stand t 0 t.from t.out
  unfolding joined
  rows_none = (omega arith, refl, omega arith, mid_none t.from t.out)

  module _ (i at : ℕ) (ys : List ℕ) (rows : Stand t i at ys) where
    pub rows-room : (w : ℕ) → i < t.many → length (t.row i) ≡ w → at + w ≤ length ys
    rows-room w h ew = omega (arith, within i h)

    pub rows_more : (k : ℕ) (r zs : List ℕ) → i < t.many → r ≡ t.row i → length (t.row i) ≡ k → zs ≡ mid at k ys r → Stand t (i + 1) (at + k) zs
    rows_more k r zs h er ek ez =
        let w = within i h in
        let stood = joined i t.row in
        let j : joined (i + 1) t.row ≡ stood ++ t.row i = joined-more i t.row in
        let e : zs ≡ laid t.from (stood ++ t.row i) t.out =
        ez ∙ ap (mid at k ys) er ∙ laid_then t.from at k stood (t.row i) t.out ys (omega arith) rows.3 rows.2 ek in
        let l : length (stood ++ t.row i) ≡ length stood + length (t.row i) = length-append stood (t.row i) in
        rw j (omega arith, ap length e ∙ laid-length t.from (stood ++ t.row i) t.out (omega arith), omega arith, e)

    -- a row written to the part that is lent for it
    pub rows-lent : (w : ℕ) (r : List ℕ) → i < t.many → r ≡ t.row i → length (t.row i) ≡ w → Stand t (i + 1) (at + w) (mid at (at + w - at) ys r)
    rows-lent w r h er ew = let q : at + w - at ≡ w = omega arith in rw q (rows_more w r (mid at w ys r) h er ew refl)

    pub rows-done : t.many ≤ i → (ys ≡ laid t.from t.whole t.out) × (at ≡ t.from + length t.whole)
    rows-done h = let e : i ≡ t.many = omega arith in rw (t.all, ← e) (rows.3, rows.2)
