-- Laws of `tab`: a list given by its elements, searched, counted, and changed in one place. Assumes nothing.
use Prim.Native.Nat.{ℕ, zero, suc, ◌+◌, ◌-◌, ◌≤◌, ◌<◌, zero-le, suc-le-suc}
use native.Mathlib.Nat.{le_of_suc-le-suc, not-suc-le-zero}
use native.Mathlib.Numerals.{add-one}
use native.Mathlib.Omega.{arith}
use mathlib.Core.Path.{◌≡◌, refl, sym, ap, ◌∙◌}
use mathlib.Core.Bool.{Bool, true, false}
use mathlib.Core.List.{List, [], ◌∷◌, ◌++◌}
use lib.ListN.{length, take, drop, get_or, set, length-set, drop_of_length-le, length-append, length-drop, get_or-append}
use lib.Seq.{get_or_at, get_or-take, get_or-drop, get_or-append-add, length-take-le, drop-cons, ext_get_or, get_or-set_same, get_or-set_other}
use lib.Dec.{ltb, leb, eqb}
use borrow.Author.Tests.{ltb-true, ltb-false, leb-true, leb-false, eqb-true, eqb-false}
use Rattle.meaning.specs.Octets.{place, count, put, cut}
use Rattle.meaning.specs.Lists.{by-test}
use Rattle.octets.specs.Part.{tab}

-- ---- a search that found none from place i to place k, and none at k

pub none_more : (t : ℕ → Bool) (i k : ℕ) → ((j : ℕ) → i ≤ j → j < k → t j ≡ false) → t k ≡ false → (j : ℕ) → i ≤ j → j < k + 1 → t j ≡ false
none_more t i k g e j a b = by-test (ltb j k) (λ c. g j a (ltb-true j k c)) (λ c. let q : j ≡ k = omega (arith, ltb-false j k c) in rw q e)

-- ---- `tab`

module _ {ℓ} {A : Type ℓ} where
  pub tab-length : (n : ℕ) (f : ℕ → A) → length (tab n f) ≡ n
  unfolding tab
  tab-length zero f = refl
  tab-length (suc n) f = ap suc (tab-length n (λ i. f (suc i)))

  pub tab-get : (n : ℕ) (f : ℕ → A) (i : ℕ) (d : A) → i < n → get_or (tab n f) i d ≡ f i
  unfolding tab
  tab-get zero f i d h = absurd (not-suc-le-zero h)
  tab-get (suc n) f zero d h = refl
  tab-get (suc n) f (suc i) d h = tab-get n (λ i. f (suc i)) i d (le_of_suc-le-suc h)

  pub tab-ext : (n : ℕ) (f g : ℕ → A) → ((i : ℕ) → i < n → f i ≡ g i) → tab n f ≡ tab n g
  unfolding tab
  tab-ext zero f g h = refl
  tab-ext (suc n) f g h = cc (h zero (suc-le-suc zero-le), tab-ext n (λ i. f (suc i)) (λ i. g (suc i)) (λ i k. h (suc i) (suc-le-suc k)))

  -- a list is the tab of its elements
  pub tab-is : (l : List A) (n : ℕ) (f : ℕ → A) (d : A) → length l ≡ n → ((i : ℕ) → i < n → get_or l i d ≡ f i) → l ≡ tab n f
  tab-is l n f d e h =
      ext_get_or d l (tab n f) (e ∙ sym (tab-length n f)) (λ i k. let k' : i < n = rw e at k in h i k' ∙ sym (tab-get n f i d k'))

  -- one element anew
  pub tab-set : (n : ℕ) (f g : ℕ → A) (i : ℕ) (v : A) → i < n → g i ≡ v → ((j : ℕ) → (j ≡ i → ⊥) → j < n → g j ≡ f j) → tab n g ≡ set (tab n f) i v
  tab-set n f g i v h e other =
      sym (tab-is (set (tab n f) i v) n g v (length-set (tab n f) i v ∙ tab-length n f) (λ j k. at j k (eqb j i) refl))
    where
      at : (j : ℕ) → j < n → (b : Bool) → eqb j i ≡ b → get_or (set (tab n f) i v) j v ≡ g j
      at j k true t =
          let p : j ≡ i = eqb-true j i t in
          rw p (get_or-set_same (tab n f) i v v (rw tab-length h) ∙ sym e)
      at j k false t =
          get_or-set_other (tab n f) i j v v (eqb-false j i t) ∙ tab-get n f j v k ∙ sym (other j (eqb-false j i t) k)

  -- one element more at the end
  pub tab-snoc : (n : ℕ) (f g : ℕ → A) (v : A) → ((j : ℕ) → j < n → g j ≡ f j) → g n ≡ v → tab (n + 1) g ≡ tab n f ++ (v ∷ [])
  tab-snoc n f g v h e =
      sym (tab-is (tab n f ++ (v ∷ [])) (n + 1) g v (length-append (tab n f) (v ∷ []) ∙ ap (λ (m : ℕ). m + 1) (tab-length n f)) (λ j k. at j k (ltb j n) refl))
    where
      at : (j : ℕ) → j < n + 1 → (b : Bool) → ltb j n ≡ b → get_or (tab n f ++ (v ∷ [])) j v ≡ g j
      at j k true t =
          let l : j < n = ltb-true j n t in
          get_or-append (tab n f) (v ∷ []) v j (rw tab-length l) ∙ tab-get n f j v l ∙ sym (h j l)
      at j k false t =
          let q : j ≡ n = omega (arith, ltb-false j n t) in
          rw q (get_or_at (tab n f) v [] v n (tab-length n f) ∙ sym e)

  -- one element less
  pub tab-cut : (n i : ℕ) (f g : ℕ → A) (d : A) → i < n → ((j : ℕ) → j < i → g j ≡ f j) → ((j : ℕ) → i ≤ j → j + 1 < n → g j ≡ f (j + 1)) → tab (n - 1) g ≡ cut (tab n f) i
  unfolding cut
  tab-cut n i f g d hi low high =
      sym (tab-is (take i (tab n f) ++ drop (suc i) (tab n f)) (n - 1) g d (simp (length-append, length-drop, tab-length) (omega (arith, lt))) (λ j k. at j k (ltb j i) refl))
    where
      lt : length (take i (tab n f)) ≡ i
      lt = length-take-le i (tab n f) (rw tab-length (omega arith))

      at : (j : ℕ) → j < n - 1 → (b : Bool) → ltb j i ≡ b → get_or (take i (tab n f) ++ drop (suc i) (tab n f)) j d ≡ g j
      at j k true t =
          let l : j < i = ltb-true j i t in
          get_or-append (take i (tab n f)) (drop (suc i) (tab n f)) d j (omega (arith, lt)) ∙ get_or-take i (tab n f) j d l ∙ tab-get n f j d (omega arith) ∙ sym (low j l)
      at j k false t =
          let l : i ≤ j = ltb-false j i t in
          let q : j ≡ length (take i (tab n f)) + (j - i) = omega (arith, lt) in
          let q' : suc i + (j - i) ≡ j + 1 = omega arith in
          ap (λ (m : ℕ). get_or (take i (tab n f) ++ drop (suc i) (tab n f)) m d) q
          ∙ get_or-append-add (take i (tab n f)) (drop (suc i) (tab n f)) (j - i) d
          ∙ get_or-drop (suc i) (tab n f) (j - i) d
          ∙ ap (λ (m : ℕ). get_or (tab n f) m d) q'
          ∙ tab-get n f (j + 1) d (omega arith)
          ∙ sym (high j l (omega arith))

  -- ---- a search from the front

  pub place-start : (t : A → Bool) (l : List A) → place t l ≡ 0 + place t (drop 0 l)
  place-start t l = omega arith

  pub place-hit : (t : A → Bool) (n : ℕ) (f : ℕ → A) (i : ℕ) → i < n → t (f i) ≡ true → i + place t (drop i (tab n f)) ≡ i
  unfolding place
  place-hit t n f i h e = rw (drop-cons (tab n f) i (f i) (rw tab-length h), tab-get n f i (f i) h, e) (omega arith)

  pub place-miss : (t : A → Bool) (n : ℕ) (f : ℕ → A) (i : ℕ) → i < n → t (f i) ≡ false → i + place t (drop i (tab n f)) ≡ i + 1 + place t (drop (i + 1) (tab n f))
  unfolding place
  place-miss t n f i h e = rw (drop-cons (tab n f) i (f i) (rw tab-length h), tab-get n f i (f i) h, e, add-one i) (omega arith)

  -- none of those from place i to place k passes
  pub place-past : (t : A → Bool) (n : ℕ) (f : ℕ → A) (i k : ℕ) → i ≤ k → k ≤ n → ((j : ℕ) → i ≤ j → j < k → t (f j) ≡ false) → i + place t (drop i (tab n f)) ≡ k + place t (drop k (tab n f))
  place-past t n f i zero le h g = let q : i ≡ 0 = omega arith in rw q refl
  place-past t n f i (suc k) le h g =
      by-test (leb i k)
      (λ c. let low = leb-true i k c in place-past t n f i k low (omega arith) (λ j a b. g j a (omega arith)) ∙ place-miss t n f k (omega arith) (g k low (omega arith)) ∙ rw (add-one k) refl)
      (λ c. let q : i ≡ suc k = omega (arith, leb-false i k c) in rw q refl)

  pub place_none : (t : A → Bool) (n : ℕ) (f : ℕ → A) (i : ℕ) → n ≤ i → i ≤ n → i + place t (drop i (tab n f)) ≡ n
  unfolding place
  place_none t n f i h k = rw (drop_of_length-le (tab n f) {i = i} (rw tab-length h)) (omega arith)

  -- ---- a count from the front: k passed before place i

  pub count-hit : (t : A → Bool) (n : ℕ) (f : ℕ → A) (i k : ℕ) → i < n → t (f i) ≡ true → k + count t (drop i (tab n f)) ≡ k + 1 + count t (drop (i + 1) (tab n f))
  unfolding count
  count-hit t n f i k h e = rw (drop-cons (tab n f) i (f i) (rw tab-length h), tab-get n f i (f i) h, e, add-one i) (omega arith)

  pub count-miss : (t : A → Bool) (n : ℕ) (f : ℕ → A) (i k : ℕ) → i < n → t (f i) ≡ false → k + count t (drop i (tab n f)) ≡ k + count t (drop (i + 1) (tab n f))
  unfolding count
  count-miss t n f i k h e = rw (drop-cons (tab n f) i (f i) (rw tab-length h), tab-get n f i (f i) h, e, add-one i) (omega arith)

  pub count_none : (t : A → Bool) (n : ℕ) (f : ℕ → A) (i k : ℕ) → n ≤ i → k + count t (drop i (tab n f)) ≡ k
  unfolding count
  count_none t n f i k h = rw (drop_of_length-le (tab n f) {i = i} (rw tab-length h)) (omega arith)

  -- ---- `put` and `cut` by places

  pub put_in : (l : List A) (i : ℕ) (v : A) → i < length l → put l i v ≡ set l i v
  unfolding put
  put_in [] i v h = absurd (not-suc-le-zero h)
  put_in (x ∷ l) zero v h = refl
  put_in (x ∷ l) (suc i) v h = ap (λ (k : List A). x ∷ k) (unfold put in put_in l i v (le_of_suc-le-suc h))

  pub put-end : (l : List A) (i : ℕ) (v : A) → i ≡ length l → put l i v ≡ l ++ (v ∷ [])
  unfolding put
  put-end l i v e = rw e (go l)
    where
      go : (l : List A) → take (length l) l ++ (v ∷ drop (suc (length l)) l) ≡ l ++ (v ∷ [])
      go [] = refl
      go (x ∷ l) = ap (λ (k : List A). x ∷ k) (go l)

  pub cut-end : (l : List A) (v : A) (i : ℕ) → i ≡ length l → cut (l ++ (v ∷ [])) i ≡ l
  unfolding cut
  cut-end l v i e = rw e (go l)
    where
      go : (l : List A) → take (length l) (l ++ (v ∷ [])) ++ drop (suc (length l)) (l ++ (v ∷ [])) ≡ l
      go [] = refl
      go (x ∷ l) = ap (λ (k : List A). x ∷ k) (go l)
