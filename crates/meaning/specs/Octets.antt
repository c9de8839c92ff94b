-- Searches in lists, tests of equality, and numbers as octets: what the other modules are made of.
-- Assumes nothing.
use Rattle.std.specs.Prelude.{ℕ, suc, ◌+◌, ◌*◌, ◌/◌, ◌%◌, Bool, true, false, List, [], ◌∷◌, ◌++◌, take, drop, get_or, length, eqb, ltb}

-- one of two; with `let`-bound or folded branches, the one not taken is not computed
abbrev pub pick {ℓ} : {X : Type ℓ} → Bool → X → X → X
pick true x y = x
pick false x y = y

-- the first place whose element passes the test; the length where none does
unfoldable pub place {ℓ} : {A : Type ℓ} → (A → Bool) → List A → ℕ
place t [] = 0
place t (x ∷ xs) = let later = suc (place t xs) in pick (t x) 0 later

-- the first place from i on whose element passes the test; where none does, going round, the first of all
unfoldable pub place_from {ℓ} : {A : Type ℓ} → (A → Bool) → ℕ → List A → ℕ
place_from t i l =
    let later = place t (drop i l) in
    pick (ltb later (length (drop i l))) (i + later) (place t l)

-- how many elements pass the test
unfoldable pub count {ℓ} : {A : Type ℓ} → (A → Bool) → List A → ℕ
count t [] = 0
count t (x ∷ xs) = let others = count t xs in pick (t x) (suc others) others

-- some element passes the test
unfoldable pub any {ℓ} : {A : Type ℓ} → (A → Bool) → List A → Bool
any t [] = false
any t (x ∷ xs) = let later = any t xs in pick (t x) true later

-- whether every element passes the test
unfoldable pub all {ℓ} : {A : Type ℓ} → (A → Bool) → List A → Bool
all t [] = true
all t (x ∷ xs) = let rest = all t xs in pick (t x) rest false

-- `place` is the length where nothing was found, and there `put` appends and `cut` removes nothing
unfoldable pub put {ℓ} : {A : Type ℓ} → List A → ℕ → A → List A
put l i a = take i l ++ a ∷ drop (suc i) l

unfoldable pub cut {ℓ} : {A : Type ℓ} → List A → ℕ → List A
cut l i = take i l ++ drop (suc i) l

-- the same octets
unfoldable pub same : List ℕ → List ℕ → Bool
same [] [] = true
same [] (y ∷ ys) = false
same (x ∷ xs) [] = false
same (x ∷ xs) (y ∷ ys) = let rest = same xs ys in pick (eqb x y) rest false

-- numbers on the wire: big-endian, in two octets and in four
unfoldable pub two : ℕ → List ℕ
two n = n / 256 % 256 ∷ n % 256 ∷ []

unfoldable pub four : ℕ → List ℕ
four n = n / 16777216 % 256 ∷ n / 65536 % 256 ∷ n / 256 % 256 ∷ n % 256 ∷ []

-- the same read back: two octets, or four, from place i on
unfoldable pub two_at : List ℕ → ℕ → ℕ
two_at s i = get_or s i 0 * 256 + get_or s (i + 1) 0

unfoldable pub four_at : List ℕ → ℕ → ℕ
four_at s i = two_at s i * 65536 + two_at s (i + 2)

-- ---- refusals

-- `2 when a else 3 when b else 0`: the first number whose test applies. Where they stand by rising number that is the lowest.
infixr 10 ◌when◌else◌
unfoldable pub ◌when◌else◌ : ℕ → Bool → ℕ → ℕ
n when true else m = n
n when false else m = m
