-- Lists by their parts and by their elements: the forms in which slices and the card's memory are spoken of. Assumes nothing.
use Rattle.std.specs.Prelude.{ℕ, zero, suc, ◌-◌, List, [], ◌∷◌, ◌++◌, length, take, drop}

-- the list xs, with ys in place of its k elements from a on: what a lent part `&mut s[a..a + k]` leaves behind
abbrev pub mid {ℓ} : {A : Type ℓ} → ℕ → ℕ → List A → List A → List A
mid a k xs ys = take a xs ++ (ys ++ drop k (drop a xs))

-- moved down by w: all from w on stand at the front, and the last w stay
unfoldable pub shifted {ℓ} : {A : Type ℓ} → ℕ → List A → List A
shifted w l = drop w l ++ drop (length l - w) l

-- f 0, f 1, .., f (n - 1)
unfoldable pub tab {ℓ} : {A : Type ℓ} → ℕ → (ℕ → A) → List A
tab zero f = []
tab (suc n) f = f zero ∷ tab n (λ i. f (suc i))
