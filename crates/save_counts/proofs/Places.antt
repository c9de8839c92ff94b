-- Every element of a list changed, where the change leaves all but those of one key as they are, and no two have one key: the element of
-- that key alone is changed. Assumes nothing.
use mathlib.Core.Path.{◌≡◌, refl, sym, ap, ap₂, subst}
use mathlib.Core.Bool.{true, false}
use mathlib.Core.List.{List, [], ◌∷◌, map}
use Prim.Native.Nat.{ℕ}
use lib.ListN.{get_or, set}
use Rattle.meaning.specs.Octets.{place, any, same}
use Rattle.meaning.specs.Lists.{by-test, same-eq, never}
use Rattle.meaning_save.specs.Save.{once_each}

module _ {A : Type 0} (key : A → List ℕ) (g : A → A) (a : List ℕ) (still : (x : A) → same (key x) a ≡ false → g x ≡ x) where
  none-changed : (l : List A) → any (λ (x : A). same (key x) a) l ≡ false → map g l ≡ l
  unfolding any
  none-changed [] e = refl
  none-changed (x ∷ l) e =
      by-test (same (key x) a)
      (λ k. absurd (never (sym (rw k at e))))
      (λ k. ap₂ (λ (y : A) (ys : List A). y ∷ ys) (still x k) (none-changed l (rw k at e)))

  pub one-changed : (l : List A) (d : A) → once_each (λ (x y : A). same (key y) (key x)) l ≡ true → map g l ≡ set l (place (λ (x : A). same (key x) a) l) (g (get_or l (place (λ (x : A). same (key x) a) l) d))
  unfolding place once_each
  one-changed [] d once = refl
  one-changed (x ∷ l) d once =
      by-test (any (λ (y : A). same (key y) (key x)) l)
      (λ t. absurd (never (rw t at once)))
      (λ t. by-test (same (key x) a)
      (λ k. rw k (ap (λ (ys : List A). g x ∷ ys) (none-changed l (subst (λ (b : List ℕ). any (λ (y : A). same (key y) b) l ≡ false) (same-eq (key x) a k) t))))
      (λ k. rw k (ap₂ (λ (y : A) (ys : List A). y ∷ ys) (still x k) (one-changed l d (rw t at once)))))
