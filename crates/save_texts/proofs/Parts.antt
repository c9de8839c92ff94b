-- Octets laid one behind the other, part by part. Assumes nothing.
use Prim.Native.Nat.{ℕ, ◌+◌, ◌≤◌}
use native.Mathlib.Omega.{arith}
use mathlib.Core.Path.{◌≡◌, refl, sym, ap, ap₂, ◌∙◌}
use mathlib.Core.List.{List, ◌++◌}
use lib.ListN.{length, length-append, drop_of_length-le}
use Rattle.meaning.specs.Lists.{append-nil}
use Rattle.octets.specs.Part.{mid}
use Rattle.octets.proofs.Parts.{mid-mid, mid-length}
use Rattle.save_texts.specs.Laid.{laid}

-- ---- one part, and the part behind it

pub laid-part : (h k : ℕ) (t xs : List ℕ) → length t ≡ k → mid h k xs t ≡ laid h t xs
laid-part h k t xs e = ap (λ (n : ℕ). mid h n xs t) (sym e)

pub laid_then : (at h k : ℕ) (s t xs ys : List ℕ) → at + length s ≤ length xs → ys ≡ laid at s xs → h ≡ at + length s → length t ≡ k → mid h k ys t ≡ laid at (s ++ t) xs
laid_then at h k s t xs ys fits e eh ek =
    ap₂ (λ (n : ℕ) (l : List ℕ). mid h n l t) (sym ek) e ∙ mid-mid at (length s) (length t) h (length (s ++ t)) xs s t fits refl eh (length-append s t)

pub laid-length : (at : ℕ) (s xs : List ℕ) → at + length s ≤ length xs → length (laid at s xs) ≡ length xs
laid-length at s xs h = mid-length at (length s) xs s h refl

-- the whole of the output
pub laid-all : (s xs : List ℕ) → length xs ≤ length s → laid 0 s xs ≡ s
laid-all s xs h = ap (λ (l : List ℕ). s ++ l) (drop_of_length-le xs {i = length s} h) ∙ append-nil s

-- two parts that are the whole of it
pub two-parts : (p q : ℕ) (xs us vs : List ℕ) → length xs ≡ p + q → length us ≡ p → length vs ≡ q → mid p q (mid 0 p xs us) vs ≡ us ++ vs
two-parts p q xs us vs e eu ev =
    laid_then 0 p q us vs xs (mid 0 p xs us) (omega arith) (laid-part 0 p us xs eu) (omega arith) ev ∙ laid-all (us ++ vs) xs (rw length-append (omega arith))
