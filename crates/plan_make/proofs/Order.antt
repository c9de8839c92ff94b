-- Roots octet by octet, and as the library compares them. Assumes nothing.
use Prim.Native.Nat.{◌+◌, ◌≤◌, ◌<◌}
use native.Mathlib.Numerals.{add-one}
use native.Mathlib.Omega.{arith}
use lib.ListN.{length, drop, get_or, drop_of_length-le}
use lib.Seq.{drop-cons}
use lib.Dec.{ltb}
use borrow.Author.Tests.{eq-eqb, ne_eqb, le-ltb}
use Rattle.meaning.specs.Lists.{by-test}
use Rattle.std.specs.Prelude.{ℕ, ◌≡◌, Bool, false, Some, List, refl}
use Rattle.std.specs.Cmp.Lexicographic.{slice_partial_cmp}
use Rattle.std.specs.Ordering.{nat_cmp, is_lt, is_some_and}
use Rattle.std.proofs.lemmas.Cmp.{same_from_slice_cmp_tested}
use Rattle.std.proofs.lemmas.Bool.Decides.{nat_tests}
use Rattle.meaning_plan.specs.Plan.{is_below}

module _ (a b : List ℕ) (i : ℕ) where
  pub below-differ : i < length a → i < length b → (get_or a i 0 ≡ get_or b i 0 → ⊥) → is_below (drop i a) (drop i b) ≡ ltb (get_or a i 0) (get_or b i 0)
  unfolding is_below
  below-differ h k ne = rw (drop-cons a i 0 h, drop-cons b i 0 k, ne_eqb (get_or a i 0) (get_or b i 0) ne) (by-test (ltb (get_or a i 0) (get_or b i 0)) (λ e. rw e refl) (λ e. rw e refl))

  pub below-same : i < length a → i < length b → get_or a i 0 ≡ get_or b i 0 → is_below (drop i a) (drop i b) ≡ is_below (drop (i + 1) a) (drop (i + 1) b)
  unfolding is_below
  below-same h k e = rw (drop-cons a i 0 h, drop-cons b i 0 k, eq-eqb (get_or a i 0) (get_or b i 0) e, le-ltb (get_or a i 0) (get_or b i 0) (omega arith), add-one i) refl

  pub below_end : length a ≤ i → length b ≤ i → is_below (drop i a) (drop i b) ≡ false
  unfolding is_below
  below_end h k = rw (drop_of_length-le a {i = i} h, drop_of_length-le b {i = i} k) refl

pub below-tested : (a b : List ℕ) (r : Bool) → r ≡ is_some_and is_lt (slice_partial_cmp (λ x y. Some (nat_cmp x y)) a b) → r ≡ is_below a b
unfolding is_below
below-tested = same_from_slice_cmp_tested nat_cmp is_lt is_below refl (λ _ _. refl) (λ _ _. refl) (λ x y xs ys o h. grind (arith, nat_tests))
