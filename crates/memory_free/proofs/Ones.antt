-- Words that have no bit set are 0, and four of them hold no free label. Assumes nothing.
use Prim.Native.Nat.{ℕ, zero, suc, ◌+◌, ◌/◌, ◌≤◌, ◌<◌}
use native.Mathlib.Omega.{arith}
use mathlib.Core.Path.{◌≡◌, refl, sym}
use mathlib.Core.Bool.{true, false, ◌&&◌}
use lib.Dec.{eqb, ltb}
use lib.Count.{ones, ones_in}
use borrow.Author.Tests.{eqb-true, eqb-false, lt-ltb, le-ltb}
use Rattle.meaning.specs.Lists.{by-test}

ones-in : (d n : ℕ) → n ≤ d → (n ≡ 0 → ⊥) → 0 < ones_in d n
unfolding ones_in
ones-in zero n h some = absurd (some (omega arith))
ones-in (suc d) n h some =
    by-test (eqb (n / 2) 0)
    (λ t. let half = eqb-true (n / 2) 0 t in omega arith)
    (λ t. let more = ones-in d (n / 2) (omega arith) (eqb-false (n / 2) 0 t) in omega arith)

ones-some : (n : ℕ) → eqb n 0 ≡ false → 0 < ones n
unfolding ones
ones-some n t = ones-in n n (omega arith) (eqb-false n 0 t)

ones_none : (n : ℕ) → eqb n 0 ≡ true → ones n ≡ 0
unfolding ones ones_in
ones_none n t = rw (eqb-true n 0 t) refl

pub none-short : (a b c d n : ℕ) → ones a + ones b + ones c + ones d ≡ n → (((eqb a 0 && eqb b 0) && eqb c 0) && eqb d 0) ≡ ltb n 1
none-short a b c d n e =
    by-test (eqb a 0)
    (λ s. by-test (eqb b 0)
    (λ t. by-test (eqb c 0)
    (λ u. by-test (eqb d 0)
    (λ v. rw (s, t, u, v) (sym (lt-ltb n 1 (omega (arith, e, ones_none a s, ones_none b t, ones_none c u, ones_none d v)))))
    (λ v. rw (s, t, u, v) (sym (le-ltb n 1 (omega (arith, e, ones-some d v))))))
    (λ u. rw (s, t, u) (sym (le-ltb n 1 (omega (arith, e, ones-some c u))))))
    (λ t. rw (s, t) (sym (le-ltb n 1 (omega (arith, e, ones-some b t))))))
    (λ s. rw s (sym (le-ltb n 1 (omega (arith, e, ones-some a s)))))
