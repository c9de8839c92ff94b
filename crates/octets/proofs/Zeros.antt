-- Lists of zeros, and parts of them. Assumes nothing.
use Prim.Native.Nat.{ℕ, ◌+◌, ◌≤◌, ◌<◌}
use native.Mathlib.Omega.{arith}
use mathlib.Core.Path.{◌≡◌, sym, ap, ◌∙◌}
use mathlib.Core.Bool.{Bool}
use mathlib.Core.List.{List}
use lib.ListN.{length, take, drop, get_or, replicate, length-drop, length-replicate}
use lib.Seq.{ext_get_or, get_or-take, get_or-drop, length-take-le}
use Rattle.meaning.specs.Octets.{same}
use Rattle.meaning.specs.Lists.{by-test, same-eq, same_refl, get_d-all}
use Rattle.std.specs.Prelude.{◌↔◌, IsTrue, EachIndex}

-- as many zeros as a list has elements
abbrev pub zeros_for : List ℕ → List ℕ
zeros_for s = replicate (length s) 0

pub zeros-length : (s : List ℕ) → length (zeros_for s) ≡ length s
zeros-length s = length-replicate (length s) 0

pub zeros-part : (k i n : ℕ) → i + k ≤ n → take k (drop i (replicate {A = ℕ} n 0)) ≡ replicate k 0
zeros-part k i n h =
    let all : List ℕ = replicate n 0 in
    let few : length (take k (drop i all)) ≡ k = length-take-le k (drop i all) (simp (length-drop, length-replicate) (omega arith)) in
    ext_get_or 0 (take k (drop i all)) (replicate k 0) (few ∙ sym (length-replicate k 0)) (λ m lt.
    let q : m < k = omega (arith, few) in
    get_or-take k (drop i all) m 0 q ∙ get_or-drop i all m 0 ∙ get_d-all n (i + m) 0 ∙ sym (get_d-all k m 0))

-- a part that is compared with zeros is compared with that part of as many zeros as there are octets
pub zeros-there : (k i : ℕ) (s : List ℕ) (r : Bool) → i + k ≤ length s → r ≡ same (take k (drop i s)) (replicate k 0) → r ≡ same (take k (drop i s)) (take k (drop i (zeros_for s)))
zeros-there k i s r h e = e ∙ ap (same (take k (drop i s))) (sym (zeros-part k i (length s) h))

-- whether each is 0 is whether they are as many zeros
pub zeros_by : (s : List ℕ) (r : Bool) → IsTrue r ↔ EachIndex s (λ k. get_or s k 0 ≡ 0) → r ≡ same s (zeros_for s)
zeros_by s r h =
    let n = zeros-length s in
    by-test r
    (λ t. let e : s ≡ zeros_for s = ext_get_or 0 s (zeros_for s) (sym n) (λ k l. h.0 t k l ∙ sym (get_d-all (length s) k 0)) in
    t ∙ sym (ap (same s) (sym e) ∙ same_refl s))
    (λ f. f ∙ sym
    (by-test (same s (zeros_for s))
    (λ t.
    let e = same-eq s (zeros_for s) t in
    t ∙ sym (h.1 (λ k l. ap (λ (x : List ℕ). get_or x k 0) e ∙ get_d-all (length s) k 0)) ∙ f)
    (λ t. t)))
