-- Octets copied into the buffer. Assumes nothing.
use Prim.Native.Nat.{ℕ, ◌+◌, ◌-◌, ◌≤◌}
use native.Mathlib.Omega.{arith}
use mathlib.Core.Path.{◌≡◌, refl, sym, ◌∙◌}
use mathlib.Core.List.{List, ◌++◌}
use lib.ListN.{length, take, drop, length-take, length-drop, length-append}

pub front_length : (k : ℕ) (s : List ℕ) → k ≤ length s → k ≡ length (take k s)
front_length k s h = sym (length-take k s ∙ omega arith)

pub part_length : (a k : ℕ) (b o : List ℕ) → a + k ≤ length b → k ≤ length o → length (take k o) ≡ length (take (a + k - a) (drop a b))
part_length a k b o h g = simp (length-take, length-drop) (omega arith)

pub put_is : (a k : ℕ) (b o y : List ℕ) → y ≡ take k o → take a b ++ (y ++ drop (a + k - a) (drop a b)) ≡ take a b ++ (take k o ++ drop k (drop a b))
put_is a k b o y e = let z : a + k - a ≡ k = omega arith in rw (e, z) refl

pub put-length : (a k : ℕ) (b y : List ℕ) → a + k ≤ length b → length y ≡ k → length (take a b ++ (y ++ drop (a + k - a) (drop a b))) ≡ length b
put-length a k b y h e = simp (length-append, length-take, length-drop) (omega arith)
