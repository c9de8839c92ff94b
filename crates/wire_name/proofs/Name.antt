-- The parts of a name, as the code finds them. Assumes nothing.
use Prim.Native.Nat.{ℕ, ◌+◌, ◌-◌, ◌≤◌, ◌<◌}
use native.Mathlib.Omega.{arith}
use mathlib.Core.Path.{◌≡◌, refl, sym, ap, ◌∙◌}
use mathlib.Core.Bool.{Bool, true, false}
use mathlib.Core.List.{List, []}
use lib.ListN.{length, take, drop, get_or, length-drop, drop_of_length-le}
use lib.Seq.{take_all, take-nil}
use borrow.Author.Tests.{eq-eqb, ne_eqb, le-leb, lt-leb}
use Rattle.meaning.specs.Octets.{two_at}
use Rattle.meaning.specs.Wire.{root_length, opaque_length, root_in, opaque_in, first_end, is_filled}
use Rattle.meaning_laws.specs.WireLaws.{end-there, filled-end, filled-there}

pub opaque-at : (e : List ℕ) (n k : ℕ) → n ≡ root_length e → k ≡ two_at e (4 + n) → k ≡ opaque_length e
unfolding opaque_length
opaque-at e n k p q = q ∙ ap (λ (i : ℕ). two_at e (4 + i)) p

-- the root's part of an element of any length
module _ (e : List ℕ) where
  pub root_none : length e < 4 → [] ≡ root_in e
  unfolding root_in
  root_none h = rw (drop_of_length-le e {i = 4} (omega arith), take-nil (root_length e))

  module _ (n : ℕ) (p : n ≡ root_length e) where
    pub root-short : length e - 4 < n → take (length e - 4) (drop 4 e) ≡ root_in e
    unfolding root_in
    root-short h = take_all (length e - 4) (drop 4 e) (simp length-drop (omega arith)) ∙ sym (take_all (root_length e) (drop 4 e) (simp length-drop (omega arith)))

    pub root-all : take (4 + n - 4) (drop 4 e) ≡ root_in e
    unfolding root_in
    root-all = let q : 4 + n - 4 ≡ root_length e = omega arith in ap (λ (i : ℕ). take i (drop 4 e)) q

-- ---- the elements of an opaque value, from a place on

module _ (s : List ℕ) (at : ℕ) where
  pub end-long : get_or s at 0 ≡ 255 → (k : ℕ) → k ≡ two_at s (at + 3) → (at + 5 + k ≡ at + first_end (drop at s)) × (at < at + 5 + k)
  end-long h k q = let e : first_end (drop at s) ≡ 5 + two_at s (at + 3) = end-there s at ∙ rw (eq-eqb _ _ h) refl in (omega arith, omega arith)

  pub end-plain : (get_or s at 0 ≡ 255 → ⊥) → (k : ℕ) → k ≡ two_at s (at + 1) → (at + 3 + k ≡ at + first_end (drop at s)) × (at < at + 3 + k)
  end-plain h k q = let e : first_end (drop at s) ≡ 3 + two_at s (at + 1) = end-there s at ∙ rw (ne_eqb _ _ h) refl in (omega arith, omega arith)

  pub filled_none : length s ≤ at → is_filled (drop at s) ≡ true
  filled_none h = rw (drop_of_length-le s {i = at} h) filled-end

  module _ (end : ℕ) (some : at < length s) (e : end ≡ at + first_end (drop at s)) where
    pub filled-past : length s < end → is_filled (drop at s) ≡ false
    filled-past h = filled-there s at some ∙ rw (lt-leb (at + first_end (drop at s)) (length s) (omega arith)) refl

    pub filled_on : end ≤ length s → is_filled (drop end s) ≡ is_filled (drop at s)
    filled_on h = rw e (sym (filled-there s at some ∙ rw (le-leb (at + first_end (drop at s)) (length s) (omega arith)) refl))

-- what the walk over an element's opaque value says of it
pub filled_in : (e : List ℕ) (n : ℕ) (b d : Bool) → n ≡ root_length e → b ≡ is_filled (drop (6 + n) e) → b ≡ d → is_filled (opaque_in e) ≡ d
unfolding opaque_in
filled_in e n b d p q r = ap (λ (i : ℕ). is_filled (drop (6 + i) e)) (sym p) ∙ sym q ∙ r
