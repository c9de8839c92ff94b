-- Octets worked off: the numbers that are set denote what is left. Assumes nothing.
use Prim.Native.Nat.{ℕ, ◌+◌, ◌-◌, ◌≤◌, ◌<◌}
use native.Mathlib.Omega.{arith}
use mathlib.Core.Path.{◌≡◌, ap}
use mathlib.Core.List.{List, [], ◌∷◌}
use lib.ListN.{length, take, drop, length-take, drop_of_length-le}
use Rattle.session.specs.Stream.{stopped, reading, empty, limit}
use Rattle.session.specs.Lent.{left_in, place_in, count_in, stream_of}
use Rattle.session.proofs.Lent.{lent-reading, lent-stopped, lent-past}
use Rattle.session_streams.specs.declared.Held.{Held}
use Rattle.session_streams.specs.Holds.{held_at, IsHeld}
use Rattle.session.proofs.Kept.{limit-some}

pub stopped-is : (ns : List ℕ) → ns ≡ 1 ∷ 0 ∷ 0 ∷ 0 ∷ [] → (length ns ≡ 4) × ((b : List ℕ) → stream_of ns b ≡ stopped)
stopped-is ns e = (ap length e, λ b. rw e (lent-stopped 0 0 0 b))

zeros : (b : List ℕ) → stream_of (0 ∷ 0 ∷ 0 ∷ 0 ∷ []) b ≡ reading 0 []
zeros b = lent-reading 0 0 0 b (omega arith) (unfold limit in omega arith) (unfold limit in omega arith)

pub empty-is : (ns : List ℕ) → ns ≡ 0 ∷ 0 ∷ 0 ∷ 0 ∷ [] → (length ns ≡ 4) × ((b : List ℕ) → stream_of ns b ≡ empty)
empty-is ns e = (ap length e, λ b. rw e (unfold empty in zeros b))

module _ (ns ns' : List ℕ) (h : Held) (k : ℕ) (is : IsHeld ns h) (some : 0 < k) (in_left : k ≤ left_in ns) (in_count : k ≤ count_in ns) where
  pub pass-end : h.left ≡ k → (length ns' ≡ 4) × ((b : List ℕ) → stream_of ns' b ≡ empty) → (length ns' ≡ 4) × ((b : List ℕ) → stream_of ns' b ≡ reading (left_in ns - k) (drop k (held_at ns b)))
  unfolding held_at empty
  pass-end l e =
      let none : left_in ns - k ≡ 0 = omega arith in
      (e.0, λ b. rw (none, drop_of_length-le (take (count_in ns) (drop (place_in ns) b)) {i = k} (rw length-take (omega (arith, limit-some h.left (omega arith))))) (e.1 b))

  pub pass_on : (h.left ≡ k → ⊥) → ns' ≡ 0 ∷ (h.left - k) ∷ (h.place + k) ∷ (h.count - k) ∷ [] → (length ns' ≡ 4) × ((b : List ℕ) → stream_of ns' b ≡ reading (left_in ns - k) (drop k (held_at ns b)))
  unfolding held_at
  pass_on l e =
      let before = limit-some h.left (omega arith) in
      let after = limit-some (h.left - k) (omega arith) in (
        ap length e,
        λ b. rw (e, ← is.left, ← is.place, ← is.count, lent-past b h.place h.count k (omega arith))
            (lent-reading (h.left - k) (h.place + k) (h.count - k) b (omega arith) (omega arith) (omega arith)),
      )
