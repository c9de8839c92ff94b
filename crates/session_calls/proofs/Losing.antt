-- The stream after a loss, by the order's answer. Assumes nothing.
use Prim.Native.Nat.{ℕ, zero, suc}
use native.Mathlib.Omega.{arith}
use mathlib.Core.Path.{◌≡◌, refl}
use Rattle.session.specs.Stream.{Stream, empty}
use Rattle.session.specs.Session.{after_loss}

pub emptied : (a : ℕ) (s t : Stream) → a ≡ 0 → t ≡ empty → t ≡ after_loss a s
unfolding after_loss
emptied zero s t z e = e
emptied (suc a) s t z e = absurd (omega arith)

pub untouched : (a : ℕ) (s : Stream) → (a ≡ 0 → ⊥) → s ≡ after_loss a s
unfolding after_loss
untouched zero s h = absurd (h refl)
untouched (suc a) s h = refl
