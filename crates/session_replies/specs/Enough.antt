-- More calls would change nothing. Assumes nothing.
use Prim.Native.Nat.{ℕ, zero, suc, ◌+◌, ◌*◌, ◌≤◌, ◌<◌}
use Rattle.std.proofs.Common.{not-suc-le-zero, arith}
use Rattle.std.specs.Prelude.{◌≡◌, refl, false, List, drop, length}
use Rattle.meaning.specs.Lists.{by-test}
use Rattle.meaning.specs.Card.{Card}
use Rattle.session.specs.Stream.{Stream, stopped, reading, body_limit}
use Rattle.session.specs.Kept.{Fits}
use Rattle.session.proofs.Kept.{limit-most}
use Rattle.session.specs.Ends.{pending}
use Rattle.session.specs.Session.{Called}
use Rattle.session_replies.specs.Turns.{Turns, called_box, is_last, and_then, turns_f, most_turns, turns}
use Rattle.session_replies.specs.Less.{called-leaves}

-- a stream that fits, as any memory denotes one
pub pending-most : (s : Stream) (o : List ℕ) → Fits s → pending s o ≤ 2 * length o + body_limit + 1
unfolding pending Fits
pending-most stopped o f = omega arith
pending-most (reading left h) o f = omega (arith, f.1, limit-most left f.0)

then_same : (k : Called) (f g : Card → Stream → List ℕ → Turns) (o : List ℕ)
    → (is_last k.answer (length (drop k.eaten o)) k.stream ≡ false → f k.card k.stream (drop k.eaten o) ≡ g k.card k.stream (drop k.eaten o))
    → and_then k f o ≡ and_then k g o
unfolding and_then
then_same k f g o h =
    by-test (is_last k.answer (length (drop k.eaten o)) k.stream)
    (λ e. rw e refl)
    (λ e. rw (e, h e) refl)

module _ (n room : ℕ) where
  fuel-enough : (f g : ℕ) (c : Card) (s : Stream) (o : List ℕ) → pending s o < f → pending s o < g → turns_f f n room c s o ≡ turns_f g n room c s o
  unfolding turns_f
  fuel-enough zero g c s o p q = absurd (not-suc-le-zero p)
  fuel-enough (suc f) zero c s o p q = absurd (not-suc-le-zero q)
  fuel-enough (suc f) (suc g) c s o p q =
      then_same (called_box n room c s o) (turns_f f n room) (turns_f g n room) o
      (λ e. let a = (called-leaves n room c s o).after e in fuel-enough f g _ _ _ (omega arith) (omega arith))

  -- MORE CALLS CHANGE NOTHING, whatever the memory of the stream holds (`lent_fits`).
  pub turns-enough : (f : ℕ) (c : Card) (s : Stream) (o : List ℕ) → Fits s → most_turns o ≤ f → turns_f f n room c s o ≡ turns n room c s o
  unfolding turns
  turns-enough f c s o fits h = let m = pending-most s o fits in fuel-enough f (most_turns o) c s o (omega arith) (omega arith)
