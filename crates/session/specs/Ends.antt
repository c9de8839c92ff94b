-- What `proofs/Ends` speaks of.
-- Assumes nothing.
use Prim.Native.Nat.{ℕ, ◌+◌, ◌*◌, ◌≤◌, ◌<◌}
use Rattle.std.specs.Prelude.{length}
use mathlib.Core.List.{List, [], ◌∷◌}
use Rattle.session.specs.Stream.{Stream, stopped, reading}
use Rattle.session.specs.Session.{message_room, stream_room, Cut}

-- how many calls it can take at most: an octet is eaten, and then it is worked off
unfoldable pub pending : Stream → List ℕ → ℕ
pending stopped r = 2 * length r
pending (reading left h) r = 2 * length r + length h + 1

-- a call that is not refused 20 and offers something, if anything is left
pub record Serves (x : Cut) : Type 0 where
  pub room : message_room ≤ x.room
  pub lent : stream_room ≤ x.lent
  pub size : 0 < x.size

unfoldable pub AllServe : List Cut → Type 0
AllServe [] = Unit {0}
AllServe (x ∷ xs) = Serves x × AllServe xs
