-- What `proofs/Queues` speaks of.
-- Assumes nothing.
use Rattle.std.specs.Prelude.{ℕ}
use Rattle.std.proofs.Math.Path.{◌≡◌}
use Rattle.std.proofs.Math.Bool.{true}
use mathlib.Core.List.{List, [], ◌∷◌}
use Rattle.meaning.specs.Wire.{message_in}
use Rattle.promise.specs.Promise.{Given}
use Rattle.promise_line.specs.Sends.{is_down}
use Rattle.promise_bark.specs.Bark.{Item, letter, packet, EachPacket, Alive}

-- ---- the order

-- Each packet's label is live at neighbour q, for its tree; and no packet stands behind a Release of its label.
unfoldable pub Orderly : ℕ → List Given → List Item → Type 0
Orderly q gs [] = Unit {0}
Orderly q gs (letter s ∷ xs) = ((l : ℕ) → is_down l (message_in s) ≡ true → EachPacket (λ a k. k ≡ l → ⊥) xs) × Orderly q gs xs
Orderly q gs (packet a l ∷ xs) = Alive q gs a l × Orderly q gs xs
