-- What `proofs/LineRefusals` speaks of.
-- Assumes nothing.
use Rattle.std.specs.Prelude.{ℕ, ◌≡◌}
use Rattle.std.proofs.Math.Bool.{true}
use mathlib.Core.List.{List, [], ◌∷◌}
use Rattle.meaning.specs.Wire.{withdraw, release, is_kind, message_in, message_refusal}
use Rattle.promise.specs.Promise.{answer_to}
use Rattle.promise_line.specs.Line.{Box, hearing}

-- ---- what is under way can be read

-- a Mapping, Withdraw or Release is as it should be; anything else is a notice
unfoldable pub Plain : List ℕ → Type 0
Plain s = is_kind (message_in s).kind ≡ true → message_refusal s ≡ 0

unfoldable pub AllPlain : List (List ℕ) → Type 0
AllPlain [] = Unit {0}
AllPlain (s ∷ ss) = Plain s × AllPlain ss

-- ---- at every moment

-- A Release that is next to arrive at a box is answered 0, whatever room it has.
abbrev pub TakesReleases : Box → Type 0
TakesReleases y = (room : ℕ) (s : List ℕ) (rest : List (List ℕ)) → y.inbox ≡ s ∷ rest → (message_in s).kind ≡ release → (answer_to y.past.card (hearing room y.peer s)).answer ≡ 0

-- A Withdraw that is next to arrive is refused by 16 alone.
abbrev pub ShortOfRoomAlone : Box → Type 0
ShortOfRoomAlone y = (room : ℕ) (s : List ℕ) (rest : List (List ℕ)) → y.inbox ≡ s ∷ rest → (message_in s).kind ≡ withdraw
    → ((answer_to y.past.card (hearing room y.peer s)).answer ≡ 0 → ⊥) → (answer_to y.past.card (hearing room y.peer s)).answer ≡ 16
