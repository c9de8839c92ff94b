-- What becomes of a message that is read, or of its refusal. Assumes nothing.
use Rattle.std.specs.Prelude.{ℕ, List}
use Rattle.meaning.specs.Wire.{message_refusal, message_in}
use Rattle.meaning.specs.Card.{Card}
use Rattle.meaning.specs.Events.{Outcome, unless, on_message}

-- octets from a neighbour that 1 passes
unfoldable pub on_read : Card → ℕ → List ℕ → Outcome
on_read c n s = unless (message_refusal s) (on_message c n (message_in s))
