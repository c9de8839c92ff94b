-- What the code's looks mean. Assumes nothing.
use Rattle.std.specs.Prelude.{ℕ, Option, Some, None}
use Rattle.session.specs.Stream.{Look, wait, bad, head, message}
use Rattle.session_look.specs.declared.Shows.{Shows}

unfoldable pub shown : Shows → Look
shown Shows.Wait = wait
shown Shows.Bad = bad
shown (Shows.Head n) = head n
shown (Shows.Message k) = message k

-- the octets that follow a PDU's head, where one is shown
unfoldable pub head_in : Look → Option ℕ
head_in wait = None
head_in bad = None
head_in (head n) = Some n
head_in (message k) = None
