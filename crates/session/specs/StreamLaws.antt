-- What `proofs/StreamLaws` speaks of.
-- Assumes nothing.
use Rattle.std.specs.Prelude.{ℕ, ◌≤◌, ◌<◌, ◌≡◌, List, ◌++◌, length}
use Rattle.session.specs.Stream.{body_limit, pdu_head, Look, wait, bad, head, message, limit, Read}

-- something is shown
unfoldable pub Shown : Look → Type 0
Shown wait = ⊥
Shown bad = Unit {0}
Shown (head n) = Unit {0}
Shown (message k) = Unit {0}

-- ---- what a look tells

unfoldable pub Tells : ℕ → List ℕ → Look → Type 0
Tells left s wait = length s < limit left
Tells left s bad = Unit {0}
Tells left s (head n) = (left ≡ 0) × (pdu_head ≤ length s) × (8 ≤ n) × (n ≤ body_limit)
Tells left s (message k) = (4 ≤ k) × (k ≤ left) × (k ≤ length s)

-- ---- one call against the whole stream

-- messages read first
unfoldable pub and_then : List (List ℕ) → Read → Read
and_then ms r = record { messages = ms ++ r.messages; stream = r.stream }
