-- What `proofs/Kept` speaks of.
-- Assumes nothing.
use Rattle.std.specs.Prelude.{ℕ, ◌≤◌, ◌≡◌, List, []}
use Rattle.std.proofs.Math.ListN.{length}
use Rattle.session.specs.Stream.{body_limit, Look, wait, bad, head, message, look, Stream, stopped, reading, limit, Filled}

-- ---- what is kept

-- no more octets are held than a PDU has
unfoldable pub Fits : Stream → Type 0
Fits stopped = Unit {0}
Fits (reading left h) = (left ≤ body_limit) × (length h ≤ limit left)

unfoldable pub Rests : Look → Type 0
Rests wait = Unit {0}
Rests bad = ⊥
Rests (head n) = ⊥
Rests (message k) = Unit {0}

-- and what is held shows a whole message or nothing
unfoldable pub Kept : List ℕ → Stream → Type 0
Kept id stopped = Unit {0}
Kept id (reading left h) = (left ≤ body_limit) × (length h ≤ limit left) × Rests (look id left h)

-- never more than 4100 octets are held
unfoldable pub held_in : Stream → List ℕ
held_in stopped = []
held_in (reading left h) = h

-- as `Fits`, and no PDU's head is left standing
unfoldable pub Ready : List ℕ → Filled → Type 0
Ready id f = (f.left ≤ body_limit) × (length f.held ≤ limit f.left) × ((n : ℕ) → look id f.left f.held ≡ head n → ⊥)

-- ---- a stream at rest: a call with nothing offered changes nothing, and the whole stream shows nothing more

-- nothing is held that a call could work off
unfoldable pub Quiet : List ℕ → Stream → Type 0
Quiet id stopped = Unit {0}
Quiet id (reading left h) = look id left h ≡ wait
