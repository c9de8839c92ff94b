-- What `proofs/TickKept` speaks of.
-- Assumes nothing.
use Prim.Native.Nat.{ℕ, ◌+◌, ◌≤◌}
use Rattle.std.proofs.Math.Path.{◌≡◌}
use Rattle.std.proofs.Math.Bool.{Bool}
use Rattle.std.specs.Prelude.{true, false}
use Rattle.promise_net.specs.Net.{Wires, Wired, Net}
use Rattle.promise_net.specs.Net
use Rattle.promise_bark.specs.Bark.{packet, messages, talk}
use Rattle.promise_bark.specs.Bark
use Rattle.promise_tick.specs.Tick.{Silent, Rank, ahead, Within, Slopes}
use Rattle.promise_kept.specs.BarkKept.{Plant, traffic_of, Goes, hears, sends, does, tells, puts, comes, loses, passes, cuts, Reached}

-- what the boxes of the net say to each other
abbrev pub talk_of : Plant → Net
talk_of w = talk (traffic_of w)

-- ---- no more orders

-- whether it is no order, no notice and no loss: a message is heard, or a packet is sent on, put in, lost or overtaken
unfoldable pub is_quiet : {far : Wires} {w v : Plant} → Goes far w v → Bool
is_quiet (hears i p s rest e h m) = true
is_quiet (sends i p a l rest e m) = true
is_quiet (does i d m) = false
is_quiet (tells i m) = false
is_quiet (puts i a m) = true
is_quiet (comes i p a l d m) = true
is_quiet (loses i p a l rest e) = true
is_quiet (passes i p n) = true
is_quiet (cuts i p j q e h c v u g d) = false

-- how many messages it hears
unfoldable pub heard_by : {far : Wires} {w v : Plant} → Goes far w v → ℕ
heard_by (hears i p s rest e h m) = 1
heard_by (sends i p a l rest e m) = 0
heard_by (does i d m) = 0
heard_by (tells i m) = 0
heard_by (puts i a m) = 0
heard_by (comes i p a l d m) = 0
heard_by (loses i p a l rest e) = 0
heard_by (passes i p n) = 0
heard_by (cuts i p j q e h c v u g d) = 0

-- From w, by such calls alone, to another plant: so many messages have been heard.
pub data Serves (far : Wires) (w : Plant) : Plant → ℕ → Type 0 where
  still : Serves far w w 0
  then : {v u : Plant} {m : ℕ} → Serves far w v m → (g : Goes far v u) → is_quiet g ≡ true → Serves far w u (heard_by g + m)

-- THE SOFT TICK OF THE CODE, proved below: memories that were started, after any calls; the routes of the trees that messages under way are about go round nowhere. No more messages are heard than the measure says, and when so many have been heard nothing is under way.
-- (Then the whole tree: `whole-tree-of-memories` in `BarkKept`.)
abbrev pub TickOfMemories : Type 0
TickOfMemories = (far : Wires) → Wired far → (n : ℕ) → Within far n → (base : ℕ → ℕ) (w : Plant) → Reached far base w → (rank : Rank) → Slopes far (talk_of w) rank
    → (v : Plant) (m : ℕ) → Serves far w v m → (m + ahead rank n (talk_of v) ≤ ahead rank n (talk_of w)) × (ahead rank n (talk_of w) ≤ m → Silent far (talk_of v))
