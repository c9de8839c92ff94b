-- The box that lent memory denotes, and what an order makes of it. Assumes nothing.
use Rattle.std.specs.Prelude.{ℕ, Bool, true, false, List, [], get_or}
use Rattle.meaning.specs.Card.{Card}
use Rattle.octets.specs.Part.{tab}
use Rattle.session.specs.Stream.{Stream}
use Rattle.session.specs.Lent.{stream_of}
use Rattle.session_orders.specs.Told.{Told, stream_count}
use Rattle.session_orders.specs.declared.Ask.{Ask}
use Rattle.session_replies.specs.Done.{done_by, Box, BoxReply, stream_at, box_after}

-- ---- the memory of four streams: the numbers and the buffer of each

abbrev pub lent_at : List (List ℕ) → ℕ → List ℕ
lent_at ls n = get_or ls n []

-- the streams that it denotes
unfoldable pub streams_of : List (List ℕ) → List (List ℕ) → List Stream
streams_of ns bs = tab stream_count (λ n. stream_of (lent_at ns n) (lent_at bs n))

abbrev pub box_of : ℕ → Card → List Stream → Box
box_of room c streams = record { card = c; room = room; streams = streams }

-- ---- an order obeyed on the n-th stream

unfoldable pub is_own : Ask → Bool
is_own Ask.Bench = false
is_own (Ask.Octets n w) = true
is_own (Ask.Pack n w) = true
is_own (Ask.Lost n) = true

unfoldable pub box_on : ℕ → ℕ → Box → Told → BoxReply
box_on n number b told = box_after (done_by number b.room b.card (stream_at b n) told) n b.streams
