-- What the session box answers to a line: the text, and the card, the room and the streams after it. Assumes nothing.
use Rattle.std.specs.Prelude.{ℕ, ◌≤◌, ◌*◌, min, ◌≡◌, List, get_or, set, take}
use Rattle.meaning.specs.Card.{Card}
use Rattle.meaning.specs.Events.{event, lost}
use Rattle.session.specs.Stream.{Stream, empty}
use Rattle.session.specs.Session.{after_loss}
use Rattle.session.specs.Pack.{pack}
use Rattle.bench_words.specs.Words.{ascii, input_limit}
use Rattle.bench_verbs.specs.Line.{Said}
use Rattle.bench_lines.specs.Text.{event_line}
use Rattle.bench_replies.specs.Reply.{event_room, reply_to}
use Rattle.session_orders.specs.Told.{Told, told_of, stream_for}
use Rattle.session_replies.specs.Turns.{identifier, turns, octets_line, turns_space}

-- ---- an order, and the stream that it is about

pub record Done : Type 0 where
  pub text : List ℕ
  pub card : Card
  pub room : ℕ
  pub stream : Stream

-- The writer is lent the room, or twice the octets of its records, of which there are 4096 at most: a message comes with four octets of a record and leaves with ten of a PDU's head at most, and has eight itself.
abbrev pub pack_room : ℕ → ℕ
pack_room room = min room (2 * input_limit)

-- the card's own, 192.0.2.254:0
abbrev pub own : List ℕ
own = identifier 254

-- WHAT IS DONE, by the number of the line, the room, the card and the stream. A loss is told as on the bench.
unfoldable pub done_by : (number room : ℕ) → Card → Stream → Told → Done
done_by number room c s (Told.bench said) =
    let reply = reply_to number room c said in
    record { text = reply.text; card = reply.card; room = reply.room; stream = s }
done_by number room c s (Told.octets n o) =
    let t = turns n room c s o in
    record { text = octets_line t; card = t.card; room = room; stream = t.stream }
done_by number room c s (Told.pack n o) =
    let p = pack own n (pack_room room) o in
    record { text = event_line (ascii "pack") p.answer p.octets; card = c; room = room; stream = s }
done_by number room c s (Told.lost n) =
    let reply = reply_to number room c (Said.lost n) in
    record { text = reply.text; card = reply.card; room = room; stream = after_loss (event (event_room room) c (lost n)).answer s }

-- ---- the box

-- streams: those of neighbours 0 to 3
pub record Box : Type 0 where
  pub card : Card
  pub room : ℕ
  pub streams : List Stream

pub record BoxReply : Type 0 where
  pub text : List ℕ
  pub box : Box

unfoldable pub stream_at : Box → ℕ → Stream
stream_at b n = get_or b.streams n empty

unfoldable pub box_after : Done → ℕ → List Stream → BoxReply
box_after d n streams = record { text = d.text; box = record { card = d.card; room = d.room; streams = set streams n d.stream } }

-- THE REPLY to a line, by its number
unfoldable pub box_reply : ℕ → Box → List ℕ → BoxReply
box_reply number b line =
    let told = told_of line in
    let n = stream_for told in
    box_after (done_by number b.room b.card (stream_at b n) told) n b.streams

-- ---- what a function states

-- the first r octets of a text are the text of the reply, and card, room and streams are those of its box
pub record BoxSays (b : BoxReply) (r : ℕ) (text : List ℕ) (card : Card) (room : ℕ) (streams : List Stream) : Type 0 where
  pub short : r ≤ turns_space
  pub line : take r text ≡ b.text
  pub leaves : card ≡ b.box.card
  pub next : room ≡ b.box.room
  pub all : streams ≡ b.box.streams
