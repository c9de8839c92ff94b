-- What the bench program answers to a line: the text, the card after it and the room, from the definitions of `meaning`.
-- Assumes nothing.
use Rattle.std.specs.Prelude.{ℕ, ◌≤◌, min, ◌≡◌, List, [], take}
use Rattle.meaning.specs.Wire.{name_limit}
use Rattle.meaning.specs.Card.{Card, free_labels, lookup_label, lookup_name, sent_limit}
use Rattle.meaning.specs.Events.{Out, start, event, receive, join, leave, route, lost}
use Rattle.meaning.specs.Notice.{notice}
use Rattle.meaning_save.specs.Save.{Form, old, new, save, restore, Moved, move, save_limit}
use Rattle.meaning_layers.specs.Layers.{read, wrap, unwrap}
use Rattle.meaning_plan.specs.PlanOctets.{checked_octets, planned_octets}
use Rattle.bench_words.specs.Words.{ascii}
use Rattle.bench_verbs.specs.Line.{Said}
use Rattle.bench_lines.specs.Text.{count_line, event_line, feed_line, text_space}
use Rattle.bench_layers.specs.LayerText.{layers_line, wrap_line, unwrap_line}
use Rattle.bench_replies.specs.PlanText.{plan_line, verdict_line}

-- room: how many octets of output later events and saves are lent
pub record Reply : Type 0 where
  pub text : List ℕ
  pub card : Card
  pub room : ℕ

-- a text, while the card stays
unfoldable pub only : List ℕ → Card → ℕ → Reply
only text c room = record { text = text; card = c; room = room }

-- what a call hands back, behind a word: its answer; and its card
unfoldable pub counted : List ℕ → Out → ℕ → Reply
counted word o room = record { text = count_line word o.answer; card = o.card; room = room }

-- the same, with the octets that it wrote
unfoldable pub told : List ℕ → Out → ℕ → Reply
told word o room = record { text = event_line word o.answer o.octets; card = o.card; room = room }

-- what a move gives: its answer and the octets; the card stays
unfoldable pub shifted : List ℕ → Moved → Card → ℕ → Reply
shifted word m c room = record { text = event_line word m.answer m.octets; card = c; room = room }

-- an event and a notice are lent 22272 octets, a save as many as the longest of its form has, or the room where that is less
abbrev pub event_room : ℕ → ℕ
event_room room = min room sent_limit

abbrev pub save_room : Form → ℕ → ℕ
save_room f room = min room (save_limit f)

-- ---- the orders on saves, by the form

unfoldable pub save_word : Form → List ℕ
save_word old = ascii "save"
save_word new = ascii "save2"

unfoldable pub restore_word : Form → List ℕ
restore_word old = ascii "restore"
restore_word new = ascii "restore2"

-- from this form to the other
unfoldable pub move_word : Form → List ℕ
move_word old = ascii "newer"
move_word new = ascii "older"

unfoldable pub other : Form → Form
other old = new
other new = old

-- and a name that is wrapped or unwrapped 150, which is enough for any
abbrev pub name_room : ℕ → ℕ
name_room room = min room name_limit

-- THE REPLY to what a line says, by the number of the line, the room and the card. The room is another only after `room`.
unfoldable pub reply_to : (number room : ℕ) → Card → Said → Reply
reply_to number room c Said.nothing = only [] c room
reply_to number room c Said.bad = only (count_line (ascii "?") number) c room
reply_to number room c (Said.start base) = counted (ascii "start") (start base) room
reply_to number room c (Said.room n) = only (count_line (ascii "room") n) c n
reply_to number room c (Said.take n message) = told (ascii "take") (event (event_room room) c (receive n message)) room
reply_to number room c (Said.join element) = told (ascii "join") (event (event_room room) c (join element)) room
reply_to number room c (Said.leave element) = told (ascii "leave") (event (event_room room) c (leave element)) room
reply_to number room c (Said.route root via) = told (ascii "route") (event (event_room room) c (route root via)) room
reply_to number room c (Said.lost n) = told (ascii "lost") (event (event_room room) c (lost n)) room
reply_to number room c (Said.notice n refusal octets) = told (ascii "notice") (notice (event_room room) c n refusal octets) room
reply_to number room c (Said.label n) = only (feed_line (ascii "label") (lookup_label n c)) c room
reply_to number room c (Said.tree element) = only (feed_line (ascii "tree") (lookup_name element c)) c room
reply_to number room c Said.free = only (count_line (ascii "free") (free_labels c)) c room
reply_to number room c (Said.save f) = told (save_word f) (save f (save_room f room) c) room
reply_to number room c (Said.restore f octets) = counted (restore_word f) (restore f octets c) room
reply_to number room c (Said.moves f octets) = shifted (move_word f) (move f (other f) (save_room (other f) room) octets) c room
reply_to number room c (Said.layers name) = only (layers_line (read name)) c room
reply_to number room c (Said.wrap root eight name) = only (wrap_line (wrap (name_room room) root eight name)) c room
reply_to number room c (Said.unwrap name) = only (unwrap_line (unwrap (name_room room) name)) c room
reply_to number room c (Said.plan n sets) = only (plan_line (planned_octets c n sets)) c room
reply_to number room c (Said.vet n sets list) = only (verdict_line (checked_octets c n sets list)) c room

-- ---- what the functions state

-- the first r octets of a text, no more than `text_space`, are the text of the reply, and the card is its card
pub record Says (reply : Reply) (r : ℕ) (text : List ℕ) (card : Card) : Type 0 where
  pub short : r ≤ text_space
  pub line : take r text ≡ reply.text
  pub leaves : card ≡ reply.card

-- the same, and the room from here on
pub record Answers (reply : Reply) (r : ℕ) (text : List ℕ) (card : Card) (room : ℕ) : Type 0 where
  pub says : Says reply r text card
  pub next : room ≡ reply.room
