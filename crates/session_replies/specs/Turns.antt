-- Octets of a neighbour are offered to its stream, and what was not eaten again, until all is eaten and no whole message is held, or a call
-- is refused by 1 or 20; and the line that tells of each call. Assumes nothing.
use Rattle.std.specs.Prelude.{ℕ, zero, suc, ◌+◌, ◌*◌, ◌%◌, ◌≤◌, min, ◌≡◌, Bool, not, ◌&&◌, ◌||◌, List, [], ◌∷◌, ◌++◌, take, drop, length, eqb}
use Rattle.meaning.specs.Octets.{pick}
use Rattle.meaning.specs.Card.{Card}
use Rattle.session.specs.Stream.{Stream, body_limit, holds_message}
use Rattle.session.specs.Session.{message_room, stream_room, label, Called, called}
use Rattle.session.specs.Ends.{pending}
use Rattle.bench_words.specs.Words.{ascii, numeral, input_limit}
use Rattle.bench_lines.specs.Text.{records_behind}

-- 192.0.2.N:0, of a neighbour as of the card itself, for which N is 254
unfoldable pub identifier : ℕ → List ℕ
identifier n = 192 ∷ 0 ∷ 2 ∷ n % 256 ∷ 0 ∷ 0 ∷ []

-- a call is lent the room, or all of the 348 octets that it may use
abbrev pub call_room : ℕ → ℕ
call_room room = min room message_room

-- ---- a call told

-- ` ANSWER:EATEN`, and `:` and the records where there are some
unfoldable pub call_text : ℕ → ℕ → List ℕ → List ℕ
call_text answer eaten records = 32 ∷ numeral answer ++ (58 ∷ numeral eaten ++ records_behind (ascii ":") records)

-- ---- the calls

-- the text, and what they leave
pub record Turns : Type 0 where
  pub text : List ℕ
  pub card : Card
  pub stream : Stream

unfoldable pub none : Card → Stream → Turns
none c s = record { text = []; card = c; stream = s }

-- no call follows one with this answer, after which so many octets are left
unfoldable pub is_last : ℕ → ℕ → Stream → Bool
is_last answer left s = eqb answer 1 || (eqb answer 20 || (eqb left 0 && not (holds_message s)))

-- octets of neighbour n, with so much room
abbrev pub called_box : ℕ → ℕ → Card → Stream → List ℕ → Called
called_box n room c s o = called label (identifier n) n (call_room room) stream_room c s o

-- a call on the octets o, and then `more` on what it leaves, unless it was the last
unfoldable pub and_then : Called → (Card → Stream → List ℕ → Turns) → List ℕ → Turns
and_then k more o =
    let rest = drop k.eaten o in
    let others = more k.card k.stream rest in
    let over = none k.card k.stream in
    let later = pick (is_last k.answer (length rest) k.stream) over others in
    record { text = call_text k.answer k.eaten k.octets ++ later.text; card = later.card; stream = later.stream }

-- at most so many calls
unfoldable pub turns_f : ℕ → ℕ → ℕ → Card → Stream → List ℕ → Turns
turns_f zero n room c s o = none c s
turns_f (suc f) n room c s o = and_then (called_box n room c s o) (turns_f f n room) o

-- More than enough: each call eats an octet or is done with some that are held (`turns-enough`).
abbrev pub most_turns : List ℕ → ℕ
most_turns o = 2 * length o + stream_room + 2

unfoldable pub turns : ℕ → ℕ → Card → Stream → List ℕ → Turns
turns n room c s o = turns_f (most_turns o) n room c s o

-- `octets` and each call
unfoldable pub octets_line : Turns → List ℕ
octets_line t = ascii "octets" ++ (t.text ++ (10 ∷ []))

-- ---- for the code

-- the text of a call beside its records
abbrev pub call_space : ℕ
call_space = 43

-- A call that hands a message on is done with four octets at least, and its records have 348 at most: so much text for an octet is enough.
abbrev pub octet_space : ℕ
octet_space = 185

-- the space of the line: 4096 octets are offered at most, which may be eaten and then done with, and those of a PDU are held
abbrev pub turns_space : ℕ
turns_space = octet_space * (2 * input_limit + body_limit + 2)

-- the text that the calls still to come may need, and the line's end
abbrev pub space_for : Stream → List ℕ → ℕ
space_for s o = octet_space * pending s o + call_space + 1

-- the first r octets of a text, no more than `turns_space`, are the line, and the card and the stream are those after the calls
pub record TurnsSay (t : Turns) (r : ℕ) (text : List ℕ) (card : Card) (stream : Stream) : Type 0 where
  pub short : r ≤ turns_space
  pub line : take r text ≡ octets_line t
  pub leaves : card ≡ t.card
  pub streams : stream ≡ t.stream
