-- The session box: one call on a neighbour's stream, above a label part of which only its step is known, and the calls one after the other.
-- Assumes nothing.
use Rattle.std.specs.Prelude.{ℕ, zero, suc, ◌+◌, ◌*◌, Bool, ◌||◌, List, [], ◌∷◌, ◌++◌, take, drop, ltb}
use Rattle.meaning.specs.Octets.{◌when◌else◌}
use Rattle.meaning.specs.Wire.{record_limit}
use Rattle.meaning.specs.Card.{Card}
use Rattle.meaning.specs.Events.{Out, no_neighbour, receive, event}
use Rattle.session.specs.Stream.{most_length, Stream, empty, taken, digest}

-- ---- the label part

-- Two records of the longest message, 348 octets: the label part is always lent this much of the output, and no more.
abbrev pub message_room : ℕ
message_room = 2 * record_limit

-- a PDU's 4096 octets and the 4 before them: 4100
abbrev pub stream_room : ℕ
stream_room = 4 + most_length

-- what a label part answers, writes and leaves at a message of a neighbour
abbrev pub Label : Type 0
Label = Card → ℕ → List ℕ → Out

-- the label part of document 01
unfoldable pub label : Label
label c n m = event message_room c (receive n m)

-- messages handed to it one after the other; the answer is the first one's, 0 for none
unfoldable pub heeded : Label → ℕ → Card → List (List ℕ) → Out
heeded step n c [] = record { answer = 0; octets = []; card = c }
heeded step n c (m ∷ ms) =
    let o = step c n m in
    let later = heeded step n o.card ms in
    record { answer = o.answer; octets = o.octets ++ later.octets; card = later.card }

-- ---- a call

-- What a call answers, how many of the offered octets it ate, the message that it handed on, if any, the records that it wrote, and what it leaves.
pub record Called : Type 0 where
  pub answer : ℕ
  pub eaten : ℕ
  pub messages : List (List ℕ)
  pub octets : List ℕ
  pub card : Card
  pub stream : Stream

-- 20: under 348 octets of room, or a lent buffer under 4100
unfoldable pub session_short : ℕ → ℕ → Bool
session_short room lent = ltb room message_room || ltb lent stream_room

unfoldable pub call_refusal : ℕ → ℕ → ℕ → ℕ
call_refusal n room lent = 1 when no_neighbour n else 20 when session_short room lent else 0

unfoldable pub accepted : Label → List ℕ → ℕ → Card → Stream → List ℕ → Called
accepted step id n c s offered =
    let t = taken id s offered in
    let o = heeded step n c t.messages in
    record { answer = o.answer; eaten = t.eaten; messages = t.messages; octets = o.octets; card = o.card; stream = t.stream }

unfoldable pub called_by : ℕ → Label → List ℕ → ℕ → Card → Stream → List ℕ → Called
called_by zero step id n c s offered = accepted step id n c s offered
called_by (suc k) step id n c s offered = record { answer = suc k; eaten = 0; messages = []; octets = []; card = c; stream = s }

-- octets of neighbour n, whose identifier is `id`, offered with so much room for records and a lent buffer of so many octets
unfoldable pub called : Label → List ℕ → ℕ → ℕ → ℕ → Card → Stream → List ℕ → Called
called step id n room lent c s offered = called_by (call_refusal n room lent) step id n c s offered

-- the neighbour was lost: by the order's answer, the stream after it
unfoldable pub after_loss : ℕ → Stream → Stream
after_loss zero s = empty
after_loss (suc k) s = s

-- ---- calls one after the other

-- A caller has octets of the stream still to hand over. It offers so many of them, with so much room and so long a buffer.
pub record Cut : Type 0 where
  pub size : ℕ
  pub room : ℕ
  pub lent : ℕ

-- all that the calls read and wrote, what they left, and the octets that they did not eat
pub record Driven : Type 0 where
  pub messages : List (List ℕ)
  pub octets : List ℕ
  pub card : Card
  pub stream : Stream
  pub rest : List ℕ

unfoldable pub driven : Label → List ℕ → ℕ → List Cut → Card → Stream → List ℕ → Driven
driven step id n [] c s r = record { messages = []; octets = []; card = c; stream = s; rest = r }
driven step id n (x ∷ xs) c s r =
    let k = called step id n x.room x.lent c s (take x.size r) in
    let d = driven step id n xs k.card k.stream (drop k.eaten r) in
    record { messages = k.messages ++ d.messages; octets = k.octets ++ d.octets; card = d.card; stream = d.stream; rest = d.rest }

-- A piece of the stream that came in, and the calls made on it.
pub record Piece : Type 0 where
  pub octets : List ℕ
  pub calls : List Cut

-- the whole of what came in
unfoldable pub came_in : List Piece → List ℕ
came_in [] = []
came_in (p ∷ ps) = p.octets ++ came_in ps

-- piece after piece; the rest is what the calls on them did not eat
unfoldable pub pieced : Label → List ℕ → ℕ → List Piece → Card → Stream → Driven
pieced step id n [] c s = record { messages = []; octets = []; card = c; stream = s; rest = [] }
pieced step id n (p ∷ ps) c s =
    let d = driven step id n p.calls c s p.octets in
    let e = pieced step id n ps d.card d.stream in
    record { messages = d.messages ++ e.messages; octets = d.octets ++ e.octets; card = e.card; stream = e.stream; rest = d.rest ++ e.rest }

-- ---- the whole stream at once

unfoldable pub whole : Label → List ℕ → ℕ → Card → Stream → List ℕ → Driven
whole step id n c s r =
    let t = digest id s r in
    let o = heeded step n c t.messages in
    record { messages = t.messages; octets = o.octets; card = o.card; stream = t.stream; rest = [] }
