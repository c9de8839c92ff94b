-- The stream of one neighbour: octets come in pieces, LDP PDUs and their messages are found in them (RFC 5036, 3.1).
-- A PDU: version 2 octets, length 2 (counts all after itself), identifier 6, then messages: type 2, length 2, and so many octets more.
-- Assumes nothing.
use Rattle.std.specs.Prelude.{ℕ, zero, suc, ◌+◌, ◌-◌, min, Bool, true, false, not, ◌||◌, List, [], ◌∷◌, ◌++◌, take, drop, length, eqb, ltb}
use Rattle.meaning.specs.Octets.{pick, same, two_at}

-- ---- sizes

-- a PDU's head: version, length, identifier
abbrev pub pdu_head : ℕ
pdu_head = 10

abbrev pub identifier_size : ℕ
identifier_size = 6

-- the length field, which counts all after itself
abbrev pub least_length : ℕ
least_length = 14

abbrev pub most_length : ℕ
most_length = 4096

-- the most octets of messages that a PDU has
abbrev pub body_limit : ℕ
body_limit = most_length - identifier_size

-- ---- what the octets at the front show

pub data Look : Type 0 where
  -- nothing yet: it takes more octets to tell
  wait : Look
  -- they stop the stream
  bad : Look
  -- a PDU's head in good order, after which its messages have so many octets
  head : ℕ → Look
  -- a whole message of so many octets
  message : ℕ → Look

-- the version is 1, the length field 14 to 4096, the identifier the expected one
unfoldable pub wrong_version : List ℕ → Bool
wrong_version s = not (eqb (two_at s 0) 1)

unfoldable pub wrong_length : List ℕ → Bool
wrong_length s = ltb (two_at s 2) least_length || ltb most_length (two_at s 2)

unfoldable pub wrong_id : List ℕ → List ℕ → Bool
wrong_id id s = not (same (take identifier_size (drop 4 s)) id)

-- at the front of a PDU: each field is tested as soon as its octets are there
unfoldable pub look_head : List ℕ → List ℕ → Look
look_head id s =
    pick (ltb (length s) 2) wait
    (pick (wrong_version s) bad
    (pick (ltb (length s) 4) wait
    (pick (wrong_length s) bad
    (pick (ltb (length s) pdu_head) wait
    (pick (wrong_id id s) bad
    (head (two_at s 2 - identifier_size)))))))

-- how many octets a message has, by its length field
unfoldable pub message_size : List ℕ → ℕ
message_size s = 4 + two_at s 2

-- at the front of a message, where the PDU has `left` octets left: a head or a value that runs past them stops the stream
unfoldable pub look_message : ℕ → List ℕ → Look
look_message left s =
    pick (ltb left 4) bad
    (pick (ltb (length s) 4) wait
    (pick (ltb left (message_size s)) bad
    (pick (ltb (length s) (message_size s)) wait
    (message (message_size s)))))

-- no octets left of a PDU: the next one begins
unfoldable pub look : List ℕ → ℕ → List ℕ → Look
look id zero s = look_head id s
look id (suc n) s = look_message (suc n) s

-- ---- a stream between two calls

-- Stopped, or reading: how many octets of the PDU are left, from the first that is held on, and the octets held.
pub data Stream : Type 0 where
  stopped : Stream
  reading : ℕ → List ℕ → Stream

-- as at the start, and after the neighbour was lost
unfoldable pub empty : Stream
empty = reading 0 []

-- so many octets are held at most: a PDU's head, or what is left of the PDU
unfoldable pub limit : ℕ → ℕ
limit zero = pdu_head
limit (suc n) = suc n

unfoldable pub is_message : Look → Bool
is_message wait = false
is_message bad = false
is_message (head n) = false
is_message (message k) = true

-- a whole message is held
unfoldable pub holds_message : Stream → Bool
holds_message stopped = false
holds_message (reading left held) = is_message (look_message left held)

unfoldable pub is_stopped : Stream → Bool
is_stopped stopped = true
is_stopped (reading left held) = false

-- ---- what one call does to the stream

-- some offered octets are held besides, of those that were offered
pub record Filled : Type 0 where
  pub left : ℕ
  pub held : List ℕ
  pub eaten : ℕ

-- how many octets more may be held
unfoldable pub space : ℕ → List ℕ → ℕ
space left held = limit left - length held

-- as many as may be held; `e` octets were eaten before
unfoldable pub fill : ℕ → List ℕ → ℕ → List ℕ → Filled
fill left held e offered = record { left = left; held = held ++ take (space left held) offered; eaten = e + min (space left held) (length offered) }

-- a PDU's head is done with, and more is eaten
unfoldable pub opened : Look → Filled → List ℕ → Filled
opened wait f offered = f
opened bad f offered = f
opened (head n) f offered = fill n (drop pdu_head f.held) f.eaten (drop f.eaten offered)
opened (message k) f offered = f

unfoldable pub filled : List ℕ → ℕ → List ℕ → List ℕ → Filled
filled id left held offered =
    let f = fill left held 0 offered in
    opened (look id left f.held) f offered

-- the messages that were read, and the stream after them
pub record Read : Type 0 where
  pub messages : List (List ℕ)
  pub stream : Stream

-- what is held, unless it shows that the stream stops
unfoldable pub settled_by : Look → ℕ → List ℕ → Stream
settled_by wait left held = reading left held
settled_by bad left held = stopped
settled_by (head n) left held = reading left held
settled_by (message k) left held = reading left held

unfoldable pub settled : List ℕ → ℕ → List ℕ → Stream
settled id left held = settled_by (look id left held) left held

-- at most one message is done with
unfoldable pub worked_by : List ℕ → Look → ℕ → List ℕ → Read
worked_by id wait left held = record { messages = []; stream = reading left held }
worked_by id bad left held = record { messages = []; stream = stopped }
worked_by id (head n) left held = record { messages = []; stream = reading left held }
worked_by id (message k) left held = record { messages = take k held ∷ []; stream = settled id (left - k) (drop k held) }

unfoldable pub worked : List ℕ → ℕ → List ℕ → Read
worked id left held = worked_by id (look id left held) left held

-- what a call takes: how many of the offered octets it ate, the message that it read, if any, and the stream after it
pub record Taken : Type 0 where
  pub eaten : ℕ
  pub messages : List (List ℕ)
  pub stream : Stream

-- a stopped stream's octets are all eaten, and dropped
unfoldable pub eaten_of : Stream → ℕ → ℕ → ℕ
eaten_of stopped all some = all
eaten_of (reading left held) all some = some

unfoldable pub taken : List ℕ → Stream → List ℕ → Taken
taken id stopped offered = record { eaten = length offered; messages = []; stream = stopped }
taken id (reading left held) offered =
    let f = filled id left held offered in
    let w = worked id f.left f.held in
    record { eaten = eaten_of w.stream (length offered) f.eaten; messages = w.messages; stream = w.stream }

-- ---- the whole stream at once: what the cuts can't change

unfoldable pub parsed_by : (ℕ → List ℕ → Read) → ℕ → List ℕ → Look → Read
parsed_by more left s wait = record { messages = []; stream = reading left s }
parsed_by more left s bad = record { messages = []; stream = stopped }
parsed_by more left s (head n) = more n (drop pdu_head s)
parsed_by more left s (message k) = let r = more (left - k) (drop k s) in record { messages = take k s ∷ r.messages; stream = r.stream }

-- A head and a message take four octets at least: the octets' number and one is enough of a count.
unfoldable pub parsed_f : List ℕ → ℕ → ℕ → List ℕ → Read
parsed_f id zero left s = record { messages = []; stream = reading left s }
parsed_f id (suc f) left s = parsed_by (parsed_f id f) left s (look id left s)

unfoldable pub parsed : List ℕ → ℕ → List ℕ → Read
parsed id left s = parsed_f id (suc (length s)) left s

-- the messages in what is held and the octets after it, and what is then held
unfoldable pub digest : List ℕ → Stream → List ℕ → Read
digest id stopped s = record { messages = []; stream = stopped }
digest id (reading left held) s = parsed id left (held ++ s)
