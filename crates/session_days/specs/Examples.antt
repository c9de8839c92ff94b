-- Streams by example: both sides of each edge, each stream cut at every place, and calls one by one. Each table is one computed test.
-- Assumes nothing.
use Rattle.std.specs.Prelude.{ℕ, zero, suc, Bool, true, false, ◌&&◌, List, [], ◌∷◌, ◌++◌, take, drop, length, replicate, eqb}
use Rattle.meaning.specs.Octets.{pick, same, all, two}
use Rattle.meaning.specs.Wire.{mapping, withdraw, release, octets_of, message_refusal}
use Rattle.meaning.specs.Card.{fresh}
use Rattle.meaning.specs.Computing.{computing}
use Rattle.meaning.specs.Examples.{A, first_card, wrote, case1, NoneWrong}
use Rattle.session.specs.Stream.{wrong_version, wrong_length, wrong_id, look_head, message_size, look_message, look, Stream, stopped, reading, empty, limit, is_message, holds_message, space, fill, opened, filled, settled_by, settled, worked_by, worked, eaten_of, taken, parsed_by, parsed_f, parsed, digest}
use Rattle.session.specs.Session.{Label, label, heeded, Called, session_short, call_refusal, accepted, called_by, called, driven, Piece, pieced}

-- as `computing`, for the definitions of streams
unfoldable pub computing_streams : ℕ
unfolding computing all wrong_version wrong_length wrong_id look_head message_size look_message look empty limit is_message holds_message space fill opened filled settled_by settled worked_by worked eaten_of taken parsed_by parsed_f parsed digest label heeded session_short call_refusal accepted called_by called driven pieced
computing_streams = 0

-- ---- streams, each cut at every place

-- octets that come in on an empty stream, the messages read, and the stream at the end
pub record Row : Type 0 where
  pub octets : List ℕ
  pub reads : List (List ℕ)
  pub stream : List ℕ

abbrev pub row : List ℕ → List (List ℕ) → List ℕ → Row
row o r s = record { octets = o; reads = r; stream = s }

-- a stream as a list: 1 for a stopped one; 0, the octets left of the PDU, the octets held
unfoldable pub flat : Stream → List ℕ
flat stopped = 1 ∷ []
flat (reading left h) = 0 ∷ left ∷ h

unfoldable pub same_all : List (List ℕ) → List (List ℕ) → Bool
same_all [] [] = true
same_all [] (y ∷ ys) = false
same_all (x ∷ xs) [] = false
same_all (x ∷ xs) (y ∷ ys) = let rest = same_all xs ys in pick (same x y) rest false

-- a label part that answers as the wire's reader does, and writes the message itself
unfoldable pub plain : Label
plain c n m = record { answer = message_refusal m; octets = m; card = c }

-- the expected identifier
unfoldable pub theirs : List ℕ
theirs = 0xC0 ∷ 0x00 ∷ 0x02 ∷ 0x09 ∷ 0x00 ∷ 0x00 ∷ []

-- a piece on which ten calls are made, with just enough room
unfoldable pub piece : List ℕ → Piece
piece s = record { octets = s; calls = replicate 10 (record { size = 9999; room = 348; lent = 4100 }) }

unfoldable pub pieces : List (List ℕ) → List Piece
pieces [] = []
pieces (s ∷ ss) = piece s ∷ pieces ss

unfoldable pub agrees : Row → List (List ℕ) → Bool
agrees r cut =
    let d = pieced plain theirs 1 (pieces cut) (fresh 16) empty in
    same_all d.messages r.reads && same (flat d.stream) r.stream && same d.rest []

-- octet by octet
unfoldable pub singles : List ℕ → List (List ℕ)
singles [] = []
singles (x ∷ s) = (x ∷ []) ∷ singles s

-- cut in two at each of the places up to k
unfoldable pub two_pieces : ℕ → List ℕ → List (List (List ℕ))
two_pieces zero s = (s ∷ []) ∷ []
two_pieces (suc k) s = (take (suc k) s ∷ drop (suc k) s ∷ []) ∷ two_pieces k s

unfoldable pub cuts_of : List ℕ → List (List (List ℕ))
cuts_of s = singles s ∷ two_pieces (length s) s

-- the numbers of the rows, counted from n, that do not agree with what the definitions give, in one of the cuts
unfoldable pub wrong : ℕ → List Row → List ℕ
wrong n [] = []
wrong n (r ∷ rs) =
    let later = wrong (suc n) rs in
    let here = n ∷ later in
    pick (all (agrees r) (cuts_of r.octets)) later here

-- a PDU's head with this length field
unfoldable pub head_of : ℕ → List ℕ
head_of k = 0 ∷ 1 ∷ (two k ++ theirs)

-- messages of 8, 9, 4 and 7 octets, and one that says 9 octets and runs past a PDU of 8
unfoldable pub m8 : List ℕ
m8 = 0x04 ∷ 0x00 ∷ 0 ∷ 4 ∷ 0 ∷ 0 ∷ 0 ∷ 1 ∷ []

unfoldable pub m9 : List ℕ
m9 = 0x04 ∷ 0x02 ∷ 0 ∷ 5 ∷ 0 ∷ 0 ∷ 0 ∷ 2 ∷ 7 ∷ []

unfoldable pub m4 : List ℕ
m4 = 0x04 ∷ 0x00 ∷ 0 ∷ 0 ∷ []

unfoldable pub m7 : List ℕ
m7 = 0x04 ∷ 0x00 ∷ 0 ∷ 3 ∷ 0 ∷ 0 ∷ 0 ∷ []

unfoldable pub rows : List Row
rows =
    -- octets, messages read, the stream at the end
    row [] [] (0 ∷ 0 ∷ []) ∷
    -- one message, two in one PDU, two in two PDUs
    row (head_of 14 ++ m8) (m8 ∷ []) (0 ∷ 0 ∷ []) ∷
    row (head_of 23 ++ (m8 ++ m9)) (m8 ∷ m9 ∷ []) (0 ∷ 0 ∷ []) ∷
    row (head_of 14 ++ (m8 ++ (head_of 15 ++ m9))) (m8 ∷ m9 ∷ []) (0 ∷ 0 ∷ []) ∷
    -- what is not whole is held
    row (head_of 23 ++ (m8 ++ take 8 m9)) (m8 ∷ []) (0 ∷ 9 ∷ take 8 m9) ∷
    row (head_of 23 ++ m8) (m8 ∷ []) (0 ∷ 9 ∷ []) ∷
    row (head_of 23) [] (0 ∷ 17 ∷ []) ∷
    row (head_of 14 ++ (m8 ++ take 9 (head_of 14))) (m8 ∷ []) (0 ∷ 0 ∷ take 9 (head_of 14)) ∷
    row (0 ∷ []) [] (0 ∷ 0 ∷ 0 ∷ []) ∷
    row (7 ∷ []) [] (0 ∷ 0 ∷ 7 ∷ []) ∷
    -- the version, as soon as it is there
    row (0 ∷ 0 ∷ []) [] (1 ∷ []) ∷
    row (0 ∷ 1 ∷ []) [] (0 ∷ 0 ∷ 0 ∷ 1 ∷ []) ∷
    row (0 ∷ 2 ∷ []) [] (1 ∷ []) ∷
    row (1 ∷ 1 ∷ []) [] (1 ∷ []) ∷
    -- the length
    row (0 ∷ 1 ∷ two 13) [] (1 ∷ []) ∷
    row (0 ∷ 1 ∷ two 14) [] (0 ∷ 0 ∷ 0 ∷ 1 ∷ 0 ∷ 14 ∷ []) ∷
    row (0 ∷ 1 ∷ two 4096) [] (0 ∷ 0 ∷ 0 ∷ 1 ∷ 16 ∷ 0 ∷ []) ∷
    row (0 ∷ 1 ∷ two 4097) [] (1 ∷ []) ∷
    row (0 ∷ 1 ∷ 0xFF ∷ []) [] (0 ∷ 0 ∷ 0 ∷ 1 ∷ 0xFF ∷ []) ∷
    row (head_of 4096) [] (0 ∷ 4090 ∷ []) ∷
    -- the identifier, its first octet and its last: once all six are there
    row (0 ∷ 1 ∷ 0 ∷ 14 ∷ 0xC1 ∷ 0 ∷ 2 ∷ 9 ∷ 0 ∷ []) [] (0 ∷ 0 ∷ 0 ∷ 1 ∷ 0 ∷ 14 ∷ 0xC1 ∷ 0 ∷ 2 ∷ 9 ∷ 0 ∷ []) ∷
    row (0 ∷ 1 ∷ 0 ∷ 14 ∷ 0xC1 ∷ 0 ∷ 2 ∷ 9 ∷ 0 ∷ 0 ∷ []) [] (1 ∷ []) ∷
    row (0 ∷ 1 ∷ 0 ∷ 14 ∷ 0xC0 ∷ 0 ∷ 2 ∷ 9 ∷ 0 ∷ 1 ∷ []) [] (1 ∷ []) ∷
    -- a message that runs past its PDU, as soon as its length field is there
    row (head_of 14 ++ take 3 m9) [] (0 ∷ 8 ∷ take 3 m9) ∷
    row (head_of 14 ++ take 4 m9) [] (1 ∷ []) ∷
    row (head_of 14 ++ m9) [] (1 ∷ []) ∷
    row (head_of 22 ++ (m8 ++ m9)) (m8 ∷ []) (1 ∷ []) ∷
    -- one to three octets left in a PDU are a message's head that runs past it; four are not
    row (head_of 15 ++ m8) (m8 ∷ []) (1 ∷ []) ∷
    row (head_of 17 ++ (m8 ++ (0 ∷ []))) (m8 ∷ []) (1 ∷ []) ∷
    row (head_of 18 ++ m8) (m8 ∷ []) (0 ∷ 4 ∷ []) ∷
    -- messages with no room for an identifier go to the label part, which refuses them 2, and the next one is read
    row (head_of 18 ++ (m8 ++ m4)) (m8 ∷ m4 ∷ []) (0 ∷ 0 ∷ []) ∷
    row (head_of 18 ++ (m4 ++ m8)) (m4 ∷ m8 ∷ []) (0 ∷ 0 ∷ []) ∷
    row (head_of 21 ++ (m7 ++ m8)) (m7 ∷ m8 ∷ []) (0 ∷ 0 ∷ []) ∷
    -- after it stopped, all is dropped
    row (0 ∷ 0 ∷ (head_of 14 ++ m8)) [] (1 ∷ []) ∷
    row (head_of 13 ++ (m8 ++ (head_of 14 ++ m8))) [] (1 ∷ []) ∷
    row (head_of 23 ++ (m8 ++ (m8 ++ (head_of 14 ++ m8)))) (m8 ∷ m8 ∷ []) (1 ∷ []) ∷
    []

pub rows-shown : NoneWrong (wrong 1 rows)
unfolding computing computing_streams wrong rows agrees piece pieces singles two_pieces cuts_of flat same_all plain theirs head_of m8 m9 m4 m7
rows-shown = tt

-- ---- calls one by one

-- neighbour, room, lent buffer, octets offered; answer, octets eaten, message handed on, stream after it
pub record CallRow : Type 0 where
  pub neighbour : ℕ
  pub room : ℕ
  pub lent : ℕ
  pub offered : List ℕ
  pub answer : ℕ
  pub eaten : ℕ
  pub reads : List (List ℕ)
  pub stream : List ℕ

abbrev pub calls : ℕ → ℕ → ℕ → List ℕ → ℕ → ℕ → List (List ℕ) → List ℕ → CallRow
calls n r l o a e m s = record { neighbour = n; room = r; lent = l; offered = o; answer = a; eaten = e; reads = m; stream = s }

-- a call with just enough room
abbrev pub offers : List ℕ → ℕ → ℕ → List (List ℕ) → List ℕ → CallRow
offers o a e m s = calls 1 348 4100 o a e m s

unfoldable pub call_agrees : CallRow → Called → Bool
call_agrees r k = eqb k.answer r.answer && eqb k.eaten r.eaten && same_all k.messages r.reads && same (flat k.stream) r.stream

-- each call on the stream that the call before it left
unfoldable pub calls_wrong : ℕ → Stream → List CallRow → List ℕ
calls_wrong n s [] = []
calls_wrong n s (r ∷ rs) =
    let k = called plain theirs r.neighbour r.room r.lent (fresh 16) s r.offered in
    let later = calls_wrong (suc n) k.stream rs in
    let here = n ∷ later in
    pick (call_agrees r k) later here

unfoldable pub call_rows : List CallRow
call_rows =
    -- 1 comes before 20, and 20 eats nothing
    calls 16 0 0 m8 1 0 [] (0 ∷ 0 ∷ []) ∷
    calls 16 348 4100 m8 1 0 [] (0 ∷ 0 ∷ []) ∷
    calls 15 347 4100 m8 20 0 [] (0 ∷ 0 ∷ []) ∷
    calls 15 348 4099 m8 20 0 [] (0 ∷ 0 ∷ []) ∷
    -- a PDU and the next one offered: a call eats to the PDU's end, and does one message (the wire's reader refuses it 5: it has no TLV)
    calls 15 348 4100 (head_of 23 ++ (m8 ++ (m9 ++ head_of 14))) 5 27 (m8 ∷ []) (0 ∷ 9 ∷ m9) ∷
    -- the next message is held: a call with nothing offered does it; with something offered it eats none of it
    calls 0 347 4100 (head_of 14) 20 0 [] (0 ∷ 9 ∷ m9) ∷
    calls 0 349 5000 (head_of 14) 4 0 (m9 ∷ []) (0 ∷ 0 ∷ []) ∷
    offers [] 0 0 [] (0 ∷ 0 ∷ []) ∷
    -- a head alone, and the message in two parts; a message under 8 octets is refused 2
    offers (head_of 18) 0 10 [] (0 ∷ 12 ∷ []) ∷
    offers (take 3 m4) 0 3 [] (0 ∷ 12 ∷ take 3 m4) ∷
    offers (drop 3 m4 ++ m8) 2 9 (m4 ∷ []) (0 ∷ 8 ∷ m8) ∷
    offers [] 5 0 (m8 ∷ []) (0 ∷ 0 ∷ []) ∷
    -- a call that stops the stream eats all; so does each later one, but 1 and 20 are refused as ever
    offers (head_of 14 ++ (take 4 m9 ++ (head_of 14 ++ m8))) 0 32 [] (1 ∷ []) ∷
    offers (head_of 14 ++ m8) 0 18 [] (1 ∷ []) ∷
    calls 16 348 4100 m8 1 0 [] (1 ∷ []) ∷
    calls 1 347 4100 m8 20 0 [] (1 ∷ []) ∷
    offers [] 0 0 [] (1 ∷ []) ∷
    []

pub calls-shown : NoneWrong (calls_wrong 1 empty call_rows)
unfolding computing computing_streams calls_wrong call_rows call_agrees flat same_all plain theirs head_of m8 m9 m4 m7
calls-shown = tt

-- ---- the longest PDU

-- a message of 4090 octets
unfoldable pub longest : List ℕ
longest = 0x04 ∷ 0x00 ∷ (two 4086 ++ replicate 4086 7)

-- pieces that come in on an empty stream; how many messages of how many octets, and the stream at the end: stopped or not, octets left, octets held
pub record LongRow : Type 0 where
  pub came : List (List ℕ)
  pub lengths : List ℕ
  pub stream : List ℕ

abbrev pub long : List (List ℕ) → List ℕ → List ℕ → LongRow
long p l s = record { came = p; lengths = l; stream = s }

unfoldable pub lengths : List (List ℕ) → List ℕ
lengths [] = []
lengths (m ∷ ms) = length m ∷ lengths ms

unfoldable pub sizes : Stream → List ℕ
sizes stopped = 1 ∷ []
sizes (reading left h) = 0 ∷ left ∷ length h ∷ []

unfoldable pub long_wrong : ℕ → List LongRow → List ℕ
long_wrong n [] = []
long_wrong n (r ∷ rs) =
    let d = pieced plain theirs 1 (pieces r.came) (fresh 16) empty in
    let later = long_wrong (suc n) rs in
    let here = n ∷ later in
    pick (same (lengths d.messages) r.lengths && same (sizes d.stream) r.stream && same d.rest []) later here

unfoldable pub long_rows : List LongRow
long_rows =
    long ((head_of 4096 ++ longest) ∷ []) (4090 ∷ []) (0 ∷ 0 ∷ 0 ∷ []) ∷
    long (head_of 4096 ∷ longest ∷ []) (4090 ∷ []) (0 ∷ 0 ∷ 0 ∷ []) ∷
    -- all but one octet of it are held; then it is whole
    long ((head_of 4096 ++ take 4089 longest) ∷ []) [] (0 ∷ 4090 ∷ 4089 ∷ []) ∷
    long ((head_of 4096 ++ take 4089 longest) ∷ (7 ∷ head_of 14) ∷ []) (4090 ∷ []) (0 ∷ 8 ∷ 0 ∷ []) ∷
    -- it does not fit a PDU one octet shorter
    long ((head_of 4095 ++ take 4 longest) ∷ []) [] (1 ∷ []) ∷
    []

pub long-shown : NoneWrong (long_wrong 1 long_rows)
unfolding computing computing_streams long_wrong long_rows longest lengths sizes piece pieces plain theirs head_of
long-shown = tt

-- ---- the label part of document 01

-- a message <A, l> that neighbour 1 sends
unfoldable pub hears : ℕ → ℕ → List ℕ
hears k l = octets_of 77 (record { kind = k; name = A; label = l })

-- Mapping <A, 100>, then a Mapping that is refused 8 and passed over, then Withdraw <A, 100>: 37 octets each, in a PDU of two and one of one
unfoldable pub talk : List ℕ
talk = head_of 80 ++ (hears mapping 100 ++ (hears mapping 15 ++ (head_of 43 ++ hears withdraw 100)))

unfoldable pub talked : List (List ℕ) → Bool
talked cut =
    let d = pieced label theirs 1 (pieces cut) first_card empty in
    same d.octets (case1 ++ (wrote 2 1 release 100 ++ wrote 3 0 withdraw 16)) && same (flat d.stream) (0 ∷ 0 ∷ []) && eqb d.card.next 4 && eqb (length d.messages) 3

pub talk-shown : NoneWrong (pick (all talked (singles talk ∷ (talk ∷ []) ∷ (take 12 talk ∷ drop 12 talk ∷ []) ∷ (take 47 talk ∷ drop 47 talk ∷ []) ∷ (take 90 talk ∷ drop 90 talk ∷ []) ∷ [])) [] (1 ∷ []))
unfolding computing computing_streams talked talk hears singles piece pieces flat theirs head_of A first_card case1 wrote
talk-shown = tt
