-- The record that tells a neighbour why its message was refused: RFC 5036's Notification message (3.5.1) with one Status TLV (3.4.6).
-- The octets are written from the refusal's number and the refused octets, and read back.
-- Assumes nothing.
use Rattle.std.specs.Prelude.{ℕ, ◌+◌, ◌%◌, Bool, not, ◌&&◌, ◌||◌, List, [], ◌∷◌, ◌++◌, length, eqb, leb, ltb}
use Rattle.meaning.specs.Octets.{pick, any, two, four, two_at, four_at, ◌when◌else◌}
use Rattle.meaning.specs.Wire.{tlv, next_id}
use Rattle.meaning.specs.Card.{Card}
use Rattle.meaning.specs.Events.{Out, refuse, accept, room_short, no_neighbour}

-- ---- the status

-- the status data of a refusal (RFC 5036, 3.9); 0, which is no error, for a refusal of which the neighbour is not told
unfoldable pub status_of : ℕ → ℕ
status_of number =
    -- Bad Message Length
    0x05 when eqb number 2 else
    -- Unknown Message Type
    0x04 when eqb number 3 else
    -- Bad TLV Length
    0x07 when eqb number 4 else
    -- Missing Message Parameters
    0x16 when eqb number 5 else
    -- Unknown FEC
    0x0C when eqb number 6 || eqb number 7 || eqb number 18 else
    -- Malformed TLV Value
    0x08 when eqb number 8 else
    -- Unknown TLV
    0x06 when eqb number 9 else
    -- No Label Resources
    0x0E when eqb number 11 || eqb number 12 else 0

-- the status data that some refusal has
unfoldable pub is_status : ℕ → Bool
is_status status = any (eqb status) (0x04 ∷ 0x05 ∷ 0x06 ∷ 0x07 ∷ 0x08 ∷ 0x0C ∷ 0x0E ∷ 0x16 ∷ [])

-- a fatal error, after which RFC 5036 has the session closed
unfoldable pub is_fatal : ℕ → Bool
is_fatal status = eqb status 0x05 || eqb status 0x07 || eqb status 0x08

-- The status code's 32 bits: E, set for a fatal error; F, which is clear, so that the notification is not forwarded; and 30 of status data.
unfoldable pub status_code : ℕ → ℕ
status_code status = (0x80000000 when is_fatal status else 0) + status

-- ---- what is copied from the refused octets: below 8 they hold no whole head of a message

unfoldable pub copied_id : List ℕ → ℕ
copied_id s = pick (ltb (length s) 8) 0 (four_at s 4)

unfoldable pub copied_type : List ℕ → ℕ
copied_type s = pick (ltb (length s) 8) 0 (two_at s 0)

-- a type field whose U bit is set: who does not know it ignores it, and says nothing
unfoldable pub is_ignorable : ℕ → Bool
is_ignorable t = leb 0x8000 t

-- ---- writing

-- whether the neighbour is told at all
unfoldable pub notice_due : ℕ → List ℕ → Bool
notice_due number s = not (eqb (status_of number) 0) && not (eqb number 3 && is_ignorable (copied_type s))

-- the Status TLV's value
unfoldable pub status_value : ℕ → List ℕ → List ℕ
status_value number s = four (status_code (status_of number)) ++ (four (copied_id s) ++ two (copied_type s))

-- the Notification message, of 22 octets
unfoldable pub notice_octets : ℕ → ℕ → List ℕ → List ℕ
notice_octets id number s =
    let rest = four id ++ tlv 0x0300 (status_value number s) [] in
    two 0x0001 ++ (two (length rest) ++ rest)

-- the record, of 26 octets: as every record, the mark and the neighbour before the message
unfoldable pub notice_record : ℕ → ℕ → ℕ → List ℕ → List ℕ
notice_record id neighbour number s = 0x4C ∷ 0x44 ∷ (two neighbour ++ notice_octets id number s)

-- The call, with the room that the output has: 1 comes first, and 16 only where a record is due. A record takes the next identifier.
unfoldable pub notice : ℕ → Card → ℕ → ℕ → List ℕ → Out
notice room c neighbour number s =
    let written = notice_record c.next neighbour number s in
    let told = pick (room_short room written) (refuse 16 c) (accept written (next_id c.next) c) in
    let silent = accept [] c.next c in
    pick (no_neighbour neighbour) (refuse 1 c) (pick (notice_due number s) told silent)

-- ---- reading

-- what a record says: to whom, its own identifier, the status data, and the refused message's identifier and type
pub record Notice : Type 0 where
  pub neighbour : ℕ
  pub id : ℕ
  pub status : ℕ
  pub refused_id : ℕ
  pub refused_type : ℕ

unfoldable pub notice_in : List ℕ → Notice
notice_in o = record { neighbour = two_at o 2; id = four_at o 8; status = four_at o 16 % 0x40000000; refused_id = four_at o 20; refused_type = two_at o 24 }

-- the mark, a neighbour, and the two heads, which are the same in every record
unfoldable pub is_framed : List ℕ → Bool
is_framed o =
    eqb (length o) 26 && eqb (two_at o 0) 0x4C44 && leb (two_at o 2) 15
    && eqb (two_at o 4) 0x0001 && eqb (two_at o 6) 18 && eqb (two_at o 12) 0x0300 && eqb (two_at o 14) 10

-- a status that some refusal has, its E bit right and its F bit clear; of an unknown message type, one whose U bit is clear
unfoldable pub is_told : List ℕ → Bool
is_told o =
    let n = notice_in o in
    is_status n.status && eqb (four_at o 16) (status_code n.status) && not (eqb n.status 0x04 && is_ignorable n.refused_type)

-- 21: not one record that the writer could write
unfoldable pub notice_refusal : List ℕ → ℕ
notice_refusal o = 21 when not (is_framed o && is_told o) else 0
