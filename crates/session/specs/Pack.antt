-- The writer: one neighbour's messages, in order, in PDUs as full of whole ones as 4096 allows.
-- Assumes nothing.
use Rattle.std.specs.Prelude.{ℕ, zero, suc, ◌+◌, Bool, ◌&&◌, List, [], ◌∷◌, ◌++◌, take, drop, get_or, length, eqb, leb, ltb}
use Rattle.meaning.specs.Octets.{pick, two, two_at, ◌when◌else◌}
use Rattle.meaning.specs.Events.{no_neighbour}
use Rattle.session.specs.Stream.{identifier_size, body_limit}

-- ---- PDUs

-- version 1, the length of all after itself, the identifier, messages
unfoldable pub pdu : List ℕ → List ℕ → List ℕ
pdu id body = two 1 ++ (two (identifier_size + length body) ++ (id ++ body))

unfoldable pub joined : List (List ℕ) → List ℕ
joined [] = []
joined (m ∷ ms) = m ++ joined ms

-- the messages of each PDU, where `g` stand in the one that is being filled
unfoldable pub groups_from : List (List ℕ) → List (List ℕ) → List (List (List ℕ))
groups_from g [] = g ∷ []
groups_from g (m ∷ ms) =
    let fuller = groups_from (g ++ (m ∷ [])) ms in
    let another = g ∷ groups_from (m ∷ []) ms in
    pick (leb (length (joined g) + length m) body_limit) fuller another

-- no message, no PDU
unfoldable pub groups : List (List ℕ) → List (List (List ℕ))
groups [] = []
groups (m ∷ ms) = groups_from (m ∷ []) ms

unfoldable pub pdus : List ℕ → List (List (List ℕ)) → List ℕ
pdus id [] = []
pdus id (g ∷ gs) = pdu id (joined g) ++ pdus id gs

-- the octets to send
unfoldable pub packed : List ℕ → List (List ℕ) → List ℕ
packed id ms = pdus id (groups ms)

-- ---- one neighbour's messages in records

-- octets that begin with a whole record: the mark, and a message of 8 to 4090 octets
unfoldable pub is_record : List ℕ → Bool
is_record s =
    leb 12 (length s) && eqb (get_or s 0 0) 0x4C && eqb (get_or s 1 0) 0x44 && leb 4 (two_at s 6)
    && leb (4 + two_at s 6) body_limit && leb (8 + two_at s 6) (length s)

-- A record takes twelve octets at least: the octets' number is enough of a count. What is no record ends them.
unfoldable pub messages_f : ℕ → ℕ → List ℕ → List (List ℕ)
messages_f zero n s = []
messages_f (suc f) n s =
    let k = 4 + two_at s 6 in
    let later = messages_f f n (drop (4 + k) s) in
    let here = take k (drop 4 s) ∷ later in
    let some = pick (eqb (two_at s 2) n) here later in
    pick (is_record s) some []

unfoldable pub messages_to : ℕ → List ℕ → List (List ℕ)
messages_to n s = messages_f (length s) n s

-- ---- the call

pub record Packed : Type 0 where
  pub answer : ℕ
  pub octets : List ℕ

unfoldable pub pack_refusal : ℕ → ℕ → List ℕ → ℕ
pack_refusal n room octets = 1 when no_neighbour n else 16 when ltb room (length octets) else 0

unfoldable pub packed_by : ℕ → List ℕ → Packed
packed_by zero octets = record { answer = 0; octets = octets }
packed_by (suc k) octets = record { answer = suc k; octets = [] }

-- the messages to neighbour n in these records, for an output of so many octets; `id` is our own identifier
unfoldable pub pack : List ℕ → ℕ → ℕ → List ℕ → Packed
pack id n room records =
    let octets = packed id (messages_to n records) in
    packed_by (pack_refusal n room octets) octets
