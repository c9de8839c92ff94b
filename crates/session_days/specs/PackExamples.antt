-- The writer by example: what a PDU looks like, how full it gets, whose messages are taken, and the refusals. Each table is one computed test.
-- Assumes nothing.
use Rattle.std.specs.Prelude.{ℕ, suc, ◌-◌, ◌&&◌, List, [], ◌∷◌, ◌++◌, take, length, replicate, eqb}
use Rattle.meaning.specs.Octets.{pick, same, two}
use Rattle.meaning.specs.Computing.{computing}
use Rattle.meaning.specs.Examples.{NoneWrong}
use Rattle.session.specs.Pack.{pdu, joined, groups_from, groups, pdus, packed, is_record, messages_f, messages_to, pack_refusal, packed_by, pack}

-- ---- how full PDUs get

-- the messages' lengths, and how many stand in each PDU
pub record Row : Type 0 where
  pub lengths : List ℕ
  pub counts : List ℕ

abbrev pub row : List ℕ → List ℕ → Row
row l c = record { lengths = l; counts = c }

-- a message of k octets
unfoldable pub long : ℕ → List ℕ
long k = 0x04 ∷ 0x00 ∷ (two (k - 4) ++ replicate (k - 4) 7)

unfoldable pub longs : List ℕ → List (List ℕ)
longs [] = []
longs (k ∷ ks) = long k ∷ longs ks

unfoldable pub counts_of : List (List (List ℕ)) → List ℕ
counts_of [] = []
counts_of (g ∷ gs) = length g ∷ counts_of gs

unfoldable pub wrong : ℕ → List Row → List ℕ
wrong n [] = []
wrong n (r ∷ rs) =
    let later = wrong (suc n) rs in
    let here = n ∷ later in
    pick (same (counts_of (groups (longs r.lengths))) r.counts) later here

unfoldable pub rows : List Row
rows =
    row [] [] ∷
    row (8 ∷ []) (1 ∷ []) ∷
    -- 4090 octets of messages fill a PDU
    row (4090 ∷ []) (1 ∷ []) ∷
    row (4090 ∷ 8 ∷ []) (1 ∷ 1 ∷ []) ∷
    row (4082 ∷ 8 ∷ []) (2 ∷ []) ∷
    row (4083 ∷ 8 ∷ []) (1 ∷ 1 ∷ []) ∷
    row (8 ∷ 4082 ∷ 8 ∷ []) (2 ∷ 1 ∷ []) ∷
    -- the order stays: a short one that would still fit does not overtake
    row (4000 ∷ 100 ∷ 8 ∷ []) (1 ∷ 2 ∷ []) ∷
    -- of the longest messages that we write, 170 octets, 24 go into a PDU
    row (replicate 24 170) (24 ∷ []) ∷
    row (replicate 25 170) (24 ∷ 1 ∷ []) ∷
    row (replicate 49 170) (24 ∷ 24 ∷ 1 ∷ []) ∷
    []

pub rows-shown : NoneWrong (wrong 1 rows)
unfolding computing joined groups_from groups wrong rows long longs counts_of
rows-shown = tt

-- ---- the call

-- neighbour, room, records; answer, octets
pub record PackRow : Type 0 where
  pub neighbour : ℕ
  pub room : ℕ
  pub records : List ℕ
  pub answer : ℕ
  pub octets : List ℕ

abbrev pub packs : ℕ → ℕ → List ℕ → ℕ → List ℕ → PackRow
packs n r s a o = record { neighbour = n; room = r; records = s; answer = a; octets = o }

-- our own identifier
unfoldable pub ours : List ℕ
ours = 0xC0 ∷ 0x00 ∷ 0x02 ∷ 0x01 ∷ 0x00 ∷ 0x00 ∷ []

unfoldable pub pack_wrong : ℕ → List PackRow → List ℕ
pack_wrong n [] = []
pack_wrong n (r ∷ rs) =
    let p = pack ours r.neighbour r.room r.records in
    let later = pack_wrong (suc n) rs in
    let here = n ∷ later in
    pick (eqb p.answer r.answer && same p.octets r.octets) later here

-- a record of a message to neighbour n
unfoldable pub to : ℕ → List ℕ → List ℕ
to n m = 0x4C ∷ 0x44 ∷ 0 ∷ n ∷ m

unfoldable pub pack_rows : List PackRow
pack_rows =
    -- one message, and two in one PDU, octet by octet
    packs 2 18 (to 2 (long 8)) 0 (0 ∷ 1 ∷ 0 ∷ 14 ∷ 0xC0 ∷ 0 ∷ 2 ∷ 1 ∷ 0 ∷ 0 ∷ 4 ∷ 0 ∷ 0 ∷ 4 ∷ 7 ∷ 7 ∷ 7 ∷ 7 ∷ []) ∷
    packs 2 99 (to 2 (long 8) ++ to 2 (long 9)) 0 (0 ∷ 1 ∷ 0 ∷ 23 ∷ 0xC0 ∷ 0 ∷ 2 ∷ 1 ∷ 0 ∷ 0 ∷ 4 ∷ 0 ∷ 0 ∷ 4 ∷ 7 ∷ 7 ∷ 7 ∷ 7 ∷ 4 ∷ 0 ∷ 0 ∷ 5 ∷ 7 ∷ 7 ∷ 7 ∷ 7 ∷ 7 ∷ []) ∷
    -- other neighbours' messages are passed over
    packs 2 18 (to 3 (long 9) ++ (to 2 (long 8) ++ to 0 (long 9))) 0 (pdu ours (long 8)) ∷
    packs 1 0 (to 3 (long 9) ++ to 2 (long 8)) 0 [] ∷
    packs 0 0 [] 0 [] ∷
    -- a full PDU, and one message more
    packs 15 4118 (to 15 (long 4090) ++ to 15 (long 8)) 0 (pdu ours (long 4090) ++ pdu ours (long 8)) ∷
    -- too little room by one; 1 comes before 16
    packs 2 17 (to 2 (long 8)) 16 [] ∷
    packs 15 4117 (to 15 (long 4090) ++ to 15 (long 8)) 16 [] ∷
    packs 16 17 (to 2 (long 8)) 1 [] ∷
    packs 16 18 (to 16 (long 8)) 1 [] ∷
    -- what is no whole record of a message of 8 to 4090 octets ends the records
    packs 2 99 (to 2 (long 8) ++ take 11 (to 2 (long 8))) 0 (pdu ours (long 8)) ∷
    packs 2 99 (0x4D ∷ to 2 (long 8)) 0 [] ∷
    packs 2 99 (to 2 (long 7) ++ to 2 (long 8)) 0 [] ∷
    packs 2 99 (to 2 (long 8) ++ (to 2 (long 4091) ++ to 2 (long 8))) 0 (pdu ours (long 8)) ∷
    []

pub packs-shown : NoneWrong (pack_wrong 1 pack_rows)
unfolding computing pdu joined groups_from groups pdus packed is_record messages_f messages_to pack_refusal packed_by pack pack_wrong pack_rows ours long to
packs-shown = tt
