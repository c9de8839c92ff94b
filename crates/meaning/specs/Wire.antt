-- What goes over the wire: RFC 5036's messages and TLVs, RFC 6388's P2MP FEC element, read and written.
-- A message is read into three things, or refused by the first number, of 2 to 7, 18, 8 and 9, that applies.
-- Assumes nothing.
use Rattle.std.specs.Prelude.{ℕ, zero, suc, ◌+◌, ◌*◌, ◌-◌, ◌%◌, Bool, true, false, not, ◌&&◌, ◌||◌, List, [], ◌∷◌, ◌++◌, take, drop, get_or, length, eqb, leb, ltb}
use Rattle.meaning.specs.Octets.{pick, any, two, four, two_at, four_at, ◌when◌else◌}

-- ---- names

-- A tree's name is the octets of its P2MP FEC element. These read it.

-- the address length that a family has; 0 for a family that is not known
unfoldable pub address_length : ℕ → ℕ
address_length family = pick (eqb family 1) 4 (pick (eqb family 2) 16 0)

unfoldable pub family_in : List ℕ → ℕ
family_in e = two_at e 1

-- the root's length, by the family field, and the opaque length field
unfoldable pub root_length : List ℕ → ℕ
root_length e = address_length (family_in e)

unfoldable pub opaque_length : List ℕ → ℕ
opaque_length e = two_at e (4 + root_length e)

unfoldable pub root_in : List ℕ → List ℕ
root_in e = take (root_length e) (drop 4 e)

unfoldable pub opaque_in : List ℕ → List ℕ
opaque_in e = drop (6 + root_length e) e

-- what 6 asks: exactly one P2MP element, of type 6, a known family, its address length, and an opaque value that ends where the octets end
unfoldable pub is_element : List ℕ → Bool
is_element e =
    eqb (get_or e 0 0) 6 && ltb 0 (root_length e) && eqb (get_or e 3 0) (root_length e)
    && eqb (length e) (6 + root_length e + opaque_length e)

-- the longest opaque value
abbrev pub opaque_limit : ℕ
opaque_limit = 128

-- the longest root
abbrev pub root_limit : ℕ
root_limit = 16

-- the longest name: six octets besides its root and its opaque value
abbrev pub name_limit : ℕ
name_limit = 6 + root_limit + opaque_limit

-- what a record has beside the name: the mark, the neighbour, the message's head, the heads of both TLVs, the label
abbrev pub record_beside : ℕ
record_beside = 24

-- how many octets the record of a message that names a tree has
abbrev pub record_size : List ℕ → ℕ
record_size name = record_beside + length name

-- the longest
abbrev pub record_limit : ℕ
record_limit = record_beside + name_limit

-- what 7 asks
unfoldable pub is_opaque : List ℕ → Bool
is_opaque o = ltb 0 (length o) && leb (length o) opaque_limit

-- ---- what 18 asks of an opaque value: RFC 6388's elements, one behind the other, fill it

-- the octets of the first element's head: type 1 and length 2, or type 255, extended type 2 and length 2
unfoldable pub head_length : List ℕ → ℕ
head_length o = pick (eqb (get_or o 0 0) 255) 5 3

-- where the first element ends: its length field is the last of its head (octets past the end are read as 0, and an element that reaches there is too long)
unfoldable pub first_end : List ℕ → ℕ
first_end o = head_length o + two_at o (head_length o - 2)

-- An element takes three octets at least: the octets' number and one is enough of a count.
unfoldable pub is_filled_f : ℕ → List ℕ → Bool
is_filled_f zero o = false
is_filled_f (suc n) o =
    let more = is_filled_f n (drop (first_end o) o) in
    let some = pick (leb (first_end o) (length o)) more false in
    pick (eqb (length o) 0) true some

-- (no octet at all is refused 7)
unfoldable pub is_filled : List ℕ → Bool
is_filled o = is_filled_f (suc (length o)) o

-- 6, 7, 18, or 0
unfoldable pub element_refusal : List ℕ → ℕ
element_refusal e = 6 when not (is_element e) else 7 when not (is_opaque (opaque_in e)) else 18 when not (is_filled (opaque_in e)) else 0

-- the element of a family, a root and an opaque value
unfoldable pub element : ℕ → List ℕ → List ℕ → List ℕ
element family root opaque = 6 ∷ (two family ++ (length root ∷ (root ++ (two (length opaque) ++ opaque))))

-- ---- reading: TLVs

pub record Tlv : Type 0 where
  pub type_field : ℕ
  pub value : List ℕ

-- a TLV that isn't there
unfoldable pub absent : Tlv
absent = record { type_field = 0; value = [] }

-- the TLVs that fill the octets, or that some head or value runs past them
pub data Framed : Type 0 where
  framed : List Tlv → Framed
  overrun : Framed

unfoldable pub after : Tlv → Framed → Framed
after t (framed ts) = framed (t ∷ ts)
after t overrun = overrun

-- A TLV takes four octets at least: the octets' number and one is enough of a count.
unfoldable pub tlvs_f : ℕ → List ℕ → Framed
tlvs_f zero s = overrun
tlvs_f (suc n) [] = framed []
tlvs_f (suc n) (a ∷ []) = overrun
tlvs_f (suc n) (a ∷ b ∷ []) = overrun
tlvs_f (suc n) (a ∷ b ∷ c ∷ []) = overrun
tlvs_f (suc n) (a ∷ b ∷ c ∷ d ∷ rest) =
    let k = c * 256 + d in
    let more = after (record { type_field = a * 256 + b; value = take k rest }) (tlvs_f n (drop k rest)) in
    pick (leb k (length rest)) more overrun

unfoldable pub tlvs : List ℕ → Framed
tlvs s = tlvs_f (suc (length s)) s

unfoldable pub is_overrun : Framed → Bool
is_overrun (framed ts) = false
is_overrun overrun = true

unfoldable pub found : Framed → List Tlv
found (framed ts) = ts
found overrun = []

-- ---- reading: a message

abbrev pub mapping : ℕ
mapping = 0x0400

abbrev pub withdraw : ℕ
withdraw = 0x0402

abbrev pub release : ℕ
release = 0x0403

-- a message: what it does, the name of the tree, the label
pub record Message : Type 0 where
  pub kind : ℕ
  pub name : List ℕ
  pub label : ℕ

unfoldable pub body_of : List ℕ → List Tlv
body_of s = found (tlvs (drop 8 s))

unfoldable pub fec_of : List ℕ → Tlv
fec_of s = get_or (body_of s) 0 absent

unfoldable pub label_of : List ℕ → Tlv
label_of s = get_or (body_of s) 1 absent

-- a TLV whose U bit is clear
unfoldable pub must : Tlv → Bool
must t = ltb t.type_field 0x8000

-- what 2 asks: eight octets, and the length field counts all after itself
unfoldable pub is_sized : List ℕ → Bool
is_sized s = leb 8 (length s) && eqb (4 + two_at s 2) (length s)

unfoldable pub is_kind : ℕ → Bool
is_kind k = eqb k mapping || eqb k withdraw || eqb k release

-- what 5 asks: FEC first, Label second
unfoldable pub is_ordered : List ℕ → Bool
is_ordered s = eqb (fec_of s).type_field 0x0100 && eqb (label_of s).type_field 0x0200

-- the labels that a message may carry: 0 to 15 have a meaning of their own (RFC 3032), and a label has 20 bits
abbrev pub least_label : ℕ
least_label = 16

abbrev pub most_label : ℕ
most_label = 1048575

-- what 8 asks of the Label TLV's value
unfoldable pub is_label : List ℕ → Bool
is_label v = eqb (length v) 4 && leb least_label (four_at v 0) && leb (four_at v 0) most_label

-- the first of 2 to 7, 18, 8 and 9 that applies, or 0
unfoldable pub message_refusal : List ℕ → ℕ
message_refusal s =
    2 when not (is_sized s) else
    3 when not (is_kind (two_at s 0)) else
    4 when is_overrun (tlvs (drop 8 s)) else
    5 when not (is_ordered s) else
    6 when not (is_element (fec_of s).value) else
    7 when not (is_opaque (opaque_in (fec_of s).value)) else
    18 when not (is_filled (opaque_in (fec_of s).value)) else
    8 when not (is_label (label_of s).value) else
    9 when any must (drop 2 (body_of s)) else 0

-- the message in the octets, where they are not refused
unfoldable pub message_in : List ℕ → Message
message_in s = record { kind = two_at s 0; name = (fec_of s).value; label = four_at (label_of s).value 0 }

-- ---- writing

-- a TLV, before what follows it
unfoldable pub tlv : ℕ → List ℕ → List ℕ → List ℕ
tlv t v rest = two t ++ (two (length v) ++ (v ++ rest))

-- the octets of a message, with its identifier; the name is copied
unfoldable pub octets_of : ℕ → Message → List ℕ
octets_of id m =
    let rest = four id ++ tlv 0x0100 m.name (tlv 0x0200 (four m.label) []) in
    two m.kind ++ (two (length rest) ++ rest)

-- a message to a neighbour
pub record Sent : Type 0 where
  pub to : ℕ
  pub message : Message

unfoldable pub record_of : ℕ → Sent → List ℕ
record_of id m = 0x4C ∷ 0x44 ∷ (two m.to ++ octets_of id m.message)

-- the identifier after a given one
unfoldable pub next_id : ℕ → ℕ
next_id n = (n + 1) % 4294967296

-- the records of messages sent one after the other, the first of them with identifier n
unfoldable pub records : ℕ → List Sent → List ℕ
records n [] = []
records n (m ∷ ms) = record_of n m ++ records (next_id n) ms

-- the identifier that is next after them
unfoldable pub ids_after : ℕ → List Sent → ℕ
ids_after n [] = n
ids_after n (m ∷ ms) = ids_after (next_id n) ms

-- the messages in records, as a reader of our output finds them: after each mark and neighbour's number one message, of the length that it says
unfoldable pub records_f : ℕ → List ℕ → List Sent
records_f zero s = []
records_f (suc f) s =
    let n = 4 + two_at s 6 in
    let first : Sent = record { to = two_at s 2; message = message_in (take n (drop 4 s)) } in
    let more = first ∷ records_f f (drop n (drop 4 s)) in
    pick (eqb (length s) 0) [] more

unfoldable pub records_in : List ℕ → List Sent
records_in s = records_f (length s) s
