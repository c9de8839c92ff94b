-- Notices by example: each refusal number, both sides of each edge, and what the reader takes and refuses. Each table is one computed test.
-- Assumes nothing.
use Rattle.std.specs.Prelude.{ℕ, suc, Bool, ◌&&◌, List, [], ◌∷◌, ◌++◌, set, take, eqb}
use Rattle.meaning.specs.Octets.{pick, same}
use Rattle.meaning.specs.Card.{fresh}
use Rattle.meaning.specs.Events.{Out}
use Rattle.meaning.specs.Computing.{computing}
use Rattle.meaning.specs.Examples.{NoneWrong}
use Rattle.meaning.specs.Notice.{status_of, is_status, is_fatal, status_code, copied_id, copied_type, is_ignorable, notice_due, status_value, notice_octets, notice_record, notice, Notice, notice_in, is_framed, is_told, notice_refusal}

-- as `computing`, for the definitions of notices
unfoldable pub computing_notices : ℕ
unfolding computing status_of is_status is_fatal status_code copied_id copied_type is_ignorable notice_due status_value notice_octets notice_record notice notice_in is_framed is_told notice_refusal
computing_notices = 0

-- ---- writing

-- A refusal, told with so much room by a card whose next identifier is 1: the answer, the octets written, and the next identifier after it.
pub record Row : Type 0 where
  pub room : ℕ
  pub neighbour : ℕ
  pub number : ℕ
  pub octets : List ℕ
  pub answer : ℕ
  pub written : List ℕ
  pub next : ℕ

abbrev pub row : ℕ → ℕ → ℕ → List ℕ → ℕ → List ℕ → ℕ → Row
row r n k s a w i = record { room = r; neighbour = n; number = k; octets = s; answer = a; written = w; next = i }

unfoldable pub agrees : Row → Out → Bool
agrees r o = eqb o.answer r.answer && same o.octets r.written && eqb o.card.next r.next

-- the numbers of the rows, counted from n, that do not agree with what the definitions give
unfoldable pub wrong : ℕ → List Row → List ℕ
wrong n [] = []
wrong n (r ∷ rs) =
    let o = notice r.room (fresh 16) r.neighbour r.number r.octets in
    let later = wrong (suc n) rs in
    let here = n ∷ later in
    pick (agrees r o) later here

-- the head of a Mapping, with an identifier
unfoldable pub head : List ℕ
head = 0x04 ∷ 0x00 ∷ 0x00 ∷ 0x04 ∷ 0xAB ∷ 0xCD ∷ 0xEF ∷ 0x01 ∷ []

-- message types that are not known here: 0x0401, and 0xBF00, with its U bit set
unfoldable pub unknown : List ℕ
unknown = 0x04 ∷ 0x01 ∷ 0x00 ∷ 0x04 ∷ 0x00 ∷ 0x00 ∷ 0x00 ∷ 0x09 ∷ []

unfoldable pub ignorable : List ℕ
ignorable = 0xBF ∷ 0x00 ∷ 0x00 ∷ 0x04 ∷ 0x00 ∷ 0x00 ∷ 0x00 ∷ 0x09 ∷ []

-- identifier 1, to neighbour n, with the status code's first octet and last, and then what is copied
unfoldable pub told : ℕ → ℕ → ℕ → List ℕ → List ℕ
told n first last copied =
    0x4C ∷ 0x44 ∷ 0x00 ∷ n
    ∷ 0x00 ∷ 0x01 ∷ 0x00 ∷ 0x12 ∷ 0x00 ∷ 0x00 ∷ 0x00 ∷ 0x01
    ∷ 0x03 ∷ 0x00 ∷ 0x00 ∷ 0x0A ∷ first ∷ 0x00 ∷ 0x00 ∷ last ∷ copied

-- what is copied of `head`, of `unknown`, of `ignorable`, and of fewer than 8 octets
unfoldable pub of_head : List ℕ
of_head = 0xAB ∷ 0xCD ∷ 0xEF ∷ 0x01 ∷ 0x04 ∷ 0x00 ∷ []

unfoldable pub of_unknown : List ℕ
of_unknown = 0x00 ∷ 0x00 ∷ 0x00 ∷ 0x09 ∷ 0x04 ∷ 0x01 ∷ []

unfoldable pub of_ignorable : List ℕ
of_ignorable = 0x00 ∷ 0x00 ∷ 0x00 ∷ 0x09 ∷ 0xBF ∷ 0x00 ∷ []

unfoldable pub of_none : List ℕ
of_none = 0x00 ∷ 0x00 ∷ 0x00 ∷ 0x00 ∷ 0x00 ∷ 0x00 ∷ []

unfoldable pub rows : List Row
rows =
    -- room, neighbour, refusal number, refused octets, answer, octets, next identifier
    -- each refusal number
    row 26 5 1 head 0 [] 1 ∷
    row 26 5 2 head 0 (told 5 0x80 0x05 of_head) 2 ∷
    row 26 5 3 unknown 0 (told 5 0x00 0x04 of_unknown) 2 ∷
    row 26 5 4 head 0 (told 5 0x80 0x07 of_head) 2 ∷
    row 26 5 5 head 0 (told 5 0x00 0x16 of_head) 2 ∷
    row 26 5 6 head 0 (told 5 0x00 0x0C of_head) 2 ∷
    row 26 5 7 head 0 (told 5 0x00 0x0C of_head) 2 ∷
    row 26 5 8 head 0 (told 5 0x80 0x08 of_head) 2 ∷
    row 26 5 9 head 0 (told 5 0x00 0x06 of_head) 2 ∷
    row 26 5 10 head 0 [] 1 ∷
    row 26 5 11 head 0 (told 5 0x00 0x0E of_head) 2 ∷
    row 26 5 12 head 0 (told 5 0x00 0x0E of_head) 2 ∷
    row 26 5 13 head 0 [] 1 ∷
    row 26 5 14 head 0 [] 1 ∷
    row 26 5 15 head 0 [] 1 ∷
    row 26 5 16 head 0 [] 1 ∷
    row 26 5 17 head 0 [] 1 ∷
    row 26 5 18 head 0 (told 5 0x00 0x0C of_head) 2 ∷
    row 26 5 0 head 0 [] 1 ∷
    -- and numbers above 18, the refusals of other requests and none, write nothing
    row 26 5 19 head 0 [] 1 ∷
    row 26 5 20 head 0 [] 1 ∷
    row 26 5 21 head 0 [] 1 ∷
    row 26 5 22 head 0 [] 1 ∷
    row 26 5 256 head 0 [] 1 ∷
    row 26 5 4294967295 head 0 [] 1 ∷
    -- the U bit silences 3, and no other
    row 26 5 3 ignorable 0 [] 1 ∷
    row 26 5 2 ignorable 0 (told 5 0x80 0x05 of_ignorable) 2 ∷
    -- no octets, 7 octets, and more than 8
    row 26 5 2 [] 0 (told 5 0x80 0x05 of_none) 2 ∷
    row 26 5 2 (take 7 head) 0 (told 5 0x80 0x05 of_none) 2 ∷
    row 26 5 3 (take 7 ignorable) 0 (told 5 0x00 0x04 of_none) 2 ∷
    row 26 5 2 (head ++ head) 0 (told 5 0x80 0x05 of_head) 2 ∷
    -- room
    row 25 5 2 head 16 [] 1 ∷
    row 27 5 2 head 0 (told 5 0x80 0x05 of_head) 2 ∷
    row 0 5 10 head 0 [] 1 ∷
    row 0 5 3 ignorable 0 [] 1 ∷
    -- neighbours; 1 comes before 16, and where nothing is due
    row 26 0 2 head 0 (told 0 0x80 0x05 of_head) 2 ∷
    row 26 15 2 head 0 (told 15 0x80 0x05 of_head) 2 ∷
    row 26 16 2 head 1 [] 1 ∷
    row 0 16 2 head 1 [] 1 ∷
    row 26 16 10 head 1 [] 1 ∷
    []

pub rows-shown : NoneWrong (wrong 1 rows)
unfolding computing_notices computing wrong rows agrees head unknown ignorable told of_head of_unknown of_ignorable of_none
rows-shown = tt

-- ---- reading

-- octets, the refusal, and what they say: neighbour, identifier, status data, refused identifier and type
pub record ReadRow : Type 0 where
  pub octets : List ℕ
  pub refusal : ℕ
  pub says : List ℕ

abbrev pub takes : List ℕ → List ℕ → ReadRow
takes o s = record { octets = o; refusal = 0; says = s }

abbrev pub refuses : List ℕ → ReadRow
refuses o = record { octets = o; refusal = 21; says = [] }

unfoldable pub flat : Notice → List ℕ
flat n = n.neighbour ∷ n.id ∷ n.status ∷ n.refused_id ∷ n.refused_type ∷ []

unfoldable pub reads_wrong : ℕ → List ReadRow → List ℕ
reads_wrong n [] = []
reads_wrong n (r ∷ rs) =
    let k = notice_refusal r.octets in
    let said = pick (eqb k 0) (flat (notice_in r.octets)) [] in
    let later = reads_wrong (suc n) rs in
    let here = n ∷ later in
    pick (eqb k r.refusal && same said r.says) later here

-- a record in good order, to neighbour 5
unfoldable pub good : List ℕ
good = told 5 0x80 0x05 of_head

unfoldable pub read_rows : List ReadRow
read_rows =
    takes good (5 ∷ 1 ∷ 0x05 ∷ 0xABCDEF01 ∷ 0x0400 ∷ []) ∷
    takes (told 15 0x00 0x04 of_unknown) (15 ∷ 1 ∷ 0x04 ∷ 9 ∷ 0x0401 ∷ []) ∷
    takes (told 5 0x00 0x06 of_head) (5 ∷ 1 ∷ 0x06 ∷ 0xABCDEF01 ∷ 0x0400 ∷ []) ∷
    takes (told 5 0x80 0x07 of_head) (5 ∷ 1 ∷ 0x07 ∷ 0xABCDEF01 ∷ 0x0400 ∷ []) ∷
    takes (told 5 0x80 0x08 of_head) (5 ∷ 1 ∷ 0x08 ∷ 0xABCDEF01 ∷ 0x0400 ∷ []) ∷
    takes (told 5 0x00 0x0C of_head) (5 ∷ 1 ∷ 0x0C ∷ 0xABCDEF01 ∷ 0x0400 ∷ []) ∷
    takes (told 5 0x00 0x0E of_head) (5 ∷ 1 ∷ 0x0E ∷ 0xABCDEF01 ∷ 0x0400 ∷ []) ∷
    takes (told 5 0x00 0x16 of_none) (5 ∷ 1 ∷ 0x16 ∷ 0 ∷ 0 ∷ []) ∷
    takes (set good 8 0xFF) (5 ∷ 0xFF000001 ∷ 0x05 ∷ 0xABCDEF01 ∷ 0x0400 ∷ []) ∷
    -- the length
    refuses [] ∷
    refuses (take 25 good) ∷
    refuses (good ++ (0 ∷ [])) ∷
    refuses (good ++ good) ∷
    -- the mark and the neighbour
    refuses (set good 0 0x4D) ∷
    refuses (set good 1 0x53) ∷
    refuses (set good 2 1) ∷
    refuses (told 16 0x80 0x05 of_head) ∷
    -- the message's type and length
    refuses (set good 4 0x80) ∷
    refuses (set good 5 2) ∷
    refuses (set good 7 17) ∷
    refuses (set good 7 19) ∷
    -- the Status TLV's type, with its own U and F bits, and length
    refuses (set good 12 0x83) ∷
    refuses (set good 12 0x43) ∷
    refuses (set good 13 1) ∷
    refuses (set good 15 9) ∷
    refuses (set good 15 11) ∷
    -- the E bit missing, and set where it is to be clear; the F bit; the first octet of the status data
    refuses (told 5 0x00 0x05 of_head) ∷
    refuses (told 5 0x80 0x04 of_unknown) ∷
    refuses (told 5 0xC0 0x05 of_head) ∷
    refuses (told 5 0x40 0x06 of_head) ∷
    refuses (told 5 0x01 0x06 of_head) ∷
    -- status data that no refusal has
    refuses (told 5 0x00 0x00 of_head) ∷
    refuses (told 5 0x80 0x03 of_head) ∷
    refuses (told 5 0x80 0x09 of_head) ∷
    refuses (told 5 0x00 0x0B of_head) ∷
    refuses (told 5 0x00 0x0D of_head) ∷
    refuses (told 5 0x00 0x0F of_head) ∷
    refuses (told 5 0x00 0x15 of_head) ∷
    refuses (told 5 0x00 0x17 of_head) ∷
    -- an unknown message type whose U bit is set is not told; of another status it may be copied
    refuses (told 5 0x00 0x04 of_ignorable) ∷
    takes (told 5 0x80 0x05 of_ignorable) (5 ∷ 1 ∷ 0x05 ∷ 9 ∷ 0xBF00 ∷ []) ∷
    []

pub reads-shown : NoneWrong (reads_wrong 1 read_rows)
unfolding computing_notices computing reads_wrong read_rows flat good head unknown told of_head of_unknown of_ignorable of_none
reads-shown = tt
