-- The starred cases 1 to 10 of "Both sides of the edge", as one table of which one test is computed.
-- Assumes nothing.
use Rattle.std.specs.Prelude.{ℕ, suc, ◌-◌, Bool, true, false, ◌&&◌, List, [], ◌∷◌, ◌++◌, take, replicate, eqb}
use Rattle.meaning.specs.Octets.{pick, same, two}
use Rattle.meaning.specs.Wire.{root_in, element, mapping, withdraw, release, octets_of, record_of}
use Rattle.meaning.specs.Card.{Card, free_labels, Branch, Feed, lookup_label, sent_limit}
use Rattle.meaning.specs.Events.{Out, tell, Event, receive, route, event, start}
use Rattle.meaning.specs.Computing.{computing}

-- ---- a row

-- the room that is enough for any event
abbrev pub enough : ℕ
enough = sent_limit

-- An event with so much room: the answer, the octets written, and of the card after it the number of free labels and what the lookup of one label gives.
pub record Row : Type 0 where
  pub anew : Bool
  pub room : ℕ
  pub does : Event
  pub answer : ℕ
  pub octets : List ℕ
  pub free : ℕ
  pub asked : ℕ
  pub gives : List ℕ

-- on a card of its own: base 16, the route of A's root is neighbour 0
abbrev pub anew : Event → ℕ → List ℕ → ℕ → ℕ → List ℕ → Row
anew e n w f l g = record { anew = true; room = enough; does = e; answer = n; octets = w; free = f; asked = l; gives = g }

-- on the card that the row before left
abbrev pub then : Event → ℕ → List ℕ → ℕ → ℕ → List ℕ → Row
then e n w f l g = record { anew = false; room = enough; does = e; answer = n; octets = w; free = f; asked = l; gives = g }

-- a feed as a list: neighbour and label of each branch, and then 1 for the leaf mark
unfoldable pub flat : List Branch → List ℕ
flat [] = []
flat (b ∷ bs) = b.neighbour ∷ b.label ∷ flat bs

unfoldable pub feed : Feed → List ℕ
feed f = flat f.branches ++ pick f.leaf (1 ∷ []) []

unfoldable pub agrees : Row → Out → Bool
agrees r o =
    eqb o.answer r.answer && same o.octets r.octets && eqb (free_labels o.card) r.free
    && same (feed (lookup_label r.asked o.card)) r.gives

-- the numbers of the rows, counted from n, that do not agree with what the definitions give
unfoldable pub wrong : ℕ → Card → Card → List Row → List ℕ
wrong n first c [] = []
wrong n first c (r ∷ rs) =
    let o = event r.room (pick r.anew first c) r.does in
    let later = wrong (suc n) first o.card rs in
    let here = n ∷ later in
    pick (agrees r o) later here

-- No row is wrong. Where some are, the refusal of `tt` shows their numbers.
pub data TheseRowsAreWrong : List ℕ → Type 0 where

abbrev pub NoneWrong : List ℕ → Type 0
NoneWrong [] = Unit {0}
NoneWrong (n ∷ ns) = TheseRowsAreWrong (n ∷ ns)

-- the numbers of the tests, counted from n, that do not hold
unfoldable pub wrong_tests : ℕ → List Bool → List ℕ
wrong_tests n [] = []
wrong_tests n (b ∷ bs) = let later = wrong_tests (suc n) bs in let here = n ∷ later in pick b later here

-- ---- the cases

unfoldable pub A : List ℕ
A = 6 ∷ 0 ∷ 1 ∷ 4 ∷ 192 ∷ 0 ∷ 2 ∷ 1 ∷ 0 ∷ 7 ∷ 1 ∷ 0 ∷ 4 ∷ 0 ∷ 0 ∷ 0 ∷ 7 ∷ []

-- A with an opaque value of n octets: one element, of type 1, where n is 3 or more
unfoldable pub wide : ℕ → List ℕ
wide n = element 1 (root_in A) (take n (1 ∷ (two (n - 3) ++ replicate (n - 3) 7)))

unfoldable pub first_card : Card
first_card = (event enough (start 16).card (route (root_in A) 0)).card

-- a message <a, l> heard from n, with any identifier
unfoldable pub heard : ℕ → ℕ → List ℕ → ℕ → Event
heard n k a l = receive n (octets_of 77 (record { kind = k; name = a; label = l }))

-- <A, l> written to n
unfoldable pub wrote : ℕ → ℕ → ℕ → ℕ → List ℕ
wrote id n k l = record_of id (tell n k A l)

-- what case 1 writes, octet by octet
unfoldable pub case1 : List ℕ
case1 = 0x4C ∷ 0x44 ∷ 0x00 ∷ 0x00 ∷ 0x04 ∷ 0x00 ∷ 0x00 ∷ 0x21 ∷ 0x00 ∷ 0x00 ∷ 0x00 ∷ 0x01 ∷ 0x01 ∷ 0x00 ∷ 0x00 ∷ 0x11 ∷ 0x06 ∷ 0x00 ∷ 0x01 ∷ 0x04 ∷ 0xC0 ∷ 0x00 ∷ 0x02 ∷ 0x01 ∷ 0x00 ∷ 0x07 ∷ 0x01 ∷ 0x00 ∷ 0x04 ∷ 0x00 ∷ 0x00 ∷ 0x00 ∷ 0x07 ∷ 0x02 ∷ 0x00 ∷ 0x00 ∷ 0x04 ∷ 0x00 ∷ 0x00 ∷ 0x00 ∷ 0x10 ∷ []

-- Mapping <A, 100> with an opaque length of 6 where 7 octets follow
unfoldable pub not_filled : List ℕ
not_filled = 0x04 ∷ 0x00 ∷ 0x00 ∷ 0x21 ∷ 0x00 ∷ 0x00 ∷ 0x00 ∷ 0x01 ∷ 0x01 ∷ 0x00 ∷ 0x00 ∷ 0x11 ∷ 0x06 ∷ 0x00 ∷ 0x01 ∷ 0x04 ∷ 0xC0 ∷ 0x00 ∷ 0x02 ∷ 0x01 ∷ 0x00 ∷ 0x06 ∷ 0x01 ∷ 0x00 ∷ 0x04 ∷ 0x00 ∷ 0x00 ∷ 0x00 ∷ 0x07 ∷ 0x02 ∷ 0x00 ∷ 0x00 ∷ 0x04 ∷ 0x00 ∷ 0x00 ∷ 0x00 ∷ 0x64 ∷ []

unfoldable pub cases : List Row
cases =
    -- event, answer, octets, free labels, label looked up, what it gives
    -- 1
    anew (heard 1 mapping A 100) 0 case1 255 16 (1 ∷ 100 ∷ []) ∷
    -- 2
    then (heard 2 mapping A 200) 0 [] 255 16 (1 ∷ 100 ∷ 2 ∷ 200 ∷ []) ∷
    -- 3
    then (heard 1 withdraw A 100) 0 (wrote 2 1 release 100) 255 16 (2 ∷ 200 ∷ []) ∷
    -- 4
    then (heard 2 withdraw A 200) 0 (wrote 3 2 release 200 ++ wrote 4 0 withdraw 16) 255 16 [] ∷
    -- 5
    then (heard 1 mapping A 300) 0 (wrote 5 0 mapping 17) 254 17 (1 ∷ 300 ∷ []) ∷
    -- 6
    then (heard 3 release A 16) 13 [] 254 16 [] ∷
    then (heard 0 release A 16) 0 [] 255 17 (1 ∷ 300 ∷ []) ∷
    then (heard 0 release A 16) 13 [] 255 17 (1 ∷ 300 ∷ []) ∷
    -- 7
    then (route (root_in A) 3) 0 (wrote 6 0 withdraw 17 ++ wrote 7 3 mapping 18) 254 18 (1 ∷ 300 ∷ []) ∷
    -- 8
    anew (heard 1 mapping A 15) 8 [] 256 16 [] ∷
    anew (heard 1 mapping A 16) 0 (wrote 1 0 mapping 16) 255 16 (1 ∷ 16 ∷ []) ∷
    anew (heard 1 mapping A 1048575) 0 (wrote 1 0 mapping 16) 255 16 (1 ∷ 1048575 ∷ []) ∷
    anew (heard 1 mapping A 1048576) 8 [] 256 16 [] ∷
    -- 9
    anew (receive 1 []) 2 [] 256 16 [] ∷
    anew (receive 1 (4 ∷ 0 ∷ 0 ∷ 3 ∷ 0 ∷ 0 ∷ 0 ∷ [])) 2 [] 256 16 [] ∷
    anew (receive 1 (4 ∷ 0 ∷ 0 ∷ 4 ∷ 0 ∷ 0 ∷ 0 ∷ 1 ∷ [])) 5 [] 256 16 [] ∷
    -- 10
    anew (heard 1 mapping (wide 128) 100) 0 (record_of 1 (tell 0 mapping (wide 128) 16)) 255 16 (1 ∷ 100 ∷ []) ∷
    anew (heard 1 mapping (wide 129) 100) 7 [] 256 16 [] ∷
    anew (receive 1 not_filled) 6 [] 256 16 [] ∷
    []

pub cases-shown : NoneWrong (wrong 1 first_card first_card cases)
unfolding computing wrong first_card cases case1 not_filled agrees flat feed A wide heard wrote
cases-shown = tt
