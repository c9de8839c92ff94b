-- The corners of document 01's rules, as docs/DECISIONS.md reads them: tables as that of `Examples`, one for each card to begin with.
-- Assumes nothing.
use Rattle.std.specs.Prelude.{ℕ, zero, suc, ◌+◌, ◌-◌, Bool, true, ◌&&◌, List, [], ◌∷◌, ◌++◌, length, replicate, T, eqb}
use Rattle.meaning.specs.Octets.{same, two, four}
use Rattle.meaning.specs.Wire.{root_in, element, tlv, mapping, withdraw, release, record_of}
use Rattle.meaning.specs.Card.{tree_limit, label_count, Route, Tree, Use, free, mapped, awaiting, Card, with_next, with_trees, with_labels, free_labels, lookup_name, with_routes, with_last}
use Rattle.meaning.specs.Events.{tell, Event, receive, join, leave, route, event, start, lost}
use Rattle.meaning.specs.Computing.{computing}
use Rattle.meaning.specs.Examples.{Row, anew, then, enough, flat, feed, agrees, wrong, NoneWrong, A, wide, first_card, heard, wrote}

-- ---- messages that are not as they should be

-- a message of any type and any body; its length field is right
unfoldable pub packed : ℕ → List ℕ → List ℕ
packed kind body = two kind ++ (two (4 + length body) ++ (four 77 ++ body))

-- its TLVs, each before what follows it
unfoldable pub fec : List ℕ → List ℕ → List ℕ
fec value rest = tlv 0x0100 value rest

unfoldable pub label : ℕ → List ℕ → List ℕ
label l rest = tlv 0x0200 (four l) rest

unfoldable pub said : List ℕ → Event
said body = receive 1 (packed mapping body)

-- an element of any type, family and address length, with an opaque length of k whatever follows
unfoldable pub odd : ℕ → ℕ → ℕ → ℕ → List ℕ → List ℕ
odd kind family size k opaque = kind ∷ (two family ++ (size ∷ (root_in A ++ (two k ++ opaque))))

-- a row with other room
abbrev pub in_room : ℕ → Row → Row
in_room n r = record { anew = r.anew; room = n; does = r.does; answer = r.answer; octets = r.octets; free = r.free; asked = r.asked; gives = r.gives }

-- refused with that number on the card of case 1, whose lookups stay empty
abbrev pub refuses : Event → ℕ → Row
refuses e n = anew e n [] 256 16 []

-- Mapping <A, 100> from 1 taken on that card
abbrev pub maps : Event → Row
maps e = anew e 0 (record_of 1 (tell 0 mapping A 16)) 255 16 (1 ∷ 100 ∷ [])

-- Mapping <A, 100> with another opaque value
unfoldable pub holds : List ℕ → Event
holds o = said (fec (element 1 (root_in A) o) (label 100 []))

-- it is taken
abbrev pub fills : List ℕ → Row
fills o = anew (holds o) 0 (record_of 1 (tell 0 mapping (element 1 (root_in A) o) 16)) 255 16 (1 ∷ 100 ∷ [])

-- a tree of a 16-octet root
unfoldable pub other : List ℕ
other = element 2 (replicate 16 32) (1 ∷ 0 ∷ 1 ∷ 9 ∷ [])

-- one whose root begins as A's
unfoldable pub long : List ℕ
long = element 2 (root_in A ++ replicate 12 0) (1 ∷ 0 ∷ 1 ∷ 9 ∷ [])

-- the message, its head and its TLVs
unfoldable pub framing_rows : List Row
framing_rows =
    -- 1: neighbour 16, though there are no octets
    refuses (receive 16 []) 1 ∷
    -- 2: a length field one short, one long; before any other number
    refuses (receive 1 (two mapping ++ (two 32 ++ (four 77 ++ fec A (label 100 []))))) 2 ∷
    refuses (receive 1 (two 0x0401 ++ (two 34 ++ (four 77 ++ fec A (label 100 []))))) 2 ∷
    -- 3: another type; the U bit of a known one (reading 1); before 4
    refuses (receive 1 (packed 0x0401 (fec A (label 100 [])))) 3 ∷
    refuses (receive 1 (packed 0x8400 (fec A (label 100 [])))) 3 ∷
    refuses (receive 1 (packed 0x0401 (fec A (label 100 (0 ∷ []))))) 3 ∷
    -- 4: one to three octets of a head are left over (reading 2), and a value that runs past, also behind a TLV that is stepped over
    refuses (said (fec A (label 100 (0 ∷ [])))) 4 ∷
    refuses (said (fec A (label 100 (0x80 ∷ 1 ∷ 0 ∷ [])))) 4 ∷
    refuses (said (fec A (label 100 (0x80 ∷ 1 ∷ 0 ∷ 1 ∷ [])))) 4 ∷
    refuses (said (fec A (label 100 (tlv 0x8001 (5 ∷ []) (0x80 ∷ 1 ∷ 0 ∷ 1 ∷ []))))) 4 ∷
    -- 4, not 5: no FEC, and a later head runs past; not 6: no element, and a further value runs past
    refuses (said (label 100 (0 ∷ 0 ∷ 0 ∷ []))) 4 ∷
    refuses (said (fec (odd 2 1 4 7 (replicate 7 7)) (label 100 (0x80 ∷ 1 ∷ 0 ∷ 1 ∷ [])))) 4 ∷
    -- 5: Label first; FEC with the U bit, with the F bit (reading 1), and Label so; FEC alone; a U-bit TLV between FEC and Label; nothing
    refuses (said (label 100 (fec A []))) 5 ∷
    refuses (said (tlv 0x8100 A (label 100 []))) 5 ∷
    refuses (said (tlv 0x4100 A (label 100 []))) 5 ∷
    refuses (said (fec A (tlv 0x8200 (four 100) []))) 5 ∷
    refuses (said (fec A (tlv 0x4200 (four 100) []))) 5 ∷
    refuses (said (fec A [])) 5 ∷
    refuses (said (fec A (tlv 0x8001 [] (label 100 [])))) 5 ∷
    refuses (said []) 5 ∷
    []

-- the element of the FEC and its opaque value
unfoldable pub element_rows : List Row
element_rows =
    -- 6: no octet; a prefix; family 3; family 2 with four octets; family 1 with sixteen; two elements; an octet behind one
    refuses (said (fec [] (label 100 []))) 6 ∷
    refuses (said (fec (odd 2 1 4 7 (replicate 7 7)) (label 100 []))) 6 ∷
    refuses (said (fec (odd 6 3 4 7 (replicate 7 7)) (label 100 []))) 6 ∷
    refuses (said (fec (odd 6 2 4 7 (replicate 7 7)) (label 100 []))) 6 ∷
    refuses (said (fec (odd 6 1 16 7 (replicate 7 7)) (label 100 []))) 6 ∷
    refuses (said (fec (A ++ A) (label 100 []))) 6 ∷
    refuses (said (fec (A ++ (0 ∷ [])) (label 100 []))) 6 ∷
    -- 6 and 7 (reading 3): an opaque length of 129 that fills is 7, one that does not is 6; 0 likewise
    refuses (said (fec (odd 6 1 4 129 (replicate 129 7)) (label 100 []))) 7 ∷
    refuses (said (fec (odd 6 1 4 129 (replicate 7 7)) (label 100 []))) 6 ∷
    refuses (said (fec (odd 6 1 4 0 []) (label 100 []))) 7 ∷
    refuses (said (fec (odd 6 1 4 0 (replicate 7 7)) (label 100 []))) 6 ∷
    -- 18: an element that runs one octet past the value; one octet behind an element; a head cut behind its type, behind the length's first octet; so behind a whole element
    refuses (holds (1 ∷ 0 ∷ 2 ∷ 9 ∷ [])) 18 ∷
    refuses (holds (1 ∷ 0 ∷ 1 ∷ 9 ∷ 9 ∷ [])) 18 ∷
    refuses (holds (1 ∷ [])) 18 ∷
    refuses (holds (1 ∷ 0 ∷ [])) 18 ∷
    refuses (holds (1 ∷ 0 ∷ 1 ∷ 9 ∷ 1 ∷ 0 ∷ [])) 18 ∷
    -- of type 255: a head of three octets, of four; a value that runs one octet past
    refuses (holds (255 ∷ 0 ∷ 0 ∷ [])) 18 ∷
    refuses (holds (255 ∷ 0 ∷ 7 ∷ 0 ∷ [])) 18 ∷
    refuses (holds (255 ∷ 0 ∷ 7 ∷ 0 ∷ 2 ∷ 9 ∷ [])) 18 ∷
    -- the length counts in two octets: 0x0101 is 257
    refuses (holds (1 ∷ 1 ∷ 1 ∷ 9 ∷ [])) 18 ∷
    -- an element with no value is one; two elements; extended ones, without a value and with one; an extended one behind a plain one whose value is 255; type 0 is a type
    fills (1 ∷ 0 ∷ 0 ∷ []) ∷
    fills (1 ∷ 0 ∷ 1 ∷ 9 ∷ 2 ∷ 0 ∷ 0 ∷ []) ∷
    fills (255 ∷ 0 ∷ 7 ∷ 0 ∷ 0 ∷ []) ∷
    fills (255 ∷ 0 ∷ 7 ∷ 0 ∷ 1 ∷ 9 ∷ []) ∷
    fills (1 ∷ 0 ∷ 1 ∷ 255 ∷ 255 ∷ 0 ∷ 7 ∷ 0 ∷ 1 ∷ 9 ∷ []) ∷
    fills (0 ∷ 0 ∷ 0 ∷ []) ∷
    -- 6 and 7 before 18; 18 before 8 and 9
    refuses (said (fec (odd 6 1 4 2 (9 ∷ [])) (label 100 []))) 6 ∷
    refuses (holds (replicate 129 7)) 7 ∷
    refuses (said (fec (odd 6 1 4 1 (1 ∷ [])) (label 15 []))) 18 ∷
    refuses (said (fec (odd 6 1 4 1 (1 ∷ [])) (label 100 (tlv 0x0001 [] [])))) 18 ∷
    -- in a Withdraw, which is not answered then, and in a Release
    refuses (heard 5 withdraw (element 1 (root_in A) (1 ∷ [])) 100) 18 ∷
    refuses (heard 5 release (element 1 (root_in A) (1 ∷ [])) 16) 18 ∷
    []

-- the Label TLV and what follows it
unfoldable pub label_rows : List Row
label_rows =
    -- 7 before 8
    refuses (said (fec (odd 6 1 4 0 []) (tlv 0x0200 (0 ∷ 0 ∷ 100 ∷ []) []))) 7 ∷
    -- 8: three octets, five; a bit above the twenty (reading 4); before 9
    refuses (said (fec A (tlv 0x0200 (0 ∷ 0 ∷ 100 ∷ []) []))) 8 ∷
    refuses (said (fec A (tlv 0x0200 (0 ∷ 0 ∷ 0 ∷ 100 ∷ 0 ∷ []) []))) 8 ∷
    refuses (said (fec A (label 0x100064 []))) 8 ∷
    refuses (said (fec A (label 15 (tlv 0x0001 [] [])))) 8 ∷
    -- 9: a further TLV with U bit clear, with the F bit too; a second Label (reading 4); behind one that is stepped over
    refuses (said (fec A (label 100 (tlv 0x0001 (5 ∷ []) [])))) 9 ∷
    refuses (said (fec A (label 100 (tlv 0x4001 (5 ∷ []) [])))) 9 ∷
    refuses (said (fec A (label 100 (label 100 [])))) 9 ∷
    refuses (said (fec A (label 100 (tlv 0x8001 (5 ∷ []) (tlv 0x0001 [] []))))) 9 ∷
    -- further TLVs with U bit set are stepped over, F bit or not
    maps (said (fec A (label 100 (tlv 0x8001 (5 ∷ []) (tlv 0xC002 [] []))))) ∷
    []

-- trees and their labels
unfoldable pub tree_rows : List Row
tree_rows =
    -- a Withdraw of an unknown tree: Release, table as before; one of another label: Release, and the branch stays
    anew (heard 5 withdraw A 100) 0 (wrote 1 5 release 100) 256 16 [] ∷
    maps (heard 1 mapping A 100) ∷
    then (heard 1 withdraw A 101) 0 (wrote 2 1 release 101) 255 16 (1 ∷ 100 ∷ []) ∷
    -- 10: the branch stands with another label; with the same: nothing; a Mapping from the upstream is a branch, and held
    then (heard 1 mapping A 101) 10 [] 255 16 (1 ∷ 100 ∷ []) ∷
    then (heard 1 mapping A 100) 0 [] 255 16 (1 ∷ 100 ∷ []) ∷
    then (heard 0 mapping A 100) 0 [] 255 16 (1 ∷ 100 ∷ []) ∷
    then (heard 0 mapping A 101) 10 [] 255 16 (1 ∷ 100 ∷ []) ∷
    -- 13 (reading 8): a label that is still mapped; one that is free; one outside the block
    then (heard 0 release A 16) 13 [] 255 16 (1 ∷ 100 ∷ []) ∷
    then (heard 0 release A 17) 13 [] 255 16 (1 ∷ 100 ∷ []) ∷
    then (heard 0 release A 272) 13 [] 255 272 [] ∷
    -- a leaf joins, twice, and leaves, twice: 14
    then (join A) 0 [] 255 16 (1 ∷ 100 ∷ 1 ∷ []) ∷
    then (join A) 0 [] 255 16 (1 ∷ 100 ∷ 1 ∷ []) ∷
    then (leave A) 0 [] 255 16 (1 ∷ 100 ∷ []) ∷
    then (leave A) 14 [] 255 16 (1 ∷ 100 ∷ []) ∷
    -- the route goes to this node, the branches stay, the label awaits; the same route again; no route; the same again (reading 6)
    then (route (root_in A) 16) 0 (wrote 3 0 withdraw 16) 255 16 [] ∷
    then (route (root_in A) 16) 0 [] 255 16 [] ∷
    then (route (root_in A) 17) 0 [] 255 16 [] ∷
    then (route (root_in A) 17) 0 [] 255 16 [] ∷
    -- back to neighbour 0: a new label, while 16 still awaits (reading 10)
    then (route (root_in A) 0) 0 (wrote 4 0 mapping 17) 254 17 (1 ∷ 100 ∷ []) ∷
    -- 13 (reading 8): the Release names another tree; then the tree itself: taken
    then (heard 0 release (wide 7) 16) 13 [] 254 16 [] ∷
    then (heard 0 release A 16) 0 [] 255 17 (1 ∷ 100 ∷ []) ∷
    -- a leaf alone, no route known: the tree stands without a label, and needs none (reading 5)
    anew (join other) 0 [] 256 16 [] ∷
    -- its route comes, and it gets one; it leaves, and the label is withdrawn
    then (route (root_in other) 9) 0 (record_of 1 (tell 9 mapping other 16)) 255 16 (1 ∷ []) ∷
    then (leave other) 0 (record_of 2 (tell 9 withdraw other 16)) 255 16 [] ∷
    -- 14 (reading 8): a tree that does not stand
    then (leave other) 14 [] 255 16 [] ∷
    []

-- orders, room, and other roots
unfoldable pub order_rows : List Row
order_rows =
    -- leaf orders begin at 6
    refuses (join (1 ∷ [])) 6 ∷
    refuses (join (wide 0)) 7 ∷
    refuses (leave (wide 129)) 7 ∷
    refuses (join (element 1 (root_in A) (replicate 129 7))) 7 ∷
    refuses (join (element 1 (root_in A) (1 ∷ []))) 18 ∷
    refuses (leave (element 1 (root_in A) (1 ∷ 0 ∷ 2 ∷ 9 ∷ []))) 18 ∷
    -- a route order: 1 before 6; 6; no route for an unknown root is the route that it has (reading 6)
    refuses (route (1 ∷ []) 18) 1 ∷
    refuses (route (1 ∷ []) 17) 6 ∷
    refuses (route (replicate 16 1) 17) 0 ∷
    -- 16 (reading 7): one octet short; just enough; no room is enough for nothing; a Withdraw without room for its Release leaves the branch
    in_room 40 (refuses (heard 1 mapping A 100) 16) ∷
    in_room 41 (maps (heard 1 mapping A 100)) ∷
    in_room 0 (then (heard 2 mapping A 200) 0 [] 255 16 (1 ∷ 100 ∷ 2 ∷ 200 ∷ [])) ∷
    in_room 40 (then (heard 2 withdraw A 200) 16 [] 255 16 (1 ∷ 100 ∷ 2 ∷ 200 ∷ [])) ∷
    -- 16 on two records (reading 7), 82 octets: a Withdraw that ends the tree, and a route order, each one octet short and then with just enough
    maps (heard 1 mapping A 100) ∷
    in_room 81 (then (heard 1 withdraw A 100) 16 [] 255 16 (1 ∷ 100 ∷ [])) ∷
    in_room 82 (then (heard 1 withdraw A 100) 0 (wrote 2 1 release 100 ++ wrote 3 0 withdraw 16) 255 16 []) ∷
    maps (heard 1 mapping A 100) ∷
    in_room 81 (then (route (root_in A) 3) 16 [] 255 16 (1 ∷ 100 ∷ [])) ∷
    in_room 82 (then (route (root_in A) 3) 0 (wrote 2 0 withdraw 16 ++ wrote 3 3 mapping 17) 254 17 (1 ∷ 100 ∷ [])) ∷
    -- 15 is a neighbour as any other: a branch, a route by which that branch is held, and a Withdraw
    anew (heard 15 mapping A 100) 0 (wrote 1 0 mapping 16) 255 16 (15 ∷ 100 ∷ []) ∷
    then (route (root_in A) 15) 0 (wrote 2 0 withdraw 16) 255 16 [] ∷
    then (heard 2 mapping A 200) 0 (wrote 3 15 mapping 17) 254 17 (2 ∷ 200 ∷ []) ∷
    then (heard 15 withdraw A 100) 0 (wrote 4 15 release 100) 254 17 (2 ∷ 200 ∷ []) ∷
    -- a route order leaves the trees of other roots alone (reading 13), one whose root of 16 octets begins with the 4 octets of the order's too
    anew (route (root_in long) 9) 0 [] 256 16 [] ∷
    then (join long) 0 (record_of 1 (tell 9 mapping long 16)) 255 16 (1 ∷ []) ∷
    then (join A) 0 (wrote 2 0 mapping 17) 254 17 (1 ∷ []) ∷
    then (route (root_in other) 9) 0 [] 254 17 (1 ∷ []) ∷
    then (join other) 0 (record_of 3 (tell 9 mapping other 18)) 253 18 (1 ∷ []) ∷
    then (route (root_in A) 3) 0 (wrote 4 0 withdraw 17 ++ wrote 5 3 mapping 19) 252 16 (1 ∷ []) ∷
    then (route (root_in long) 17) 0 (record_of 6 (tell 9 withdraw long 16)) 252 19 (1 ∷ []) ∷
    then (route (root_in A) 17) 0 (wrote 7 3 withdraw 19) 252 18 (1 ∷ []) ∷
    -- 16 comes last
    anew (heard 1 mapping A 100) 0 (wrote 1 0 mapping 16) 255 16 (1 ∷ 100 ∷ []) ∷
    then (heard 2 mapping A 200) 0 [] 255 16 (1 ∷ 100 ∷ 2 ∷ 200 ∷ []) ∷
    in_room 0 (then (heard 2 mapping A 201) 10 [] 255 16 (1 ∷ 100 ∷ 2 ∷ 200 ∷ [])) ∷
    []

-- ---- branches that are held

unfoldable pub held_rows : List Row
held_rows =
    -- a new tree with a branch from its upstream alone stands without a label
    anew (heard 0 mapping A 100) 0 [] 256 16 [] ∷
    -- a branch from another neighbour: it needs one now, and does not lead back; the branch goes, and the label, and the tree stays
    then (heard 1 mapping A 200) 0 (wrote 1 0 mapping 16) 255 16 (1 ∷ 200 ∷ []) ∷
    then (heard 1 withdraw A 200) 0 (wrote 2 1 release 200 ++ wrote 3 0 withdraw 16) 255 16 [] ∷
    then (heard 0 mapping A 101) 10 [] 255 16 [] ∷
    -- so with a leaf
    then (join A) 0 (wrote 4 0 mapping 17) 254 17 (1 ∷ []) ∷
    then (leave A) 0 (wrote 5 0 withdraw 17) 254 17 [] ∷
    then (join A) 0 (wrote 6 0 mapping 18) 253 18 (1 ∷ []) ∷
    -- another upstream: the branch comes alive
    then (route (root_in A) 1) 0 (wrote 7 0 withdraw 18 ++ wrote 8 1 mapping 19) 252 19 (0 ∷ 100 ∷ 1 ∷ []) ∷
    -- the leaf leaves, and the label stays; a branch from the new upstream is held
    then (leave A) 0 [] 252 19 (0 ∷ 100 ∷ []) ∷
    then (heard 1 mapping A 300) 0 [] 252 19 (0 ∷ 100 ∷ []) ∷
    -- back: the one wakes and the other falls silent
    then (route (root_in A) 0) 0 (wrote 9 1 withdraw 19 ++ wrote 10 0 mapping 20) 251 20 (1 ∷ 300 ∷ []) ∷
    -- its own branch goes: only the held one remains, the label ends
    then (heard 1 withdraw A 300) 0 (wrote 11 1 release 300 ++ wrote 12 0 withdraw 20) 251 20 [] ∷
    -- a route order for a tree that held no label: to this node nothing is sent, and then to neighbour 2 a Mapping
    then (route (root_in A) 16) 0 [] 251 20 [] ∷
    then (route (root_in A) 2) 0 (wrote 13 2 mapping 21) 250 21 (0 ∷ 100 ∷ []) ∷
    -- to its only branch: the label ends, and no other is given; the branch goes, and the tree, which sends nothing of its own
    then (route (root_in A) 0) 0 (wrote 14 2 withdraw 21) 250 21 [] ∷
    then (heard 0 withdraw A 100) 0 (wrote 15 0 release 100) 250 21 [] ∷
    then (leave A) 14 [] 250 21 [] ∷
    []

-- ---- few labels, many trees, many roots

unfoldable pub after : Card → List Event → Card
after c [] = c
after c (e ∷ es) = after (event enough c e).card es

-- the k-th tree of A's root
unfoldable pub kin : ℕ → List ℕ
kin k = element 1 (root_in A) (1 ∷ 0 ∷ 1 ∷ k ∷ [])

-- on the card of case 1, n of them, each with a leaf and so with a label
unfoldable pub grown : ℕ → Card
grown zero = first_card
grown (suc n) = (event enough (grown n) (join (kin n))).card

-- all free labels but the first n await release
unfoldable pub scarce : ℕ → List Use → List Use
scarce n [] = []
scarce zero (free ∷ us) = awaiting 9 [] ∷ scarce zero us
scarce (suc n) (free ∷ us) = free ∷ scarce n us
scarce n (mapped k a ∷ us) = mapped k a ∷ scarce n us
scarce n (awaiting k a ∷ us) = awaiting k a ∷ scarce n us

unfoldable pub left : ℕ → Card → Card
left n c = with_labels (scarce n c.labels) c

-- as many trees as may stand, of A's root, each with a leaf and a label mapped to neighbour 0; the other labels await release
unfoldable pub crowd : ℕ → ℕ → List Tree
crowd zero k = []
crowd (suc n) k = record { name = kin k; branches = replicate 16 0; leaf = true; label = 16 + k } ∷ crowd n (suc k)

unfoldable pub used_by : List Tree → List Use
used_by [] = replicate (label_count - tree_limit) (awaiting 9 [])
used_by (t ∷ ts) = mapped 0 t.name ∷ used_by ts

unfoldable pub full_card : Card
full_card = let ts = crowd tree_limit 0 in with_routes (record { root = root_in A; via = 0; standing = tree_limit; lone = 0 } ∷ []) (with_trees ts (with_labels (used_by ts) first_card))

unfoldable pub full_rows : List Row
full_rows =
    -- 11, not 12: a new tree; and even where it needs no label
    anew (join (kin tree_limit)) 11 [] 0 16 (1 ∷ []) ∷
    anew (join other) 11 [] 0 16 (1 ∷ []) ∷
    -- a further branch to a standing tree is taken; a Withdraw of an unknown tree is answered (reading 5)
    anew (heard 5 mapping (kin 0) 100) 0 [] 0 16 (5 ∷ 100 ∷ 1 ∷ []) ∷
    anew (heard 5 withdraw A 100) 0 (wrote 1 5 release 100) 0 16 (1 ∷ []) ∷
    -- 12 before 16, none moved; the same route before 12 and before 16 (reading 6)
    in_room 0 (anew (route (root_in A) 3) 12 [] 0 16 (1 ∷ [])) ∷
    in_room 0 (anew (route (root_in A) 0) 0 [] 0 16 (1 ∷ [])) ∷
    []

unfoldable pub scarce_rows : List Row
scarce_rows =
    -- 12: three trees need a label each, two are free, though three will be given up (reading 6); to this node none is needed
    anew (route (root_in A) 3) 12 [] 2 16 (1 ∷ []) ∷
    anew (route (root_in A) 16) 0 (record_of 4 (tell 0 withdraw (kin 0) 16) ++ (record_of 5 (tell 0 withdraw (kin 1) 17) ++ record_of 6 (tell 0 withdraw (kin 2) 18))) 2 16 [] ∷
    -- a tree that went and came back is the newest (reading 10)
    anew (leave (kin 0)) 0 (record_of 4 (tell 0 withdraw (kin 0) 16)) 2 16 [] ∷
    then (join (kin 0)) 0 (record_of 5 (tell 0 mapping (kin 0) 19)) 1 19 (1 ∷ []) ∷
    then (route (root_in A) 17) 0 (record_of 6 (tell 0 withdraw (kin 1) 17) ++ (record_of 7 (tell 0 withdraw (kin 2) 18) ++ record_of 8 (tell 0 withdraw (kin 0) 19))) 1 19 [] ∷
    -- 12: a new tree, with none free; one whose root has no route needs none (reading 5)
    then (join (kin 5)) 0 [] 1 20 [] ∷
    then (route (root_in A) 3) 12 [] 1 20 [] ∷
    []

-- one label is free
unfoldable pub last_rows : List Row
last_rows =
    anew (join (kin 5)) 0 (record_of 4 (tell 0 mapping (kin 5) 19)) 0 19 (1 ∷ []) ∷
    then (join (kin 6)) 12 [] 0 19 (1 ∷ []) ∷
    then (join other) 0 [] 0 19 (1 ∷ []) ∷
    []

-- a tree of A's root that stands with a branch from neighbour 0 alone, and one with a branch from neighbour 3 alone
unfoldable pub paired : Card
paired = (event enough (event enough (grown 1) (heard 0 mapping (kin 8) 100)).card (heard 3 mapping (kin 9) 100)).card

-- no label is left
unfoldable pub needy_rows : List Row
needy_rows =
    -- 12: the standing tree would need a label, for a branch, for a leaf; a further held or other branch to a tree that has one needs none
    anew (heard 1 mapping (kin 8) 200) 12 [] 0 16 (1 ∷ []) ∷
    anew (join (kin 8)) 12 [] 0 16 (1 ∷ []) ∷
    anew (heard 0 mapping (kin 0) 200) 0 [] 0 16 (1 ∷ []) ∷
    anew (heard 1 mapping (kin 0) 200) 0 [] 0 16 (1 ∷ 200 ∷ 1 ∷ []) ∷
    -- a new tree with a held branch needs none
    anew (heard 0 mapping (kin 7) 200) 0 [] 0 16 (1 ∷ []) ∷
    -- a Withdraw is taken
    anew (heard 3 withdraw (kin 9) 100) 0 (record_of 3 (tell 3 release (kin 9) 100) ++ record_of 4 (tell 0 withdraw (kin 9) 17)) 0 17 [] ∷
    []

-- two are left
unfoldable pub counted_rows : List Row
counted_rows =
    -- 12: to neighbour 5 all three trees need a label afterwards; to neighbour 3 two of them do, since the third has its only branch there
    anew (route (root_in A) 5) 12 [] 2 16 (1 ∷ []) ∷
    anew (route (root_in A) 3) 0 (record_of 3 (tell 0 withdraw (kin 0) 16) ++ (record_of 4 (tell 3 mapping (kin 0) 18) ++ (record_of 5 (tell 3 mapping (kin 8) 19) ++ record_of 6 (tell 0 withdraw (kin 9) 17)))) 0 19 (0 ∷ 100 ∷ []) ∷
    []

-- ---- a released label rests

-- 269 was the last label given, and none is in use
unfoldable pub late : Card
late = with_last 269 first_card

unfoldable pub rest_rows : List Row
rest_rows =
    -- to the block's end, and round
    anew (join (kin 0)) 0 (record_of 1 (tell 0 mapping (kin 0) 270)) 255 270 (1 ∷ []) ∷
    then (join (kin 1)) 0 (record_of 2 (tell 0 mapping (kin 1) 271)) 254 271 (1 ∷ []) ∷
    then (join (kin 2)) 0 (record_of 3 (tell 0 mapping (kin 2) 16)) 253 16 (1 ∷ []) ∷
    -- a label that is released is free, and rests
    then (leave (kin 2)) 0 (record_of 4 (tell 0 withdraw (kin 2) 16)) 253 16 [] ∷
    then (heard 0 release (kin 2) 16) 0 [] 254 16 [] ∷
    -- a refused event does not move the last one given
    in_room 0 (then (join (kin 2)) 16 [] 254 17 []) ∷
    then (join (kin 2)) 0 (record_of 5 (tell 0 mapping (kin 2) 17)) 253 17 (1 ∷ []) ∷
    []

-- one label is free, and it is the last one given: it is the first free one going round
unfoldable pub lone : Card
lone = with_last 19 (left 1 (grown 3))

unfoldable pub lone_rows : List Row
lone_rows =
    anew (join (kin 5)) 0 (record_of 4 (tell 0 mapping (kin 5) 19)) 0 19 (1 ∷ []) ∷
    []

-- ---- a neighbour's session is lost

-- Neighbour 0 is the upstream of A's root and 3 that of `other`'s. Of A's root: kin 0 has a leaf, kin 1 a branch from 1 alone, kin 2 one from 1 and a held one from 0, kin 3 one from 1 and one from 2, kin 4 a held one from 0 alone. `other` has a branch from 1, and a held one from 3.
unfoldable pub losing : Card
losing = after (grown 1)
    (heard 1 mapping (kin 1) 100 ∷ heard 1 mapping (kin 2) 100 ∷ heard 0 mapping (kin 2) 200 ∷ heard 1 mapping (kin 3) 100 ∷ heard 2 mapping (kin 3) 300
    ∷ heard 0 mapping (kin 4) 400 ∷ route (root_in other) 3 ∷ heard 1 mapping other 100 ∷ heard 3 mapping other 500 ∷ [])

-- what the loss of 1 sends, oldest tree first
unfoldable pub loss_sent : List ℕ
loss_sent = record_of 6 (tell 0 withdraw (kin 1) 17) ++ (record_of 7 (tell 0 withdraw (kin 2) 18) ++ record_of 8 (tell 3 withdraw other 20))

unfoldable pub loss_rows : List Row
loss_rows =
    -- 1 before 16; 16: one octet short, and nothing moves
    in_room 0 (anew (lost 16) 1 [] 251 20 (1 ∷ 100 ∷ [])) ∷
    in_room (length loss_sent - 1) (anew (lost 1) 16 [] 251 20 (1 ∷ 100 ∷ [])) ∷
    -- 1 is lost: kin 1 goes, and its label awaits; kin 2 has a held branch alone, stays, and its label awaits; kin 3 keeps its own; `other` likewise stays
    in_room (length loss_sent) (anew (lost 1) 0 loss_sent 251 19 (2 ∷ 300 ∷ [])) ∷
    -- a loss with nothing to lose, in no room
    in_room 0 (then (lost 1) 0 [] 251 19 (2 ∷ 300 ∷ [])) ∷
    -- kin 1 is gone, kin 2 is not
    then (heard 1 withdraw (kin 1) 100) 0 (record_of 9 (tell 1 release (kin 1) 100)) 251 17 [] ∷
    then (heard 0 mapping (kin 2) 201) 10 [] 251 18 [] ∷
    -- now 0, the upstream: what it held is free at once, what awaited its release too; nothing is sent; kin 2 and kin 4, whose only branches were its own, are gone
    then (lost 0) 0 [] 255 16 [] ∷
    then (heard 0 release (kin 1) 17) 13 [] 255 19 [] ∷
    then (heard 0 mapping (kin 2) 201) 0 [] 255 18 [] ∷
    -- kin 0 and kin 3 stand without a label; there is no route until an order comes, for a new tree either
    then (join (kin 6)) 0 [] 255 21 [] ∷
    then (leave (kin 6)) 0 [] 255 21 [] ∷
    then (route (root_in A) 17) 0 [] 255 16 [] ∷
    then (route (root_in A) 5) 0 (record_of 10 (tell 5 mapping (kin 0) 21) ++ (record_of 11 (tell 5 mapping (kin 3) 22) ++ record_of 12 (tell 5 mapping (kin 2) 23))) 252 22 (2 ∷ 300 ∷ []) ∷
    -- the other upstream: `other` had a held branch alone, and its label awaited
    then (lost 3) 0 [] 253 20 [] ∷
    []

-- a root of four octets
unfoldable pub root : ℕ → List ℕ
root k = 10 ∷ 0 ∷ 0 ∷ k ∷ []

unfoldable pub rooted : ℕ → Card
rooted zero = (start 16).card
rooted (suc n) = (event enough (rooted n) (route (root n) 16)).card

unfoldable pub root_rows : List Row
root_rows =
    -- 15: a new root, also to this node (reading 6); "no route" and a root that stands pass
    anew (route (root 32) 3) 15 [] 256 16 [] ∷
    anew (route (root 32) 16) 15 [] 256 16 [] ∷
    anew (route (root 32) 17) 0 [] 256 16 [] ∷
    anew (route (root 0) 3) 0 [] 256 16 [] ∷
    then (route (root 1) 17) 0 [] 256 16 [] ∷
    then (route (root 32) 3) 0 [] 256 16 [] ∷
    then (route (root 1) 3) 15 [] 256 16 [] ∷
    []

-- with a tree of another root, and no free label
unfoldable pub rooted_rows : List Row
rooted_rows =
    -- 15 before 12 where both apply; with a place for the root it is 12
    anew (route (root_in A) 3) 15 [] 0 16 [] ∷
    anew (route (root 1) 17) 0 [] 0 16 [] ∷
    then (route (root_in A) 3) 12 [] 0 16 [] ∷
    []

-- the next identifier is the last of 32 bits; a tree holds label 16
unfoldable pub end_rows : List Row
end_rows =
    -- after 4294967295 comes 0: from one event to the next, and within one
    anew (heard 5 withdraw A 100) 0 (wrote 4294967295 5 release 100) 255 16 (1 ∷ []) ∷
    then (heard 5 withdraw A 100) 0 (wrote 0 5 release 100) 255 16 (1 ∷ []) ∷
    then (heard 5 withdraw A 100) 0 (wrote 1 5 release 100) 255 16 (1 ∷ []) ∷
    anew (route (root_in A) 3) 0 (record_of 4294967295 (tell 0 withdraw (kin 0) 16) ++ record_of 0 (tell 3 mapping (kin 0) 17)) 254 17 (1 ∷ []) ∷
    then (heard 5 withdraw A 100) 0 (wrote 1 5 release 100) 254 17 (1 ∷ []) ∷
    []

-- ---- the longest names

-- n trees of a 16-octet root with the longest names, the k-th first, each with a leaf and a label; meaning_longest and meaning_save_rows have tables of them
unfoldable pub load : ℕ → ℕ → List Tree
load zero k = []
load (suc n) k = record { name = element 2 (replicate 16 32) (k ∷ (two 125 ++ replicate 125 0)); branches = replicate 16 0; leaf = true; label = 16 + k } ∷ load n (suc k)

-- ---- what no row shows

-- the roots that have a route, in their order, one after the other
unfoldable pub roots_of : List Route → List ℕ
roots_of [] = []
roots_of (r ∷ rs) = r.root ++ roots_of rs

-- Reading 9: a changed route stays in its place, a removed one closes the gap, a new one comes last.
unfoldable pub rerouted : Card
rerouted =
    let changed = (event enough (rooted 3) (route (root 1) 5)).card in
    let removed = (event enough changed (route (root 0) 17)).card in
    (event enough removed (route (root 0) 7)).card

-- 17: the base's range, and a refused start's card
unfoldable pub starts_as : ℕ → ℕ → ℕ → Bool
starts_as base answer becomes = eqb (start base).answer answer && eqb (start base).card.base becomes && eqb (free_labels (start base).card) 256

unfoldable pub others : Bool
others =
    same (roots_of rerouted.routes) (root 1 ++ (root 2 ++ root 0))
    && starts_as 15 17 16 && starts_as 16 0 16 && starts_as 1048320 0 1048320 && starts_as 1048321 17 16
    -- Reading 11: a lookup by name; octets that 6, 7 or 18 refuse name none
    && same (feed (lookup_name (kin 0) (grown 2))) (1 ∷ []) && same (feed (lookup_name A (grown 2))) []
    && same (feed (lookup_name [] (grown 2))) [] && same (feed (lookup_name (wide 0) (grown 2))) []
    && same (feed (lookup_name (element 1 (root_in A) (1 ∷ [])) (grown 2))) []
    -- a branch that is held stays out of a lookup by name too, until the upstream is another
    && same (feed (lookup_name (kin 8) paired)) [] && same (feed (lookup_name (kin 9) paired)) (3 ∷ 100 ∷ [])
    && same (feed (lookup_name (kin 8) (event enough paired (route (root_in A) 3)).card)) (0 ∷ 100 ∷ [])
    && same (feed (lookup_name (kin 9) (event enough paired (route (root_in A) 3)).card)) []
    && same (feed (lookup_name (kin 9) (event enough paired (route (root_in A) 16)).card)) (3 ∷ 100 ∷ [])

-- ---- the one statement

pub corners-shown : NoneWrong (wrong 1 first_card first_card framing_rows)
    × NoneWrong (wrong 1 first_card first_card element_rows)
    × NoneWrong (wrong 1 first_card first_card label_rows)
    × NoneWrong (wrong 1 first_card first_card tree_rows)
    × NoneWrong (wrong 1 first_card first_card order_rows)
    × NoneWrong (wrong 1 full_card first_card full_rows)
    × NoneWrong (wrong 1 (left 2 (grown 3)) first_card scarce_rows)
    × NoneWrong (wrong 1 (left 1 (grown 3)) first_card last_rows)
    × NoneWrong (wrong 1 (rooted 32) first_card root_rows)
    × NoneWrong (wrong 1 (left 0 (event enough (rooted 32) (join (kin 0))).card) first_card rooted_rows)
    × NoneWrong (wrong 1 (with_next 4294967295 (grown 1)) first_card end_rows)
    × NoneWrong (wrong 1 first_card first_card held_rows)
    × NoneWrong (wrong 1 (left 0 paired) first_card needy_rows)
    × NoneWrong (wrong 1 (left 2 paired) first_card counted_rows)
    × NoneWrong (wrong 1 late first_card rest_rows)
    × NoneWrong (wrong 1 lone first_card lone_rows)
    × NoneWrong (wrong 1 losing first_card loss_rows)
    × T others
unfolding computing framing_rows element_rows label_rows tree_rows order_rows other long packed fec label said holds odd wrong first_card agrees flat feed A wide heard wrote kin grown scarce left crowd used_by full_card full_rows scarce_rows last_rows root rooted root_rows rooted_rows end_rows held_rows paired needy_rows counted_rows roots_of rerouted starts_as others late rest_rows lone lone_rows after losing loss_sent loss_rows
corners-shown = (tt, tt, tt, tt, tt, tt, tt, tt, tt, tt, tt, tt, tt, tt, tt, tt, tt, tt)
