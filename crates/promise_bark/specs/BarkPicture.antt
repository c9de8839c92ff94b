-- THE PICTURES of docs/NO-BARK.md: the day of `BarkExample` after each of its turns. `tools/picture` draws docs/move.svg and docs/bark.svg from the rows below and the sentence above each, and these are what the definitions compute.
-- Assumes nothing.
use Rattle.std.specs.Prelude.{ℕ, ◌&&◌, List, [], ◌∷◌, ◌++◌, length, eqb, T}
use Rattle.meaning.specs.Octets.{pick, same}
use Rattle.meaning.specs.Wire.{mapping, withdraw, message_in}
use Rattle.promise_net.specs.Net.{Wires}
use Rattle.promise_bark.specs.Bark.{Item, letter, packet, Traffic, Turn, puts, turn, hands}
use Rattle.promise_bark.specs.BarkExample.{B, lines, morning, noon, takes_from, number, written, dawn, moved, slipped, shown}

-- the first packet of B, after what was still under way is heard
unfoldable pub evening : List Turn
evening =
    takes_from 0 2 ∷
    takes_from 2 0 ∷
    takes_from 1 2 ∷
    puts 1 B ∷
    takes_from 2 1 ∷
    takes_from 3 2 ∷
    []

-- of an item its kind (1 Mapping, 2 Withdraw, 3 Release, 4 packet), its tree (1 for A, 2 for B), and its label
unfoldable pub kind : ℕ → ℕ
kind k = pick (eqb k mapping) 1 (pick (eqb k withdraw) 2 3)

unfoldable pub item_row : Item → List ℕ
item_row (letter s) = kind (message_in s).kind ∷ number (message_in s).name ∷ (message_in s).label ∷ []
item_row (packet a l) = 4 ∷ number a ∷ l ∷ []

unfoldable pub item_rows : List Item → List ℕ
item_rows [] = []
item_rows (x ∷ xs) = item_row x ++ item_rows xs

-- how many are under way, and each of them
unfoldable pub line_row : List Item → List ℕ
line_row xs = length xs ∷ item_rows xs

-- A row: to box 0 from 2, to 2 from 0, to 1 from 2, to 2 from 1, to 2 from 3, to 3 from 2; and of the packets that the turn hands to leaves their number, and of each the tree, the box, and the tree as which it is heard.
unfoldable pub row : Traffic → Traffic → Turn → List ℕ
row w next t =
    line_row (next.line 0 2) ++ line_row (next.line 2 0) ++ line_row (next.line 1 2) ++ line_row (next.line 2 1) ++ line_row (next.line 2 3) ++ line_row (next.line 3 2)
    ++ length (hands w t) ∷ written (hands w t)

unfoldable pub rows : Wires → Traffic → List Turn → List ℕ
rows far w [] = []
rows far w (t ∷ ts) = let next = turn far w t in row w next t ++ rows far next ts

-- the morning
unfoldable pub morning_rows : List ℕ
morning_rows =
    -- box 2 is ordered the route of A: to box 0
    0 ∷ 0 ∷ 0 ∷ 0 ∷ 0 ∷ 0 ∷ 0 ∷
    -- box 2 joins A
    1 ∷ 1 ∷ 1 ∷ 16 ∷ 0 ∷ 0 ∷ 0 ∷ 0 ∷ 0 ∷ 0 ∷
    -- box 0 hears the Mapping
    0 ∷ 0 ∷ 0 ∷ 0 ∷ 0 ∷ 0 ∷ 0 ∷
    -- a packet of A is put in at box 0
    0 ∷ 1 ∷ 4 ∷ 1 ∷ 16 ∷ 0 ∷ 0 ∷ 0 ∷ 0 ∷ 0 ∷
    -- and a second one
    0 ∷ 2 ∷ 4 ∷ 1 ∷ 16 ∷ 4 ∷ 1 ∷ 16 ∷ 0 ∷ 0 ∷ 0 ∷ 0 ∷ 0 ∷
    -- the first packet comes to box 2
    0 ∷ 1 ∷ 4 ∷ 1 ∷ 16 ∷ 0 ∷ 0 ∷ 0 ∷ 0 ∷ 1 ∷ 1 ∷ 2 ∷ 1 ∷
    -- THE MOVE: box 2 is ordered the route of A to box 1
    1 ∷ 2 ∷ 1 ∷ 16 ∷ 1 ∷ 4 ∷ 1 ∷ 16 ∷ 1 ∷ 1 ∷ 1 ∷ 17 ∷ 0 ∷ 0 ∷ 0 ∷ 0 ∷
    []

-- then this card
unfoldable pub move_rows : List ℕ
move_rows =
    -- box 3 is ordered the route of B: to box 2
    1 ∷ 2 ∷ 1 ∷ 16 ∷ 1 ∷ 4 ∷ 1 ∷ 16 ∷ 1 ∷ 1 ∷ 1 ∷ 17 ∷ 0 ∷ 0 ∷ 0 ∷ 0 ∷
    -- box 3 joins B
    1 ∷ 2 ∷ 1 ∷ 16 ∷ 1 ∷ 4 ∷ 1 ∷ 16 ∷ 1 ∷ 1 ∷ 1 ∷ 17 ∷ 0 ∷ 1 ∷ 1 ∷ 2 ∷ 16 ∷ 0 ∷ 0 ∷
    -- box 2 is ordered the route of B: to box 1
    1 ∷ 2 ∷ 1 ∷ 16 ∷ 1 ∷ 4 ∷ 1 ∷ 16 ∷ 1 ∷ 1 ∷ 1 ∷ 17 ∷ 0 ∷ 1 ∷ 1 ∷ 2 ∷ 16 ∷ 0 ∷ 0 ∷
    -- box 2 hears of B, and gives a label for it
    1 ∷ 2 ∷ 1 ∷ 16 ∷ 1 ∷ 4 ∷ 1 ∷ 16 ∷ 2 ∷ 1 ∷ 1 ∷ 17 ∷ 1 ∷ 2 ∷ 18 ∷ 0 ∷ 0 ∷ 0 ∷ 0 ∷
    -- the late packet of A comes to box 2
    1 ∷ 2 ∷ 1 ∷ 16 ∷ 0 ∷ 2 ∷ 1 ∷ 1 ∷ 17 ∷ 1 ∷ 2 ∷ 18 ∷ 0 ∷ 0 ∷ 0 ∷ 0 ∷
    -- box 3 takes what is there
    1 ∷ 2 ∷ 1 ∷ 16 ∷ 0 ∷ 2 ∷ 1 ∷ 1 ∷ 17 ∷ 1 ∷ 2 ∷ 18 ∷ 0 ∷ 0 ∷ 0 ∷ 0 ∷
    -- box 1 hears of A's new label
    1 ∷ 2 ∷ 1 ∷ 16 ∷ 0 ∷ 1 ∷ 1 ∷ 2 ∷ 18 ∷ 0 ∷ 0 ∷ 0 ∷ 0 ∷
    -- a packet of A is put in at box 1
    1 ∷ 2 ∷ 1 ∷ 16 ∷ 0 ∷ 1 ∷ 1 ∷ 2 ∷ 18 ∷ 1 ∷ 4 ∷ 1 ∷ 17 ∷ 0 ∷ 0 ∷ 0 ∷
    -- it comes to box 2
    1 ∷ 2 ∷ 1 ∷ 16 ∷ 0 ∷ 1 ∷ 1 ∷ 2 ∷ 18 ∷ 0 ∷ 0 ∷ 0 ∷ 1 ∷ 1 ∷ 2 ∷ 1 ∷
    -- box 0 hears the Withdraw, and answers
    0 ∷ 1 ∷ 3 ∷ 1 ∷ 16 ∷ 1 ∷ 1 ∷ 2 ∷ 18 ∷ 0 ∷ 0 ∷ 0 ∷ 0 ∷
    -- box 2 hears the Release
    0 ∷ 0 ∷ 1 ∷ 1 ∷ 2 ∷ 18 ∷ 0 ∷ 0 ∷ 0 ∷ 0 ∷
    -- box 1 hears of B
    0 ∷ 0 ∷ 0 ∷ 0 ∷ 0 ∷ 0 ∷ 0 ∷
    -- a packet of B is put in at box 1
    0 ∷ 0 ∷ 0 ∷ 1 ∷ 4 ∷ 2 ∷ 18 ∷ 0 ∷ 0 ∷ 0 ∷
    -- it comes to box 2
    0 ∷ 0 ∷ 0 ∷ 0 ∷ 0 ∷ 1 ∷ 4 ∷ 2 ∷ 16 ∷ 0 ∷
    -- and to box 3
    0 ∷ 0 ∷ 0 ∷ 0 ∷ 0 ∷ 0 ∷ 1 ∷ 2 ∷ 3 ∷ 2 ∷
    []

-- and then a card that frees a label at its own Withdraw
unfoldable pub slip_rows : List ℕ
slip_rows =
    -- box 3 is ordered the route of B: to box 2
    1 ∷ 2 ∷ 1 ∷ 16 ∷ 1 ∷ 4 ∷ 1 ∷ 16 ∷ 1 ∷ 1 ∷ 1 ∷ 17 ∷ 0 ∷ 0 ∷ 0 ∷ 0 ∷
    -- box 3 joins B
    1 ∷ 2 ∷ 1 ∷ 16 ∷ 1 ∷ 4 ∷ 1 ∷ 16 ∷ 1 ∷ 1 ∷ 1 ∷ 17 ∷ 0 ∷ 1 ∷ 1 ∷ 2 ∷ 16 ∷ 0 ∷ 0 ∷
    -- box 2 is ordered the route of B: to box 1
    1 ∷ 2 ∷ 1 ∷ 16 ∷ 1 ∷ 4 ∷ 1 ∷ 16 ∷ 1 ∷ 1 ∷ 1 ∷ 17 ∷ 0 ∷ 1 ∷ 1 ∷ 2 ∷ 16 ∷ 0 ∷ 0 ∷
    -- box 2 hears of B, and gives a label for it
    1 ∷ 2 ∷ 1 ∷ 16 ∷ 1 ∷ 4 ∷ 1 ∷ 16 ∷ 2 ∷ 1 ∷ 1 ∷ 17 ∷ 1 ∷ 2 ∷ 16 ∷ 0 ∷ 0 ∷ 0 ∷ 0 ∷
    -- the late packet of A comes to box 2
    1 ∷ 2 ∷ 1 ∷ 16 ∷ 0 ∷ 2 ∷ 1 ∷ 1 ∷ 17 ∷ 1 ∷ 2 ∷ 16 ∷ 0 ∷ 0 ∷ 1 ∷ 4 ∷ 1 ∷ 16 ∷ 0 ∷
    -- box 3 takes what is there
    1 ∷ 2 ∷ 1 ∷ 16 ∷ 0 ∷ 2 ∷ 1 ∷ 1 ∷ 17 ∷ 1 ∷ 2 ∷ 16 ∷ 0 ∷ 0 ∷ 0 ∷ 1 ∷ 1 ∷ 3 ∷ 2 ∷
    -- box 1 hears of A's new label
    1 ∷ 2 ∷ 1 ∷ 16 ∷ 0 ∷ 1 ∷ 1 ∷ 2 ∷ 16 ∷ 0 ∷ 0 ∷ 0 ∷ 0 ∷
    -- a packet of A is put in at box 1
    1 ∷ 2 ∷ 1 ∷ 16 ∷ 0 ∷ 1 ∷ 1 ∷ 2 ∷ 16 ∷ 1 ∷ 4 ∷ 1 ∷ 17 ∷ 0 ∷ 0 ∷ 0 ∷
    -- it comes to box 2
    1 ∷ 2 ∷ 1 ∷ 16 ∷ 0 ∷ 1 ∷ 1 ∷ 2 ∷ 16 ∷ 0 ∷ 0 ∷ 0 ∷ 1 ∷ 1 ∷ 2 ∷ 1 ∷
    -- box 0 hears the Withdraw, and answers
    0 ∷ 1 ∷ 3 ∷ 1 ∷ 16 ∷ 1 ∷ 1 ∷ 2 ∷ 16 ∷ 0 ∷ 0 ∷ 0 ∷ 0 ∷
    -- box 2 hears the Release
    0 ∷ 0 ∷ 1 ∷ 1 ∷ 2 ∷ 16 ∷ 0 ∷ 0 ∷ 0 ∷ 0 ∷
    -- box 1 hears of B
    0 ∷ 0 ∷ 0 ∷ 0 ∷ 0 ∷ 0 ∷ 0 ∷
    -- a packet of B is put in at box 1
    0 ∷ 0 ∷ 0 ∷ 1 ∷ 4 ∷ 2 ∷ 16 ∷ 0 ∷ 0 ∷ 0 ∷
    -- it comes to box 2
    0 ∷ 0 ∷ 0 ∷ 0 ∷ 0 ∷ 1 ∷ 4 ∷ 2 ∷ 16 ∷ 0 ∷
    -- and to box 3
    0 ∷ 0 ∷ 0 ∷ 0 ∷ 0 ∷ 0 ∷ 1 ∷ 2 ∷ 3 ∷ 2 ∷
    []

pub rows-shown : T (same (rows lines dawn morning) morning_rows && same (rows lines moved (noon ++ evening)) move_rows && same (rows lines (slipped moved) (noon ++ evening)) slip_rows)
unfolding shown evening kind item_row item_rows line_row row rows morning_rows move_rows slip_rows
rows-shown = tt
