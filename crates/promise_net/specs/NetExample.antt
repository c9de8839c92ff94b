-- The words of `Net` on four boxes: 0 is the root's, 1 stands below it, 2 and 3 below 1. A packet is put in at box 0 before anything is heard, after all is, after a leaf has left, and when a line was cut and has come again.
-- Assumes nothing.
use Rattle.std.specs.Prelude.{ℕ, Bool, ◌&&◌, List, [], ◌∷◌, length, eqb, T}
use Rattle.meaning.specs.Octets.{pick, same}
use Rattle.meaning.specs.Wire.{root_in}
use Rattle.meaning.specs.Card.{sent_limit}
use Rattle.meaning.specs.Events.{Event, join, leave, route}
use Rattle.meaning.specs.Computing.{computing}
use Rattle.meaning.specs.Examples.{A}
use Rattle.promise.specs.Promise.{answer_to, is_taken, live_at, accepted_at, then_step}
use Rattle.promise_line.specs.Line.{parcels_f, parcels, addressed, sent_by, refuses}
use Rattle.promise_net.specs.Net.{nobody, box, Wires, Net, box_at, laid, arriving, stepped, anew, heard, is_box, over_line, parted, severed, Turn, hears, does, cuts, turn, turns, onward, along, reaches, fed}

abbrev order : ℕ → Event → Turn
order i e = does i (record { room = sent_limit; does = e })

unfoldable pub is_at : ℕ → ℕ → ℕ → ℕ → Bool
is_at i p j q = eqb i j && eqb p q

unfoldable pub four : Wires
four i p =
    pick (is_at i p 0 1) (box 1 0)
    (pick (is_at i p 1 0) (box 0 1)
    (pick (is_at i p 1 2) (box 2 0)
    (pick (is_at i p 2 0) (box 1 2)
    (pick (is_at i p 1 3) (box 3 0)
    (pick (is_at i p 3 0) (box 1 3) nobody)))))

-- the routes lead to box 0; the leaves of 0, 2 and 3 join
unfoldable pub asked : List Turn
asked =
    order 0 (route (root_in A) 16) ∷
    order 1 (route (root_in A) 0) ∷
    order 2 (route (root_in A) 0) ∷
    order 3 (route (root_in A) 0) ∷
    order 0 (join A) ∷
    order 2 (join A) ∷
    order 3 (join A) ∷
    []

-- 1 hears of 2 and of 3, and 0 of 1
unfoldable pub told : List Turn
told = hears 1 2 sent_limit ∷ hears 1 3 sent_limit ∷ hears 0 1 sent_limit ∷ []

-- 2 leaves, and 1 hears of it and answers
unfoldable pub left : List Turn
left = order 2 (leave A) ∷ hears 1 2 sent_limit ∷ hears 2 0 sent_limit ∷ []

unfoldable pub first : Net
first = turns four (laid (λ i. 16)) asked

unfoldable pub second : Net
second = turns four first told

unfoldable pub third : Net
third = turns four second left

-- 3 leaves, which 1 hears and answers, and joins again: a message is under way each way. Then the line of 1 and 3 is cut.
unfoldable pub busy : Net
busy = turns four third (order 3 (leave A) ∷ hears 1 3 sent_limit ∷ order 3 (join A) ∷ [])

unfoldable pub cut : Net
cut = turn four busy (cuts 1 3)

unfoldable pub under_way : Net → List ℕ
under_way w = length (w.inbox 1 3) ∷ length (w.inbox 3 0) ∷ []

-- it is there again, and box 3 is given its route anew

unfoldable pub mended : List Turn
mended = hears 0 1 sent_limit ∷ hears 1 0 sent_limit ∷ order 3 (route (root_in A) 0) ∷ hears 1 3 sent_limit ∷ hears 0 1 sent_limit ∷ []

unfoldable pub fourth : Net
fourth = turns four cut mended

pub four-shown : T (same (fed four first 4 0 A) (0 ∷ []) && same (fed four second 4 0 A) (0 ∷ 2 ∷ 3 ∷ []) && same (fed four third 4 0 A) (0 ∷ 3 ∷ [])
    && same (under_way busy) (1 ∷ 1 ∷ []) && same (under_way cut) (0 ∷ 0 ∷ []) && same (fed four cut 4 0 A) (0 ∷ []) && same (fed four fourth 4 0 A) (0 ∷ 3 ∷ []))
unfolding computing A is_at four asked told left first second third busy cut under_way mended fourth parted severed parcels_f parcels addressed sent_by refuses box_at laid arriving stepped anew heard is_box over_line turn turns onward along reaches fed answer_to is_taken live_at accepted_at then_step
four-shown = tt
