-- The measure, counted down. First the four boxes of `NetExample`; then four boxes in a ring, and the feed moved from one side of it to the other.
-- Assumes nothing.
use Rattle.std.specs.Prelude.{ℕ, ◌&&◌, List, [], ◌∷◌, ◌++◌, get_or, eqb, T}
use Rattle.meaning.specs.Octets.{pick, count, same}
use Rattle.meaning.specs.Wire.{root_in, message_in}
use Rattle.meaning.specs.Card.{sent_limit}
use Rattle.meaning.specs.Events.{Event, join, leave, route}
use Rattle.meaning.specs.Computing.{computing}
use Rattle.meaning.specs.Examples.{A}
use Rattle.promise.specs.Promise.{answer_to, is_taken, live_at, accepted_at, then_step}
use Rattle.promise_line.specs.Line.{parcels_f, parcels, addressed, sent_by, refuses}
use Rattle.promise_net.specs.Net.{nobody, box, Wires, Net, box_at, laid, arriving, stepped, anew, heard, is_box, over_line, Turn, hears, does, turn, turns, onward, along, reaches, fed}
use Rattle.promise_net.specs.NetExample.{is_at, four, asked, first}
use Rattle.promise_tick.specs.Tick.{Ear, hearing, hearings, some, delivered, weight, weights, sum_to, ahead, Rank}

-- box i hears from its number p, with room for any event
abbrev ear : ℕ → ℕ → Ear
ear i p = record { at = i; from = p; room = sent_limit }

-- the measure now, and after each serving
unfoldable pub measures : Wires → Rank → ℕ → Net → List Ear → List ℕ
measures far rank n w [] = ahead rank n w ∷ []
measures far rank n w (e ∷ es) = ahead rank n w ∷ measures far rank n (turn far w (hearing e)) es

-- how far from box 0 each box stands
unfoldable pub depths : Rank
depths a i = get_or (0 ∷ 1 ∷ 2 ∷ 2 ∷ []) i 0

pub told-shown : T (same (measures four depths 4 first (ear 1 2 ∷ ear 1 3 ∷ ear 0 1 ∷ [])) (4 ∷ 3 ∷ 1 ∷ 0 ∷ []))
unfolding computing A is_at four asked first parcels_f parcels addressed sent_by refuses box_at laid arriving stepped anew heard is_box over_line turn turns answer_to is_taken live_at accepted_at then_step weight weights sum_to ahead measures depths
told-shown = tt

-- ---- a move

-- Boxes 1 and 2 stand below box 0, on two lines; box 3 stands below both.
unfoldable pub ring : Wires
ring i p =
    pick (is_at i p 0 1) (box 1 0)
    (pick (is_at i p 1 0) (box 0 1)
    (pick (is_at i p 0 2) (box 2 0)
    (pick (is_at i p 2 0) (box 0 2)
    (pick (is_at i p 1 3) (box 3 1)
    (pick (is_at i p 3 1) (box 1 3)
    (pick (is_at i p 2 3) (box 3 2)
    (pick (is_at i p 3 2) (box 2 3) nobody)))))))

abbrev order : ℕ → Event → Turn
order i e = does i (record { room = sent_limit; does = e })

-- The feed comes in at box 0, and reaches the leaf of box 3 by way of box 1. Nothing is under way.
unfoldable pub early : List Turn
early =
    order 0 (route (root_in A) 16) ∷
    order 1 (route (root_in A) 0) ∷
    order 2 (route (root_in A) 0) ∷
    order 3 (route (root_in A) 1) ∷
    order 3 (join A) ∷
    hears 1 3 sent_limit ∷
    hears 0 1 sent_limit ∷
    []

unfoldable pub morning : Net
morning = turns ring (laid (λ i. 16)) early

-- it is moved to the line of box 2: box 3 sends a Withdraw to box 1 and a Mapping to box 2
unfoldable pub moved : Net
moved = turns ring (laid (λ i. 16)) (early ++ order 3 (route (root_in A) 2) ∷ [])

unfoldable pub heights : Rank
heights a i = get_or (0 ∷ 1 ∷ 1 ∷ 2 ∷ []) i 0

-- the measure, and how often a packet put in at box 0 is handed to the leaf of box 3: now, and after each serving
unfoldable pub watched : Net → List Ear → List ℕ
watched w [] = ahead heights 4 w ∷ count (eqb 3) (fed ring w 4 0 A) ∷ []
watched w (e ∷ es) = ahead heights 4 w ∷ count (eqb 3) (fed ring w 4 0 A) ∷ watched (turn ring w (hearing e)) es

-- The Mapping is heard first, by box 2 and then by box 0; then the Withdraw, by box 1 and box 0; then the two Releases. As many messages as the measure said: it is not too high.
-- The tick is as long as the Mapping is on its way.
pub move-shown : T (same (watched morning []) (0 ∷ 1 ∷ []) && same (watched moved (ear 2 3 ∷ ear 0 2 ∷ ear 1 3 ∷ ear 0 1 ∷ ear 3 1 ∷ ear 1 0 ∷ [])) (6 ∷ 0 ∷ 5 ∷ 0 ∷ 4 ∷ 1 ∷ 3 ∷ 1 ∷ 2 ∷ 1 ∷ 1 ∷ 1 ∷ 0 ∷ 1 ∷ []))
unfolding computing A is_at ring early morning moved parcels_f parcels addressed sent_by refuses box_at laid arriving stepped anew heard is_box over_line turn turns onward along reaches fed answer_to is_taken live_at accepted_at then_step weight weights sum_to ahead watched heights
move-shown = tt

-- the Withdraw first, and its Releases; the Mapping last
pub move-late : T (same (watched moved (ear 1 3 ∷ ear 3 1 ∷ ear 0 1 ∷ ear 1 0 ∷ ear 2 3 ∷ ear 0 2 ∷ [])) (6 ∷ 0 ∷ 5 ∷ 0 ∷ 4 ∷ 0 ∷ 3 ∷ 0 ∷ 2 ∷ 0 ∷ 1 ∷ 0 ∷ 0 ∷ 1 ∷ []))
unfolding computing A is_at ring early morning moved parcels_f parcels addressed sent_by refuses box_at laid arriving stepped anew heard is_box over_line turn turns onward along reaches fed answer_to is_taken live_at accepted_at then_step weight weights sum_to ahead watched heights
move-late = tt

-- ---- routes that go round

-- each of three boxes has the next as its number 1, and the one before as its number 0
unfoldable pub circle : Wires
circle i p =
    pick (is_at i p 0 1) (box 1 0)
    (pick (is_at i p 1 0) (box 0 1)
    (pick (is_at i p 1 1) (box 2 0)
    (pick (is_at i p 2 0) (box 1 1)
    (pick (is_at i p 2 1) (box 0 0)
    (pick (is_at i p 0 0) (box 2 1) nobody)))))

-- the routes lead round; the leaf of box 0 joins, and leaves at once: a Mapping and a Withdraw are under way to box 1
unfoldable pub hasty : Net
hasty =
    turns circle (laid (λ i. 16)) (
    order 0 (route (root_in A) 1) ∷
    order 1 (route (root_in A) 1) ∷
    order 2 (route (root_in A) 1) ∷
    order 0 (join A) ∷
    order 0 (leave A) ∷
    [])

-- the Mapping and the Withdraw go once round, and each Release is heard
unfoldable pub once : List Ear
once = ear 1 0 ∷ ear 1 0 ∷ ear 0 1 ∷ ear 2 0 ∷ ear 2 0 ∷ ear 1 1 ∷ ear 0 0 ∷ ear 0 0 ∷ ear 2 1 ∷ []

-- the messages under way to each box from each of its two numbers, by kind (0x400 a Mapping, 0x402 a Withdraw), with 0 after each number
unfoldable pub kinds : List (List ℕ) → List ℕ
kinds [] = 0 ∷ []
kinds (s ∷ ss) = (message_in s).kind ∷ kinds ss

unfoldable pub under_way : Net → List ℕ
under_way w = kinds (w.inbox 0 0) ++ (kinds (w.inbox 0 1) ++ (kinds (w.inbox 1 0) ++ (kinds (w.inbox 1 1) ++ (kinds (w.inbox 2 0) ++ kinds (w.inbox 2 1)))))

unfoldable pub two : List ℕ
two = 0 ∷ 0 ∷ 0x400 ∷ 0x402 ∷ 0 ∷ 0 ∷ 0 ∷ 0 ∷ []

-- Nobody is joined, and the two go round: after once round, and after twice, a Mapping and a Withdraw are under way to box 1 as before. So something must be asked of the routes.
pub chase-shown : T (same (under_way hasty) two && same (under_way (turns circle hasty (hearings once))) two && same (under_way (turns circle hasty (hearings (once ++ once)))) two && eqb (delivered circle hasty (once ++ once)) 18)
unfolding computing A is_at circle hasty once kinds under_way two parcels_f parcels addressed sent_by refuses box_at laid arriving stepped anew heard is_box over_line turn turns hearings answer_to is_taken live_at accepted_at then_step some delivered
chase-shown = tt
