-- The words of `Bark` on a feed that is moved to another line while its packets are under way: one soft tick. The same day with last autumn's slip: a bark.
-- Assumes nothing.
use Rattle.std.specs.Prelude.{ℕ, ◌+◌, ◌&&◌, List, [], ◌∷◌, ◌++◌, eqb, T}
use Rattle.meaning.specs.Octets.{pick, same}
use Rattle.meaning.specs.Wire.{root_in}
use Rattle.meaning.specs.Card.{sent_limit, with_last}
use Rattle.meaning.specs.Events.{Event, join, route}
use Rattle.meaning.specs.Computing.{computing}
use Rattle.meaning.specs.Examples.{A}
use Rattle.promise.specs.Promise.{Past, without, answer_to, is_taken, live_at, accepted_at, then_step}
use Rattle.promise_line.specs.Line.{parcels_f, parcels, addressed, sent_by, refuses}
use Rattle.promise_line.specs.Sends.{is_down}
use Rattle.promise_net.specs.Net.{nobody, box, Wires, box_at, arriving, anew, is_box, over_line}
use Rattle.promise_net.specs.NetExample.{is_at}
use Rattle.promise_bark.specs.Bark.{Item, Traffic, letters, messages, talk, laid, stepped, copies, copies_to, sent, taken, may_pass, passed, parted, severed, Turn, takes, does, puts, passes, cuts, turn, turns, Hand, handed, handed_of, hands}
use Rattle.promise_bark.specs.Slip.{at_once, all_at_once, early}

-- the commentary: another tree, with a root of its own
unfoldable pub B : List ℕ
B = 6 ∷ 0 ∷ 1 ∷ 4 ∷ 192 ∷ 0 ∷ 2 ∷ 2 ∷ 0 ∷ 7 ∷ 1 ∷ 0 ∷ 4 ∷ 0 ∷ 0 ∷ 0 ∷ 8 ∷ []

-- Boxes 0 and 1 stand above box 2, on two lines; box 3 stands below it.
unfoldable pub lines : Wires
lines i p =
    pick (is_at i p 0 2) (box 2 0)
    (pick (is_at i p 2 0) (box 0 2)
    (pick (is_at i p 1 2) (box 2 1)
    (pick (is_at i p 2 1) (box 1 2)
    (pick (is_at i p 2 3) (box 3 2)
    (pick (is_at i p 3 2) (box 2 3) nobody)))))

abbrev order : ℕ → Event → Turn
order i e = does i (record { room = sent_limit; does = e })

abbrev pub takes_from : ℕ → ℕ → Turn
takes_from i p = takes i p sent_limit

-- The camera's feed A comes to the leaf of box 2 by way of box 0. Two packets are put in; the first arrives. Then the feed is moved to the line of box 1: box 2 withdraws its label from box 0.
unfoldable pub morning : List Turn
morning =
    order 2 (route (root_in A) 0) ∷
    order 2 (join A) ∷
    takes_from 0 2 ∷
    puts 0 A ∷
    puts 0 A ∷
    takes_from 2 0 ∷
    order 2 (route (root_in A) 1) ∷
    []

-- Box 3 joins the commentary B, and box 2 gives a label for it to box 1. Only now the second packet arrives, on the label that was withdrawn; and box 3 takes what may have come of it.
-- Then box 1 hears of A's new label, and the next packet is put in there, and arrives.
unfoldable pub noon : List Turn
noon =
    order 3 (route (root_in B) 2) ∷
    order 3 (join B) ∷
    order 2 (route (root_in B) 1) ∷
    takes_from 2 3 ∷
    takes_from 2 0 ∷
    takes_from 3 2 ∷
    takes_from 1 2 ∷
    puts 1 A ∷
    takes_from 2 1 ∷
    []

-- who hears what: the tree under which the packet was put in (1 for A, 2 for B), the box, and the tree as which it is heard there
unfoldable pub number : List ℕ → ℕ
number a = pick (same a A) 1 2

unfoldable pub written : List Hand → List ℕ
written [] = []
written (h ∷ hs) = number h.tree ∷ h.at ∷ number h.heard ∷ written hs

unfoldable pub listened : Wires → Traffic → List Turn → List ℕ
listened far w [] = []
listened far w (t ∷ ts) = written (hands w t) ++ listened far (turn far w t) ts

unfoldable pub dawn : Traffic
dawn = laid (λ i. 16)

-- the slip
unfoldable pub slipped : Traffic → Traffic
slipped w = record { past = λ i. early (w.past i); line = w.line; refused = w.refused }

-- Labels are given in turn. Here box 2 has gone round: all its other labels were given and freed since the morning, and the search for the next begins at the block's first again.
-- (Its last label given is set so; the 254 joins and leaves of such an hour are not computed.)
unfoldable pub round : Past → Past
round p = record { card = with_last (p.card.base + 255) p.card; live = p.live; accepted = p.accepted }

unfoldable pub later : Traffic → Traffic
later w = record { past = λ i. pick (eqb i 2) (round (w.past i)) (w.past i); line = w.line; refused = w.refused }

unfoldable pub moved : Traffic
moved = later (turns lines dawn morning)

-- a name for all the definitions that the examples compute
unfoldable pub shown : ℕ
unfolding computing A B is_at lines morning noon number written listened dawn round later moved slipped at_once all_at_once early parcels_f parcels addressed sent_by refuses box_at arriving anew is_box over_line answer_to is_taken live_at accepted_at then_step is_down letters messages talk laid stepped copies copies_to sent taken may_pass passed turn turns handed handed_of hands
shown = 0

-- The first packet is heard at box 2; the second by nobody (the tick); the third at box 2 again.
pub tick-shown : T (same (listened lines dawn morning) (1 ∷ 2 ∷ 1 ∷ []) && same (listened lines moved noon) (1 ∷ 2 ∷ 1 ∷ []))
unfolding shown
tick-shown = tt

-- With the slip box 2 gives the withdrawn label for B. The second packet, of A, is heard at box 3, which has joined B alone, and as B's.
pub bark-shown : T (same (listened lines (slipped moved) noon) (1 ∷ 3 ∷ 2 ∷ 1 ∷ 2 ∷ 1 ∷ []))
unfolding shown
bark-shown = tt

-- ---- the assumption on the lines is needed

-- Box 0 hears the Withdraw and answers: the Release stands behind the second packet.
unfoldable pub answered : Traffic
answered = turn lines moved (takes_from 0 2)

-- the Release overtakes the packet, which `may_pass` rules out
unfoldable pub behind : List Item → List Item
behind [] = []
behind (x ∷ xs) = xs ++ (x ∷ [])

unfoldable pub overtaken : Traffic → Traffic
overtaken w = record { past = w.past; line = anew 2 0 (behind (w.line 2 0)) w.line; refused = w.refused }

-- box 2 takes what is next from box 0, and goes on as above; by `passes` alone the order stays
pub order-needed : T (same (listened lines answered (passes 2 0 0 ∷ takes_from 2 0 ∷ noon)) (1 ∷ 2 ∷ 1 ∷ []) && same (listened lines (overtaken answered) (takes_from 2 0 ∷ noon)) (1 ∷ 3 ∷ 2 ∷ 1 ∷ 2 ∷ 1 ∷ []))
unfolding shown answered behind overtaken
order-needed = tt

-- ---- the assumption on a line that is cut is needed

-- The feed A comes to box 2 by way of box 0, a packet is under way, and the line is cut.
unfoldable pub feeding : Traffic
feeding = turns lines dawn (order 2 (route (root_in A) 0) ∷ order 2 (join A) ∷ takes_from 0 2 ∷ puts 0 A ∷ [])

unfoldable pub parting : Traffic
parting = later (turn lines feeding (cuts 0 2))

-- the packet is not gone, which `severed` rules out
unfoldable pub left : Traffic → Traffic
left w = record { past = w.past; line = anew 2 0 (feeding.line 2 0) w.line; refused = w.refused }

-- Box 2 has freed the label at once and gives it for B: what was left on the line is heard at box 3, as B's. With the packet gone, nobody hears anything.
pub cut-needed : T (same (listened lines parting noon) [] && same (listened lines (left parting) noon) (1 ∷ 3 ∷ 2 ∷ []))
unfolding shown feeding parting left parted severed without
cut-needed = tt
