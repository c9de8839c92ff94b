-- The words of `Line` on four short days of two boxes: a label is asked for, stands, is given up and comes back; one is given up before it was heard of; one whose Withdraw was refused; and one that goes because a third neighbour was lost.
-- Assumes nothing.
use Rattle.std.specs.Prelude.{ℕ, ◌&&◌, List, [], ◌∷◌, ◌++◌, length, T}
use Rattle.meaning.specs.Octets.{pick, same}
use Rattle.meaning.specs.Wire.{root_in, mapping}
use Rattle.meaning.specs.Card.{mapped_to, use_of, sent_limit}
use Rattle.meaning.specs.Events.{Event, join, leave, route, lost}
use Rattle.meaning.specs.Computing.{computing}
use Rattle.meaning.specs.Examples.{A}
use Rattle.meaning.specs.Examples
use Rattle.promise.specs.Promise.{is_about, mark, remove, note_sent, note_all, note_taken, answer_to, is_taken, live_at, accepted_at, sends, then_step, without}
use Rattle.promise_line.specs.Line.{parcels_f, parcels, addressed, Act, hears, does, is_from, sent_by, refuses, after, heard, answered, acts, says, gets, ready, World, Turn, above, below, turn, laid, lists, lives}

abbrev pub orders : Event → Act
orders e = does (record { room = sent_limit; does = e })

-- Of the tree A and the lower card's label 32: the branch that is listed, whether 32 is live, to whom it is mapped (17: nobody), how many messages are under way up and down, and whether the upper box has refused.
unfoldable pub view : World → List ℕ
view w = lists w A ∷ lives w A 32 ∷ mapped_to (use_of 32 w.lower.past.card) ∷ length w.upper.inbox ∷ length w.lower.inbox ∷ pick w.upper.refused 1 0 ∷ []

-- after each turn
unfoldable pub views : World → List Turn → List ℕ
views w [] = []
views w (t ∷ ts) = let next = turn w t in view next ++ views next ts

-- the upper card has base 16 and knows the lower as 1; the lower has base 32 and knows the upper as 0
unfoldable pub two_cards : World
two_cards = laid 16 1 32 0

unfoldable pub good_day : List Turn
good_day =
    below (orders (route (root_in A) 0)) ∷
    below (orders (join A)) ∷
    above (hears sent_limit) ∷
    below (orders (leave A)) ∷
    above (hears sent_limit) ∷
    below (hears sent_limit) ∷
    []

-- Mapping and Withdraw are under way at once
unfoldable pub hasty_day : List Turn
hasty_day =
    below (orders (route (root_in A) 0)) ∷
    below (orders (join A)) ∷
    below (orders (leave A)) ∷
    above (hears sent_limit) ∷
    above (hears sent_limit) ∷
    below (hears sent_limit) ∷
    []

-- The Withdraw is refused by 16: the branch stays, and 32 stays live, since no Release comes. The next Mapping for A is of 33, and is refused by 10.
unfoldable pub bad_day : List Turn
bad_day =
    below (orders (route (root_in A) 0)) ∷
    below (orders (join A)) ∷
    above (hears sent_limit) ∷
    below (orders (leave A)) ∷
    above (hears 0) ∷
    below (orders (join A)) ∷
    above (hears sent_limit) ∷
    []

-- Neighbour 5 of the lower card gives A a branch, and is lost: the loss itself sends the Withdraw. (The loss of the upper box's own session is no act, and changes nothing.)
unfoldable pub loss_day : List Turn
loss_day =
    below (orders (route (root_in A) 0)) ∷
    below (orders (Examples.heard 5 mapping A 100)) ∷
    above (hears sent_limit) ∷
    below (orders (lost 0)) ∷
    below (orders (lost 5)) ∷
    above (hears sent_limit) ∷
    below (hears sent_limit) ∷
    []

-- where this unfolds, all of it computes
unfoldable pub going : ℕ
unfolding computing A Examples.heard view views two_cards good_day hasty_day bad_day loss_day parcels_f parcels addressed is_from sent_by refuses after heard answered acts says gets ready turn laid lists lives is_about mark remove note_sent note_all note_taken answer_to is_taken live_at accepted_at sends then_step without
going = 0

pub days-shown : T (
    same (views two_cards good_day) (
    0 ∷ 0 ∷ 17 ∷ 0 ∷ 0 ∷ 0 ∷
    0 ∷ 1 ∷ 0 ∷ 1 ∷ 0 ∷ 0 ∷
    32 ∷ 1 ∷ 0 ∷ 0 ∷ 0 ∷ 0 ∷
    32 ∷ 1 ∷ 17 ∷ 1 ∷ 0 ∷ 0 ∷
    0 ∷ 1 ∷ 17 ∷ 0 ∷ 1 ∷ 0 ∷
    0 ∷ 0 ∷ 17 ∷ 0 ∷ 0 ∷ 0 ∷ [])
    && same (views two_cards hasty_day) (
    0 ∷ 0 ∷ 17 ∷ 0 ∷ 0 ∷ 0 ∷
    0 ∷ 1 ∷ 0 ∷ 1 ∷ 0 ∷ 0 ∷
    0 ∷ 1 ∷ 17 ∷ 2 ∷ 0 ∷ 0 ∷
    32 ∷ 1 ∷ 17 ∷ 1 ∷ 0 ∷ 0 ∷
    0 ∷ 1 ∷ 17 ∷ 0 ∷ 1 ∷ 0 ∷
    0 ∷ 0 ∷ 17 ∷ 0 ∷ 0 ∷ 0 ∷ [])
    && same (views two_cards bad_day) (
    0 ∷ 0 ∷ 17 ∷ 0 ∷ 0 ∷ 0 ∷
    0 ∷ 1 ∷ 0 ∷ 1 ∷ 0 ∷ 0 ∷
    32 ∷ 1 ∷ 0 ∷ 0 ∷ 0 ∷ 0 ∷
    32 ∷ 1 ∷ 17 ∷ 1 ∷ 0 ∷ 0 ∷
    32 ∷ 1 ∷ 17 ∷ 0 ∷ 0 ∷ 1 ∷
    32 ∷ 1 ∷ 17 ∷ 1 ∷ 0 ∷ 1 ∷
    32 ∷ 1 ∷ 17 ∷ 0 ∷ 0 ∷ 1 ∷ [])
    && same (views two_cards loss_day) (
    0 ∷ 0 ∷ 17 ∷ 0 ∷ 0 ∷ 0 ∷
    0 ∷ 1 ∷ 0 ∷ 1 ∷ 0 ∷ 0 ∷
    32 ∷ 1 ∷ 0 ∷ 0 ∷ 0 ∷ 0 ∷
    32 ∷ 1 ∷ 0 ∷ 0 ∷ 0 ∷ 0 ∷
    32 ∷ 1 ∷ 17 ∷ 1 ∷ 0 ∷ 0 ∷
    0 ∷ 1 ∷ 17 ∷ 0 ∷ 1 ∷ 0 ∷
    0 ∷ 0 ∷ 17 ∷ 0 ∷ 0 ∷ 0 ∷ []))
unfolding going
days-shown = tt
