-- The words of `Promise` on the history of cases 1 to 7: what is live after it, and where the tree leads, from the messages and the accepted events.
-- Assumes nothing.
use Rattle.std.specs.Prelude.{ℕ, ◌&&◌, List, [], ◌∷◌, T}
use Rattle.meaning.specs.Octets.{pick, same}
use Rattle.meaning.specs.Wire.{root_in, mapping, withdraw, release}
use Rattle.meaning.specs.Card.{sent_limit}
use Rattle.meaning.specs.Events.{Event, route, lost}
use Rattle.meaning.specs.Computing.{computing}
use Rattle.meaning.specs.Examples.{A, heard, flat, feed}
use Rattle.promise.specs.Promise.{Given, is_about, mark, remove, note_sent, note_all, note_taken, without_label, said_by, branches_said, leaf_by, branches_to, branches_by, route_by, feed_by, Step, answer_to, sends, is_taken, live_at, accepted_at, then_step, then_steps, history, without}

abbrev pub with_room : Event → Step
with_room e = record { room = sent_limit; does = e }

-- A's root is routed to neighbour 0, and then cases 1 to 7, the refused Releases among them
unfoldable pub seven : List Step
seven =
    with_room (route (root_in A) 0) ∷
    with_room (heard 1 mapping A 100) ∷
    with_room (heard 2 mapping A 200) ∷
    with_room (heard 1 withdraw A 100) ∷
    with_room (heard 2 withdraw A 200) ∷
    with_room (heard 1 mapping A 300) ∷
    with_room (heard 3 release A 16) ∷
    with_room (heard 0 release A 16) ∷
    with_room (heard 0 release A 16) ∷
    with_room (route (root_in A) 3) ∷
    []

-- neighbour, label, and 1 where Withdraw was sent
unfoldable pub ledger : List Given → List ℕ
ledger [] = []
ledger (g ∷ gs) = g.to ∷ g.label ∷ pick g.withdrawn 1 0 ∷ ledger gs

-- 18 is live at 3, 17 at 0 and withdrawn; A leads to neighbour 1 under 300
pub seven-shown : T (same (ledger (history 16 seven).live) (3 ∷ 18 ∷ 0 ∷ 0 ∷ 17 ∷ 1 ∷ []) && same (feed (feed_by A (history 16 seven).accepted)) (1 ∷ 300 ∷ []))
unfolding computing ledger seven A heard flat feed then_steps then_step history answer_to sends is_taken live_at accepted_at note_all note_sent note_taken mark remove is_about without_label said_by branches_said leaf_by branches_to branches_by route_by feed_by
seven-shown = tt

-- ---- a loss

-- then neighbour 0 is lost, whose label 17 we had withdrawn; and then neighbour 3, the upstream
unfoldable pub first : List Step
first = with_room (heard 3 mapping A 400) ∷ with_room (lost 0) ∷ []

unfoldable pub second : List Step
second = with_room (lost 3) ∷ []

unfoldable pub third : List Step
third = with_room (lost 1) ∷ []

-- 17 is no longer live, and A leads to 1; then no label is live, and A leads to 1 alone, since the branch of 3 went with it; then to nobody
pub losses-shown : T (same (ledger (then_steps (history 16 seven) first).live) (3 ∷ 18 ∷ 0 ∷ []) && same (feed (feed_by A (then_steps (history 16 seven) first).accepted)) (1 ∷ 300 ∷ [])
    && same (ledger (then_steps (then_steps (history 16 seven) first) second).live) [] && same (feed (feed_by A (then_steps (then_steps (history 16 seven) first) second).accepted)) (1 ∷ 300 ∷ [])
    && same (feed (feed_by A (then_steps (then_steps (then_steps (history 16 seven) first) second) third).accepted)) [])
unfolding computing ledger seven first second third A heard flat feed then_steps then_step history answer_to sends is_taken live_at accepted_at note_all note_sent note_taken mark remove without is_about without_label said_by branches_said leaf_by branches_to branches_by route_by feed_by
losses-shown = tt
