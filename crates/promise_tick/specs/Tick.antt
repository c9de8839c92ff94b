-- THE SOFT TICK: how long a move is heard. Boxes in a net hear what is under way, nothing more comes from outside, and the talk dies down.
-- Assumes nothing.
use Rattle.std.specs.Prelude.{ℕ, zero, suc, ◌+◌, ◌*◌, ◌≤◌, ◌<◌, ◌≡◌, true, false, ◌&&◌, List, [], ◌∷◌, ◌++◌, length, eqb}
use Rattle.meaning.specs.Octets.{pick, count}
use Rattle.meaning.specs.Wire.{root_in, element_refusal, mapping, withdraw, Message, message_in}
use Rattle.meaning.specs.Events.{of_root, route}
use Rattle.promise.specs.Promise.{Step, sends}
use Rattle.promise_net.specs.Net.{box, Wires, Wired, Net, laid, Turn, hears, does, turn, turns, fed, joined, Way, Climbs}
use Rattle.meaning.specs.Card.{neighbour_count}

-- ---- only hearing

-- box `at` is served from its number `from`: it hears the oldest message under way from there, with so much room; where none is, nothing happens
pub record Ear : Type 0 where
  pub at : ℕ
  pub from : ℕ
  pub room : ℕ

abbrev pub hearing : Ear → Turn
hearing e = hears e.at e.from e.room

-- one after the other, in any order of service
unfoldable pub hearings : List Ear → List Turn
hearings [] = []
hearings (e ∷ es) = hearing e ∷ hearings es

-- nothing is under way between the boxes
abbrev pub Silent : Wires → Net → Type 0
Silent far w = (i p j q : ℕ) → far i p ≡ box j q → w.inbox i p ≡ []

-- 1 where a message is under way, 0 where none is
unfoldable pub some : List (List ℕ) → ℕ
some [] = 0
some (s ∷ ss) = 1

-- how many of the servings found a message
unfoldable pub delivered : Wires → Net → List Ear → ℕ
delivered far w [] = 0
delivered far w (e ∷ es) = some (w.inbox e.at e.from) + delivered far (turn far w (hearing e)) es

-- Each serving finds a message, as long as there is one anywhere.
unfoldable pub Served : Wires → Net → List Ear → Type 0
Served far w [] = Unit {0}
Served far w (e ∷ es) = (w.inbox e.at e.from ≡ [] → Silent far w) × Served far (turn far w (hearing e)) es

-- ---- the measure

-- a rank of each box, for each tree's name
abbrev pub Rank : Type 0
Rank = List ℕ → ℕ → ℕ

-- How many messages may be heard on account of m, under way to box i, itself among them. A Mapping goes on as one Mapping to the upstream, which has a lower rank;
-- a Withdraw is answered by a Release, and goes on as one Withdraw; a Release (and what is no message) ends there.
unfoldable pub weight : Rank → ℕ → Message → ℕ
weight rank i m = pick (eqb m.kind mapping) (1 + rank m.name i) (pick (eqb m.kind withdraw) (2 * (1 + rank m.name i)) 1)

unfoldable pub weights : Rank → ℕ → List (List ℕ) → ℕ
weights rank i [] = 0
weights rank i (s ∷ ss) = weight rank i (message_in s) + weights rank i ss

-- the sum of f over the numbers under n
unfoldable pub sum_to : ℕ → (ℕ → ℕ) → ℕ
sum_to zero f = 0
sum_to (suc n) f = f n + sum_to n f

-- THE MEASURE: how many messages may yet be heard in a net of n boxes
unfoldable pub ahead : Rank → ℕ → Net → ℕ
ahead rank n w = sum_to n (λ i. sum_to neighbour_count (λ p. weights rank i (w.inbox i p)))

-- ---- what is asked of the net

-- the boxes that have lines are those under n
abbrev pub Within : Wires → ℕ → Type 0
Within far n = (i p j q : ℕ) → far i p ≡ box j q → i < n

-- the names of messages, as octets, are all such
unfoldable pub EachName : (List ℕ → Type 0) → List (List ℕ) → Type 0
EachName P [] = Unit {0}
EachName P (s ∷ ss) = P (message_in s).name × EachName P ss

-- Every tree that a message under way is about has routes that go round nowhere. Of other trees nothing is asked.
abbrev pub Slopes : Wires → Net → Rank → Type 0
Slopes far w rank = (i p : ℕ) → EachName (λ a. Climbs far w a (rank a)) (w.inbox i p)

-- ---- what is said

pub record DiesDown (far : Wires) (n : ℕ) (rank : Rank) (w : Net) : Type 0 where
  -- at every moment from now on, each message that is heard takes the measure down
  pub falls : (es : List Ear) (e : Ear) → ((turns far w (hearings es)).inbox e.at e.from ≡ [] → ⊥) → ahead rank n (turn far (turns far w (hearings es)) (hearing e)) < ahead rank n (turns far w (hearings es))
  -- so no more messages are heard than it says
  pub most : (es : List Ear) → delivered far w es + ahead rank n (turns far w (hearings es)) ≤ ahead rank n w
  -- and after so many servings nothing is under way, whatever the order, the rooms and the refusals, if each finds a message while there is one
  pub ends : (es : List Ear) → Served far w es → ahead rank n w ≤ length es → Silent far (turns far w (hearings es))

-- SOFT TICK, proved in `TickProof`: boxes that were started, with any bases, after any turns.
abbrev pub SoftTick : Type 0
SoftTick = (far : Wires) → Wired far → (n : ℕ) → Within far n → (base : ℕ → ℕ) (ts : List Turn) (rank : Rank) → Slopes far (turns far (laid base) ts) rank → DiesDown far n rank (turns far (laid base) ts)

-- no box has refused a message of another
abbrev pub Unrefused : Wires → Net → Type 0
Unrefused far w = (i p j q : ℕ) → far i p ≡ box j q → w.refused i p ≡ false

-- In v, a packet put in at box i for the tree named a is handed to the leaf of each box k that has joined in w, and whose routes in w lead to i: once; and to no other.
-- (The count m of boxes that a way may have is enough where it is over the difference of the ranks.)
abbrev pub Reaches : Wires → Net → Net → List ℕ → (ℕ → ℕ) → Type 0
Reaches far w v a rank = (m i k : ℕ) → rank k < m + rank i
    → (joined w a k ≡ true → Way far w a k i → count (eqb k) (fed far v m i a) ≡ 1)
    × ((joined w a k ≡ true → Way far w a k i → ⊥) → count (eqb k) (fed far v m i a) ≡ 0)

-- AND THEN THE WHOLE TREE, proved in `TickProof`: after those servings, if nothing was refused, every packet reaches exactly the leaves that had joined when the last order was given.
abbrev pub ThenWhole : Type 0
ThenWhole = (far : Wires) → Wired far → (n : ℕ) → Within far n → (base : ℕ → ℕ) (ts : List Turn) (rank : Rank) → Slopes far (turns far (laid base) ts) rank
    → (es : List Ear) → Served far (turns far (laid base) ts) es → ahead rank n (turns far (laid base) ts) ≤ length es
    → Unrefused far (turns far (turns far (laid base) ts) (hearings es))
    → (a : List ℕ) → element_refusal a ≡ 0 → Climbs far (turns far (laid base) ts) a (rank a)
    → Reaches far (turns far (laid base) ts) (turns far (turns far (laid base) ts) (hearings es)) a (rank a)

-- ---- how much an order adds

-- no box of the net has a rank over this
abbrev pub Under : ℕ → Rank → ℕ → Type 0
Under n rank top = (a : List ℕ) (j : ℕ) → j < n → rank a j ≤ top

-- ANY ORDER, or message from outside, proved in `TickProof`, for any net: each message that it sends adds at most twice (1 + the highest rank).
abbrev pub OrderAdds : Type 0
OrderAdds = (far : Wires) → Wired far → (n : ℕ) → Within far n → (rank : Rank) (top : ℕ) → Under n rank top → (w : Net) (i : ℕ) (s : Step)
    → ahead rank n (turn far w (does i s)) ≤ ahead rank n w + length (sends (w.past i).card s) * (2 * (1 + top))

abbrev pub moving : ℕ → List ℕ → ℕ → Step
moving room r via = record { room = room; does = route r via }

-- w, and then box i is ordered to move the route towards the root r
pub record AfterMove (far : Wires) (n : ℕ) (rank : Rank) (top : ℕ) (w : Net) (i : ℕ) (r : List ℕ) (next : Net) : Type 0 where
  -- for each tree of that root that the box has, one Withdraw and one Mapping at most go out
  pub few : ahead rank n next ≤ count (of_root r) (w.past i).card.trees * (3 * (1 + top))
  pub slopes : Slopes far next rank
  pub dies : DiesDown far n rank next

-- A MOVE, proved in `MoveProof`: a root's route is moved at one box, with any room, taken or refused, while nothing is under way. The routes towards that root, as they then are, go round nowhere;
-- nothing is asked of other roots. Then at most 3 (1 + the highest rank) messages are heard for each tree of that root that the box has, and nothing is under way.
abbrev pub AMove : Type 0
AMove = (far : Wires) → Wired far → (n : ℕ) → Within far n → (base : ℕ → ℕ) (ts : List Turn) → Silent far (turns far (laid base) ts)
    → (i room : ℕ) (r : List ℕ) (via : ℕ) (rank : Rank) (top : ℕ) → Under n rank top
    → ((a : List ℕ) → root_in a ≡ r → Climbs far (turns far (laid base) (ts ++ does i (moving room r via) ∷ [])) a (rank a))
    → AfterMove far n rank top (turns far (laid base) ts) i r (turns far (laid base) (ts ++ does i (moving room r via) ∷ []))

-- ---- how long it takes

-- how often box i is served from its number p
unfoldable pub times : ℕ → ℕ → List Ear → ℕ
times i p es = count (λ (e : Ear). eqb i e.at && eqb p e.from) es

-- A pass: every line is served, once or more often; in any order.
abbrev pub Pass : Wires → List Ear → Type 0
Pass far es = (i p j q : ℕ) → far i p ≡ box j q → 1 ≤ times i p es

unfoldable pub Passes : Wires → List (List Ear) → Type 0
Passes far [] = Unit {0}
Passes far (es ∷ ess) = Pass far es × Passes far ess

-- A round: every line is served as often as messages were under way on it when the round began, or more often; in any order.
abbrev pub Round : Wires → Net → List Ear → Type 0
Round far w es = (i p j q : ℕ) → far i p ≡ box j q → length (w.inbox i p) ≤ times i p es

-- one round after the other
unfoldable pub Rounds : Wires → Net → List (List Ear) → Type 0
Rounds far w [] = Unit {0}
Rounds far w (es ∷ ess) = Round far w es × Rounds far (turns far w (hearings es)) ess

unfoldable pub after : Wires → Net → List (List Ear) → Net
after far w [] = w
after far w (es ∷ ess) = after far (turns far w (hearings es)) ess

-- IN PASSES, proved in `RoundProof`: where no line is left out, as many passes as the measure says are enough.
abbrev pub InPasses : Type 0
InPasses = (far : Wires) → Wired far → (n : ℕ) → Within far n → (base : ℕ → ℕ) (ts : List Turn) (rank : Rank) → Slopes far (turns far (laid base) ts) rank
    → (ess : List (List Ear)) → Passes far ess → ahead rank n (turns far (laid base) ts) ≤ length ess → Silent far (after far (turns far (laid base) ts) ess)

-- IN ROUNDS, proved in `RoundProof`: after as many rounds as the highest rank and two more nothing is under way, however many messages there were.
-- (So where a line hands over within a time T what is on it, the talk is over within that time as often.)
abbrev pub InRounds : Type 0
InRounds = (far : Wires) → Wired far → (n : ℕ) → Within far n → (base : ℕ → ℕ) (ts : List Turn) (rank : Rank) (top : ℕ) → Under n rank top → Slopes far (turns far (laid base) ts) rank
    → (ess : List (List Ear)) → Rounds far (turns far (laid base) ts) ess → 2 + top ≤ length ess → Silent far (after far (turns far (laid base) ts) ess)

-- and then the whole tree
abbrev pub WholeInRounds : Type 0
WholeInRounds = (far : Wires) → Wired far → (n : ℕ) → Within far n → (base : ℕ → ℕ) (ts : List Turn) (rank : Rank) (top : ℕ) → Under n rank top → Slopes far (turns far (laid base) ts) rank
    → (ess : List (List Ear)) → Rounds far (turns far (laid base) ts) ess → 2 + top ≤ length ess → Unrefused far (after far (turns far (laid base) ts) ess)
    → (a : List ℕ) → element_refusal a ≡ 0 → Climbs far (turns far (laid base) ts) a (rank a)
    → Reaches far (turns far (laid base) ts) (after far (turns far (laid base) ts) ess) a (rank a)
