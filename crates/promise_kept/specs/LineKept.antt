-- What `proofs/LineKept` speaks of.
-- Assumes nothing.
use Rattle.std.specs.Prelude.{ℕ, ◌<◌, ◌≡◌, Bool, ◌||◌, eqb}
use Rattle.std.proofs.Math.Bool.{false, not}
use mathlib.Core.List.{List, [], ◌∷◌, ◌++◌}
use Rattle.meaning.specs.Events.{receive}
use Rattle.promise_line.specs.Line.{parcels, addressed, Box, is_from, World, OnOneLine}
use Rattle.promise_line.specs.Line
use Rattle.promise_kept.specs.CallContracts.{Call, Called, Telling, Told, Started}
use Rattle.promise_kept.specs.Kept.{Done, call, tell, past_of}
use Rattle.meaning.specs.Card.{neighbour_count}

-- ---- a box at its end of the line, as its program sees it

-- what was done with its memory, the latest first; the memory; and as in `Line` the number by which it knows the other, the messages under way to it, and whether it has refused one of them
pub record Desk : Type 0 where
  pub done : List Done
  pub numbers : List ℕ
  pub names : List ℕ
  pub peer : ℕ
  pub inbox : List (List ℕ)
  pub refused : Bool

abbrev pub fresh : List ℕ → List ℕ → ℕ → Desk
fresh ns os p = record { done = []; numbers = ns; names = os; peer = p; inbox = []; refused = false }

-- what is sent to it is under way from then on, behind what was
unfoldable pub gets : List (List ℕ) → Desk → Desk
gets ms x = record { done = x.done; numbers = x.numbers; names = x.names; peer = x.peer; inbox = x.inbox ++ ms; refused = x.refused }

-- One call on the memory of x leaves x', and hands back octets in which these messages to the other stand: a Mapping, Withdraw or Release that was the oldest under way, handed to `receive`;
-- a call of any event that is no message of the other, nor its loss; or a notice.
pub data Makes : Desk → Desk → List (List ℕ) → Type 0 where
  hears : {x : Desk} {k : Call} {ns os : List ℕ} (s : List ℕ) (rest : List (List ℕ)) → x.inbox ≡ s ∷ rest → k.does ≡ receive x.peer s → Called x.numbers x.names k ns os
      → Makes x (record { done = call k ∷ x.done; numbers = ns; names = os; peer = x.peer; inbox = rest; refused = x.refused || not (eqb k.answer 0) }) (addressed x.peer (parcels k.part))
  does : {x : Desk} {k : Call} {ns os : List ℕ} → is_from x.peer k.does ≡ false → Called x.numbers x.names k ns os
      → Makes x (record { done = call k ∷ x.done; numbers = ns; names = os; peer = x.peer; inbox = x.inbox; refused = x.refused }) (addressed x.peer (parcels k.part))
  tells : {x : Desk} {t : Telling} {ns : List ℕ} → Told x.numbers t ns
      → Makes x (record { done = tell t ∷ x.done; numbers = ns; names = x.names; peer = x.peer; inbox = x.inbox; refused = x.refused }) (addressed x.peer (parcels t.part))

-- Two memories that were started, and then calls on either, in any order. The upper knows the lower as p, the lower the upper as q.
pub data Joined (b p d q : ℕ) : Desk → Desk → Type 0 where
  laid : {ns ms : List ℕ} → Started b ns → (os : List ℕ) → Started d ms → (ps : List ℕ) → Joined b p d q (fresh ns os p) (fresh ms ps q)
  above : {x y x' : Desk} {ms : List (List ℕ)} → Joined b p d q x y → Makes x x' ms → Joined b p d q x' (gets ms y)
  below : {x y y' : Desk} {ms : List (List ℕ)} → Joined b p d q x y → Makes y y' ms → Joined b p d q (gets ms x) y'

-- ---- what is said of them

-- the box of `Line` that this is: the card that its memory denotes, and what its calls said by their answers and the octets that they handed back
unfoldable pub box_of : Desk → Box
box_of x = record { past = past_of x.done x.numbers x.names; peer = x.peer; inbox = x.inbox; refused = x.refused }

unfoldable pub world_of : Desk → Desk → World
world_of x y = record { upper = box_of x; lower = box_of y }

-- REQUEST 14 OF THE CODE, proved below: at every moment, from either end
abbrev pub TwoMemories : Type 0
TwoMemories = (b p d q : ℕ) → p < neighbour_count → q < neighbour_count → (x y : Desk) → Joined b p d q x y → OnOneLine (world_of x y) × OnOneLine (world_of y x)
