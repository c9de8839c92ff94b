-- A NET OF BOXES: any number of cards, joined by lines that neither lose nor reorder, and a packet on its way through them.
-- Assumes nothing.
use Rattle.std.specs.Prelude.{ℕ, zero, suc, ◌+◌, ◌*◌, ◌<◌, ◌≡◌, Bool, true, false, ◌&&◌, ◌||◌, List, [], ◌∷◌, ◌++◌, eqb}
use Rattle.meaning.specs.Octets.{pick, count}
use Rattle.meaning.specs.Wire.{root_in, record_limit, element_refusal}
use Rattle.meaning.specs.Card.{tree_limit, tree_of, route_of, Branch, Feed, lookup_label, lookup_name, neighbour_count}
use Rattle.meaning.specs.Events.{Event, receive, join, leave, route, lost}
use Rattle.promise.specs.Promise.{Step, Past, then_step, begun}
use Rattle.promise_line.specs.Line.{Box, hearing, sent_by, refuses}

-- ---- the lines

-- what a neighbour's number leads to: nobody of the net, or box j, which knows this one as q
pub data Far : Type 0 where
  nobody : Far
  box : ℕ → ℕ → Far

-- who knows whom: far i p is where the number p of box i leads
abbrev pub Wires : Type 0
Wires = ℕ → ℕ → Far

pub record Wired (far : Wires) : Type 0 where
  -- a line has two ends
  pub back : (i p j q : ℕ) → far i p ≡ box j q → far j q ≡ box i p
  pub near : (i p j q : ℕ) → far i p ≡ box j q → p < neighbour_count
  -- no box is joined to itself
  pub apart : (i p j q : ℕ) → far i p ≡ box j q → i ≡ j → ⊥

-- ---- the boxes

-- of each box its past; for each of its numbers the messages under way to it from there, the oldest first, and whether it has refused one of them
pub record Net : Type 0 where
  pub past : ℕ → Past
  pub inbox : ℕ → ℕ → List (List ℕ)
  pub refused : ℕ → ℕ → Bool

-- box i at its end of the line numbered p
unfoldable pub box_at : Net → ℕ → ℕ → Box
box_at w i p = record { past = w.past i; peer = p; inbox = w.inbox i p; refused = w.refused i p }

-- all of them fresh, box i with the base that was asked for
unfoldable pub laid : (ℕ → ℕ) → Net
laid base = record { past = λ i. begun (base i); inbox = λ i p. []; refused = λ i p. false }

-- what box i, by a step, sends to who stands at the far end
unfoldable pub arriving : Net → ℕ → Step → Far → List (List ℕ)
arriving w i s nobody = []
arriving w i s (box j q) = pick (eqb j i) (sent_by (box_at w i q) s) []

-- box i does a step; what was under way, and what was refused, is given
unfoldable pub stepped : Wires → Net → ℕ → Step → (ℕ → ℕ → List (List ℕ)) → (ℕ → ℕ → Bool) → Net
stepped far w i s inbox refused = record {
  past = λ k. pick (eqb k i) (then_step (w.past i) s) (w.past k);
  inbox = λ k p. inbox k p ++ arriving w i s (far k p);
  refused = refused;
}

-- a value anew for one number of one box
unfoldable pub anew {ℓ} : {X : Type ℓ} → ℕ → ℕ → X → (ℕ → ℕ → X) → ℕ → ℕ → X
anew i p x f k n = pick (eqb k i && eqb n p) x (f k n)

-- box i hears the oldest message under way to it from its number p
unfoldable pub heard : Wires → Net → ℕ → ℕ → ℕ → List (List ℕ) → Net
heard far w i p room [] = w
heard far w i p room (s ∷ rest) =
    stepped far w i (hearing room p s) (anew i p rest w.inbox) (anew i p (w.refused i p || refuses (box_at w i p) (hearing room p s)) w.refused)

unfoldable pub is_box : Far → Bool
is_box nobody = false
is_box (box j q) = true

-- a message that comes over one of the lines, or the loss of one
unfoldable pub over_line : Wires → ℕ → Event → Bool
over_line far i (receive n s) = is_box (far i n)
over_line far i (join e) = false
over_line far i (leave e) = false
over_line far i (route r via) = false
over_line far i (lost n) = is_box (far i n)

-- the loss of neighbour n, with room for all that it sends: a record for each tree
abbrev pub losing : ℕ → Step
losing n = record { room = tree_limit * record_limit; does = lost n }

-- boxes i and j lose each other, which they know as p and q
unfoldable pub parted : Wires → Net → ℕ → ℕ → ℕ → ℕ → Net
parted far w i p j q =
    let one = stepped far w i (losing p) w.inbox w.refused in
    stepped far one j (losing q) one.inbox one.refused

-- THE LINE AT NUMBER p OF BOX i IS CUT: both its boxes lose the session, all that is under way on it is gone, and it begins anew.
unfoldable pub severed : Wires → Net → ℕ → ℕ → Far → Net
severed far w i p nobody = w
severed far w i p (box j q) =
    let both = parted far w i p j q in
    record { past = both.past; inbox = anew i p [] (anew j q [] both.inbox); refused = anew i p false (anew j q false both.refused) }

-- box i hears from its number p, with so much room; does a step that is no message of another box, nor the loss of its line; or the line at its number p is cut
pub data Turn : Type 0 where
  hears : ℕ → ℕ → ℕ → Turn
  does : ℕ → Step → Turn
  cuts : ℕ → ℕ → Turn

unfoldable pub turn : Wires → Net → Turn → Net
turn far w (hears i p room) = heard far w i p room (w.inbox i p)
turn far w (does i s) = pick (over_line far i s.does) w (stepped far w i s w.inbox w.refused)
turn far w (cuts i p) = severed far w i p (far i p)

unfoldable pub turns : Wires → Net → List Turn → Net
turns far w [] = w
turns far w (t ∷ ts) = turns far (turn far w t) ts

-- nothing is under way between the boxes, and none has refused a message of another
pub record Quiet (far : Wires) (w : Net) : Type 0 where
  pub inbox : (i p j q : ℕ) → far i p ≡ box j q → w.inbox i p ≡ []
  pub refused : (i p j q : ℕ) → far i p ≡ box j q → w.refused i p ≡ false

-- ---- a packet

-- it comes under label l to who stands at the far end, and goes on from there
unfoldable pub onward : Net → (ℕ → Feed → List ℕ) → Far → ℕ → List ℕ
onward w on nobody l = []
onward w on (box j q) l = on j (lookup_label l (w.past j).card)

-- box i sends it along each branch
unfoldable pub along : Wires → Net → (ℕ → Feed → List ℕ) → ℕ → List Branch → List ℕ
along far w on i [] = []
along far w on i (b ∷ bs) = onward w on (far i b.neighbour) b.label ++ along far w on i bs

-- the boxes whose leaf it is handed to, each as often as it is, within n boxes of its way
unfoldable pub reaches : Wires → Net → ℕ → ℕ → Feed → List ℕ
reaches far w zero i f = []
reaches far w (suc n) i f = pick f.leaf (i ∷ []) [] ++ along far w (reaches far w n) i f.branches

-- it is put in at box i, for the tree named a
unfoldable pub fed : Wires → Net → ℕ → ℕ → List ℕ → List ℕ
fed far w n i a = reaches far w n i (lookup_name a (w.past i).card)

-- ---- the routes

-- the route that box i has towards the root of the tree named a
unfoldable pub via : Net → List ℕ → ℕ → ℕ
via w a i = route_of (root_in a) (w.past i).card

-- whether the local leaf of box i has joined the tree named a
unfoldable pub joined : Net → List ℕ → ℕ → Bool
joined w a i = (tree_of a (w.past i).card).leaf

-- From box k, each route leads on to the next box, and so to box i.
pub data Way (far : Wires) (w : Net) (a : List ℕ) (k : ℕ) : ℕ → Type 0 where
  here : Way far w a k k
  up : {j i : ℕ} (q p : ℕ) → Way far w a k j → far j q ≡ box i p → via w a j ≡ q → Way far w a k i

-- The routes go round nowhere: each leads to a box of lower rank.
abbrev pub Climbs : Wires → Net → List ℕ → (ℕ → ℕ) → Type 0
Climbs far w a rank = (j q i p : ℕ) → far j q ≡ box i p → via w a j ≡ q → rank i < rank j

-- While nothing is under way and no box has refused a message of another, a packet put in at box i for the tree named a is handed to the leaf of each box that has joined and whose routes lead to i, once; and to no other.
-- (The root's box is such an i. The count n of boxes that a way may have is enough where it is over the difference of the ranks.)
abbrev pub Whole : Wires → Net → Type 0
Whole far w = Quiet far w → (a : List ℕ) → element_refusal a ≡ 0 → (rank : ℕ → ℕ) → Climbs far w a rank → (n i k : ℕ) → rank k < n + rank i
    → (joined w a k ≡ true → Way far w a k i → count (eqb k) (fed far w n i a) ≡ 1)
    × ((joined w a k ≡ true → Way far w a k i → ⊥) → count (eqb k) (fed far w n i a) ≡ 0)

-- THE WHOLE TREE, proved in `PacketProof`: boxes that were started, with any bases, and any turns
abbrev pub WholeTree : Type 0
WholeTree = (far : Wires) → Wired far → (base : ℕ → ℕ) (ts : List Turn) → Whole far (turns far (laid base) ts)
