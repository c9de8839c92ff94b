-- TWO BOXES ON ONE LINE: what is said of two cards whose messages to each other go over a line that neither loses nor reorders.
-- Assumes nothing.
use Rattle.std.specs.Prelude.{ℕ, zero, suc, ◌+◌, ◌<◌, ◌≡◌, Bool, false, not, ◌||◌, List, [], ◌∷◌, ◌++◌, take, drop, length, eqb}
use Rattle.meaning.specs.Octets.{pick, count, two_at}
use Rattle.meaning.specs.Wire.{mapping}
use Rattle.meaning.specs.Card.{mapped, tree_of, use_of, neighbour_count}
use Rattle.meaning.specs.Events.{Event, receive, join, leave, route, lost, branch}
use Rattle.meaning.specs.Notice.{notice}
use Rattle.promise.specs.Promise.{is_about, Step, Past, answer_to, is_taken, then_step, begun}
use Rattle.promise.specs.Deeds.{then_deed}
use Rattle.promise.specs.Deeds

-- ---- the messages in what a step writes, as octets

pub record Parcel : Type 0 where
  pub to : ℕ
  pub octets : List ℕ

-- as `records_in` finds them: after each mark and neighbour's number one message, of the length that it says
unfoldable pub parcels_f : ℕ → List ℕ → List Parcel
parcels_f zero s = []
parcels_f (suc f) s =
    let n = 4 + two_at s 6 in
    let first : Parcel = record { to = two_at s 2; octets = take n (drop 4 s) } in
    let more = first ∷ parcels_f f (drop n (drop 4 s)) in
    pick (eqb (length s) 0) [] more

unfoldable pub parcels : List ℕ → List Parcel
parcels s = parcels_f (length s) s

-- those addressed to neighbour n, in order
unfoldable pub addressed : ℕ → List Parcel → List (List ℕ)
addressed n [] = []
addressed n (x ∷ xs) = let others = addressed n xs in pick (eqb x.to n) (x.octets ∷ others) others

-- ---- a box at its end of the line

-- peer: the number by which it knows the other box; inbox: the messages under way to it, as octets, the oldest first; refused: whether it has refused a message of the other
pub record Box : Type 0 where
  pub past : Past
  pub peer : ℕ
  pub inbox : List (List ℕ)
  pub refused : Bool

-- a card as the start hands it back, whatever base was asked for
unfoldable pub ready : ℕ → ℕ → Box
ready base peer = record { past = begun base; peer = peer; inbox = []; refused = false }

-- It hears the oldest message under way to it, with so much room for its output; does any other step; or tells a neighbour of a refusal
-- (the room, the neighbour, the number of a refusal, the refused octets). A save changes nothing, and a restore is no act; the loss of a third neighbour is a step like any other.
pub data Act : Type 0 where
  hears : ℕ → Act
  does : Step → Act
  tells : ℕ → ℕ → ℕ → List ℕ → Act

-- a message from neighbour n, or the loss of its session
unfoldable pub is_from : ℕ → Event → Bool
is_from n (receive k s) = eqb k n
is_from n (join e) = false
is_from n (leave e) = false
is_from n (route r via) = false
is_from n (lost k) = eqb k n

abbrev pub hearing : ℕ → ℕ → List ℕ → Step
hearing room n s = record { room = room; does = receive n s }

-- the messages to the other box that a step writes
unfoldable pub sent_by : Box → Step → List (List ℕ)
sent_by x s = addressed x.peer (parcels (answer_to x.past.card s).octets)

unfoldable pub refuses : Box → Step → Bool
refuses x s = not (is_taken x.past.card s)

-- the box after a step; what is now under way to it, and whether it has refused
unfoldable pub after : Box → Step → List (List ℕ) → Bool → Box
after x s inbox refused = record { past = then_step x.past s; peer = x.peer; inbox = inbox; refused = refused }

-- where nothing is under way to it, it hears nothing
unfoldable pub heard : Box → ℕ → List (List ℕ) → Box
heard x room [] = x
heard x room (s ∷ rest) = after x (hearing room x.peer s) rest (x.refused || refuses x (hearing room x.peer s))

unfoldable pub answered : Box → ℕ → List (List ℕ) → List (List ℕ)
answered x room [] = []
answered x room (s ∷ rest) = sent_by x (hearing room x.peer s)

-- A message from the other comes over the line alone, and the line is not lost: no other step is such an event.
unfoldable pub acts : Box → Act → Box
acts x (hears room) = heard x room x.inbox
acts x (does s) = pick (is_from x.peer s.does) x (after x s x.inbox x.refused)
acts x (tells room n number s) = record { past = then_deed x.past (Deeds.tells room n number s); peer = x.peer; inbox = x.inbox; refused = x.refused }

unfoldable pub says : Box → Act → List (List ℕ)
says x (hears room) = answered x room x.inbox
says x (does s) = pick (is_from x.peer s.does) [] (sent_by x s)
says x (tells room n number s) = addressed x.peer (parcels (notice room x.past.card n number s).octets)

-- what is sent is under way from then on, behind what was
unfoldable pub gets : List (List ℕ) → Box → Box
gets ms x = record { past = x.past; peer = x.peer; inbox = x.inbox ++ ms; refused = x.refused }

-- ---- the two

pub record World : Type 0 where
  pub upper : Box
  pub lower : Box

pub data Turn : Type 0 where
  above : Act → Turn
  below : Act → Turn

unfoldable pub turn : World → Turn → World
turn w (above a) = record { upper = acts w.upper a; lower = gets (says w.upper a) w.lower }
turn w (below a) = record { upper = gets (says w.lower a) w.upper; lower = acts w.lower a }

unfoldable pub turns : World → List Turn → World
turns w [] = w
turns w (t ∷ ts) = turns (turn w t) ts

-- two cards that were started, with any bases; the lower is neighbour p of the upper, the upper neighbour q of the lower
unfoldable pub laid : ℕ → ℕ → ℕ → ℕ → World
laid b p d q = record { upper = ready b p; lower = ready d q }

-- ---- what is said of them

-- the label of the branch that the upper box lists from the lower for the tree named a, held or not; 0 where there is none
unfoldable pub lists : World → List ℕ → ℕ
lists w a = branch (tree_of a w.upper.past.card) w.upper.peer

-- how often the label l is live, in demand 3's sense, read at the lower card, at the upper box, for the tree named a
unfoldable pub lives : World → List ℕ → ℕ → ℕ
lives w a l = count (is_about w.lower.peer (record { kind = mapping; name = a; label = l })) w.lower.past.live

-- nothing is under way, and neither has refused a message of the other
pub record Quiet (w : World) : Type 0 where
  pub rising : w.upper.inbox ≡ []
  pub falling : w.lower.inbox ≡ []
  pub upper : w.upper.refused ≡ false
  pub lower : w.lower.refused ≡ false

-- At every moment each branch that the upper box lists from the lower is a label live at the upper box, for the same tree.
abbrev pub EachIsLive : World → Type 0
EachIsLive w = (a : List ℕ) (l : ℕ) → (l ≡ 0 → ⊥) → lists w a ≡ l → lives w a l ≡ 1

-- The upper box's branches from the lower are exactly the labels that the lower one has mapped to it.
abbrev pub AreTheMapped : World → Type 0
AreTheMapped w = (a : List ℕ) (l : ℕ) → (l ≡ 0 → ⊥)
    → (lists w a ≡ l → use_of l w.lower.past.card ≡ mapped w.lower.peer a) × (use_of l w.lower.past.card ≡ mapped w.lower.peer a → lists w a ≡ l)

pub record OnOneLine (w : World) : Type 0 where
  pub live : EachIsLive w
  pub exact : Quiet w → AreTheMapped w

-- the line seen from its other end: the lower box's branches from the upper, and the labels of the upper
unfoldable pub flipped : World → World
flipped w = record { upper = w.lower; lower = w.upper }

-- REQUEST 14, proved in `LineProof`: at every moment, for any two bases, any numbers by which the boxes know each other, and any acts of both; the same from the other end
abbrev pub TwoBoxes : Type 0
TwoBoxes = (b p d q : ℕ) → p < neighbour_count → q < neighbour_count → (ts : List Turn) → OnOneLine (turns (laid b p d q) ts) × OnOneLine (flipped (turns (laid b p d q) ts))
