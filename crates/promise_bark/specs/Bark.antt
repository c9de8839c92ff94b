-- NO BARK: a packet that was put in under one tree's name is never handed out as another's. Boxes and lines as in `Net`; here packets travel too, at any moment of any day.
-- Assumes nothing beside what the definitions say; what they ask of the world is said at `may_pass`, at `severed`, and at `comes`.
use Rattle.std.specs.Prelude.{ℕ, zero, suc, ◌≡◌, Bool, true, false, not, ◌||◌, List, [], ◌∷◌, ◌++◌, eqb}
use Rattle.meaning.specs.Octets.{pick, count}
use Rattle.meaning.specs.Wire.{mapping, message_in, Sent}
use Rattle.meaning.specs.Card.{tree_of, Branch, Feed, carrier, lookup_label, lookup_name}
use Rattle.meaning.specs.Events.{branch}
use Rattle.meaning.specs.Notice.{notice}
use Rattle.promise.specs.Promise.{Given, is_about, Step, Past, sends, then_step, begun}
use Rattle.promise.specs.Deeds.{then_deed}
use Rattle.promise.specs.Deeds
use Rattle.promise_line.specs.Line.{parcels, addressed, hearing, refuses}
use Rattle.promise_line.specs.Sends.{is_down}
use Rattle.promise_net.specs.Net.{Far, nobody, box, Wires, Wired, Net, box_at, arriving, anew, over_line, losing, fed, joined}
use Rattle.promise_net.specs.Net

-- ---- a packet that takes no time

-- THE FIRST STATEMENT, proved in `AtOnce`: boxes that were started, with any bases, and any turns. At every moment, whatever is under way, whoever has refused, and wherever the routes go (round too),
-- a packet put in at box i for the tree named a, and followed through the tables as they stand for any number n of boxes, is handed to the leaf of no box that has not joined a.
abbrev pub NoBarkAtOnce : Type 0
NoBarkAtOnce = (far : Wires) → Wired far → (base : ℕ → ℕ) (ts : List Net.Turn)
    → (a : List ℕ) (n i k : ℕ) → joined (Net.turns far (Net.laid base) ts) a k ≡ false → count (eqb k) (fed far (Net.turns far (Net.laid base) ts) n i a) ≡ 0

-- ---- packets that travel

-- What is under way on a line: a message, as octets; or a packet, on a label. The name is that of the tree under which the packet was put in: no box reads it.
pub data Item : Type 0 where
  letter : List ℕ → Item
  packet : List ℕ → ℕ → Item

-- As `Net`, but with packets: line i p is what is under way to box i from its number p, the next to arrive first.
pub record Traffic : Type 0 where
  pub past : ℕ → Past
  pub line : ℕ → ℕ → List Item
  pub refused : ℕ → ℕ → Bool

unfoldable pub letters : List (List ℕ) → List Item
letters [] = []
letters (s ∷ ss) = letter s ∷ letters ss

unfoldable pub messages : List Item → List (List ℕ)
messages [] = []
messages (letter s ∷ xs) = s ∷ messages xs
messages (packet a l ∷ xs) = messages xs

-- what the boxes say to each other: the net without its packets
unfoldable pub talk : Traffic → Net
talk w = record { past = w.past; inbox = λ i p. messages (w.line i p); refused = w.refused }

unfoldable pub laid : (ℕ → ℕ) → Traffic
laid base = record { past = λ i. begun (base i); line = λ i p. []; refused = λ i p. false }

-- box i does a step; what was under way, and what was refused, is given
unfoldable pub stepped : Wires → Traffic → ℕ → Step → (ℕ → ℕ → List Item) → (ℕ → ℕ → Bool) → Traffic
stepped far w i s under refused = record {
  past = λ k. pick (eqb k i) (then_step (w.past i) s) (w.past k);
  line = λ k p. under k p ++ letters (arriving (talk w) i s (far k p));
  refused = refused;
}

-- box i tells neighbour n of a refusal (request [1]): what of it comes to who stands at the far end
unfoldable pub noticed : Past → ℕ → ℕ → ℕ → ℕ → List ℕ → Far → List (List ℕ)
noticed x i room n number s nobody = []
noticed x i room n number s (box j q) = pick (eqb j i) (addressed q (parcels (notice room x.card n number s).octets)) []

unfoldable pub told : Wires → Traffic → ℕ → ℕ → ℕ → ℕ → List ℕ → Traffic
told far w i room n number s = record {
  past = λ k. pick (eqb k i) (then_deed (w.past i) (Deeds.tells room n number s)) (w.past k);
  line = λ k p. w.line k p ++ letters (noticed (w.past i) i room n number s (far k p));
  refused = w.refused;
}

-- the copies that go over number p
unfoldable pub copies : List ℕ → ℕ → List Branch → List Item
copies a p [] = []
copies a p (b ∷ bs) = let others = copies a p bs in pick (eqb b.neighbour p) (packet a b.label ∷ others) others

-- what box i sends of them to who stands at the far end
unfoldable pub copies_to : ℕ → List ℕ → List Branch → Far → List Item
copies_to i a bs nobody = []
copies_to i a bs (box j q) = pick (eqb j i) (copies a q bs) []

-- box i sends a packet along each branch
unfoldable pub sent : Wires → Traffic → ℕ → List ℕ → List Branch → (ℕ → ℕ → List Item) → Traffic
sent far w i a bs under = record { past = w.past; line = λ k p. under k p ++ copies_to i a bs (far k p); refused = w.refused }

-- box i takes the oldest that is under way to it from its number p: a message is heard, with so much room; a packet is looked up by its label, and sent on
unfoldable pub taken : Wires → Traffic → ℕ → ℕ → ℕ → List Item → Traffic
taken far w i p room [] = w
taken far w i p room (letter s ∷ rest) =
    stepped far w i (hearing room p s) (anew i p rest w.line) (anew i p (w.refused i p || refuses (box_at (talk w) i p) (hearing room p s)) w.refused)
taken far w i p room (packet a l ∷ rest) = sent far w i a (lookup_label l (w.past i).card).branches (anew i p rest w.line)

-- THE ASSUMPTION ON THE LINES. Of two neighbours under way, x before y, whether y may overtake x. Messages keep their order, as in `Net`. Packets may overtake and be overtaken,
-- but for one thing: a Release does not overtake a packet on its label. That stands for "a neighbour that has sent Release no longer uses the label".
unfoldable pub may_pass : Item → Item → Bool
may_pass (letter s) (letter t) = false
may_pass (letter s) (packet b k) = true
may_pass (packet a l) (letter t) = not (is_down l (message_in t))
may_pass (packet a l) (packet b k) = true

-- at place n
unfoldable pub passed : ℕ → List Item → List Item
passed zero [] = []
passed zero (x ∷ []) = x ∷ []
passed zero (x ∷ y ∷ xs) = pick (may_pass x y) (y ∷ x ∷ xs) (x ∷ y ∷ xs)
passed (suc n) [] = []
passed (suc n) (x ∷ xs) = x ∷ passed n xs

-- the next that is under way to box i from its number p is lost, if it is a packet
unfoldable pub dropped : Wires → Traffic → ℕ → ℕ → List Item → Traffic
dropped far w i p [] = w
dropped far w i p (letter s ∷ rest) = w
dropped far w i p (packet a l ∷ rest) = sent far w i a [] (anew i p rest w.line)

-- boxes i and j lose each other, which they know as p and q
unfoldable pub parted : Wires → Traffic → ℕ → ℕ → ℕ → ℕ → Traffic
parted far w i p j q =
    let one = stepped far w i (losing p) w.line w.refused in
    stepped far one j (losing q) one.line one.refused

-- THE ASSUMPTION ON A LINE THAT IS CUT. As in `Net` both its boxes lose the session, and its messages are gone. A loss frees the labels of its neighbour at once, so its packets are gone too:
-- none that was sent on the line before the cut, either way, is taken after it.
unfoldable pub severed : Wires → Traffic → ℕ → ℕ → Far → Traffic
severed far w i p nobody = w
severed far w i p (box j q) =
    let both = parted far w i p j q in
    record { past = both.past; line = anew i p [] (anew j q [] both.line); refused = anew i p false (anew j q false both.refused) }

-- whether the label l of box i is live at its neighbour p, for the tree named a
unfoldable pub is_live : Traffic → ℕ → ℕ → List ℕ → ℕ → Bool
is_live w i p a l = eqb (count (is_about p (record { kind = mapping; name = a; label = l })) (w.past i).live) 1

-- Box i takes from its number p, with so much room; it does a step that is no message of another box; it tells a neighbour of a refusal (the room, the neighbour, the number of a refusal, the refused octets);
-- a packet is put in at box i, under the tree named a; one of the tree named a comes to box i from outside, from neighbour p, on label l;
-- the next under way to box i from its number p is lost, if it is a packet; the one at place n there is overtaken by the one behind it, if it may be; or the line at number p of box i is cut.
-- (One comes from outside only on a label that is live at the neighbour it comes from, for the packet's tree: a neighbour that keeps its word uses no other.)
pub data Turn : Type 0 where
  takes : ℕ → ℕ → ℕ → Turn
  does : ℕ → Step → Turn
  tells : ℕ → ℕ → ℕ → ℕ → List ℕ → Turn
  puts : ℕ → List ℕ → Turn
  comes : ℕ → ℕ → List ℕ → ℕ → Turn
  loses : ℕ → ℕ → Turn
  passes : ℕ → ℕ → ℕ → Turn
  cuts : ℕ → ℕ → Turn

unfoldable pub turn : Wires → Traffic → Turn → Traffic
turn far w (takes i p room) = taken far w i p room (w.line i p)
turn far w (does i s) = pick (over_line far i s.does) w (stepped far w i s w.line w.refused)
turn far w (tells i room n number s) = told far w i room n number s
turn far w (puts i a) = sent far w i a (lookup_name a (w.past i).card).branches w.line
turn far w (comes i p a l) = pick (is_live w i p a l) (sent far w i a (lookup_label l (w.past i).card).branches w.line) w
turn far w (loses i p) = dropped far w i p (w.line i p)
turn far w (passes i p n) = sent far w i [] [] (anew i p (passed n (w.line i p)) w.line)
turn far w (cuts i p) = severed far w i p (far i p)

unfoldable pub turns : Wires → Traffic → List Turn → Traffic
turns far w [] = w
turns far w (t ∷ ts) = turns far (turn far w t) ts

-- ---- what is handed to leaves

-- A packet put in under the name `tree` is handed to a leaf of the box, as a packet of the tree named `heard`: by name that is the name; by label, that of the tree which carries the label there.
pub record Hand : Type 0 where
  pub tree : List ℕ
  pub at : ℕ
  pub heard : List ℕ

unfoldable pub handed : List ℕ → ℕ → List ℕ → Feed → List Hand
handed a i b f = pick f.leaf (record { tree = a; at = i; heard = b } ∷ []) []

unfoldable pub handed_of : Traffic → ℕ → List Item → List Hand
handed_of w i [] = []
handed_of w i (letter s ∷ rest) = []
handed_of w i (packet a l ∷ rest) = handed a i (carrier l (w.past i).card).name (lookup_label l (w.past i).card)

-- by one turn
unfoldable pub hands : Traffic → Turn → List Hand
hands w (takes i p room) = handed_of w i (w.line i p)
hands w (does i s) = []
hands w (tells i room n number s) = []
hands w (puts i a) = handed a i a (lookup_name a (w.past i).card)
hands w (comes i p a l) = pick (is_live w i p a l) (handed a i (carrier l (w.past i).card).name (lookup_label l (w.past i).card)) []
hands w (loses i p) = []
hands w (passes i p n) = []
hands w (cuts i p) = []

-- A copy of a packet put in under the name `tree`, that box `at` sends to its neighbour `to` on a label.
pub record Copy : Type 0 where
  pub tree : List ℕ
  pub at : ℕ
  pub to : ℕ
  pub label : ℕ

unfoldable pub copied : List ℕ → ℕ → List Branch → List Copy
copied a i [] = []
copied a i (b ∷ bs) = record { tree = a; at = i; to = b.neighbour; label = b.label } ∷ copied a i bs

unfoldable pub copied_of : Traffic → ℕ → List Item → List Copy
copied_of w i [] = []
copied_of w i (letter s ∷ rest) = []
copied_of w i (packet a l ∷ rest) = copied a i (lookup_label l (w.past i).card).branches

-- by one turn, to boxes of the net and to others
unfoldable pub goes : Traffic → Turn → List Copy
goes w (takes i p room) = copied_of w i (w.line i p)
goes w (does i s) = []
goes w (tells i room n number s) = []
goes w (puts i a) = copied a i (lookup_name a (w.past i).card).branches
goes w (comes i p a l) = pick (is_live w i p a l) (copied a i (lookup_label l (w.past i).card).branches) []
goes w (loses i p) = []
goes w (passes i p n) = []
goes w (cuts i p) = []

-- ---- what is said

unfoldable pub EachPacket : (List ℕ → ℕ → Type 0) → List Item → Type 0
EachPacket P [] = Unit {0}
EachPacket P (letter s ∷ xs) = EachPacket P xs
EachPacket P (packet a l ∷ xs) = P a l × EachPacket P xs

unfoldable pub EachHand : (Hand → Type 0) → List Hand → Type 0
EachHand P [] = Unit {0}
EachHand P (h ∷ hs) = P h × EachHand P hs

unfoldable pub EachCopy : (Copy → Type 0) → List Copy → Type 0
EachCopy P [] = Unit {0}
EachCopy P (c ∷ cs) = P c × EachCopy P cs

-- What box j may do next: a step that is no message of another box, nor the loss of its line; to hear, with any room, a message that is the next to arrive from its number p; or to lose the line there.
pub data Next (far : Wires) (w : Traffic) (j : ℕ) : Step → Type 0 where
  order : (s : Step) → over_line far j s.does ≡ false → Next far w j s
  message : (p room : ℕ) (o : List ℕ) (rest : List Item) → w.line j p ≡ letter o ∷ rest → Next far w j (hearing room p o)
  cut : (p i q : ℕ) → far j p ≡ box i q → Next far w j (losing p)

-- no Mapping among the messages is of the label l
unfoldable pub NotGiven : ℕ → List Sent → Type 0
NotGiven l [] = Unit {0}
NotGiven l (m ∷ ms) = (m.message.kind ≡ mapping → m.message.label ≡ l → ⊥) × NotGiven l ms

-- the label l is live, in demand 3's sense, once, at neighbour q, for the tree named a
abbrev pub Alive : ℕ → List Given → List ℕ → ℕ → Type 0
Alive q gs a l = count (is_about q (record { kind = mapping; name = a; label = l })) gs ≡ 1

-- handed out as what it is, to a leaf that has joined that tree
abbrev pub Right : Traffic → Hand → Type 0
Right w h = (h.heard ≡ h.tree) × (joined (talk w) h.tree h.at ≡ true)

-- sent on the label of the branch that this neighbour has in that tree
abbrev pub Asked : Traffic → Copy → Type 0
Asked w c = branch (tree_of c.tree (w.past c.at).card) c.to ≡ c.label

pub record NoBark (far : Wires) (w : Traffic) : Type 0 where
  -- The label of each packet under way to box j from its number q is live there, for the tree under whose name the packet was put in.
  pub live : (j q : ℕ) → EachPacket (Alive q (w.past j).live) (w.line j q)
  -- And whatever box j does next, it gives that label to nobody.
  pub kept : (j : ℕ) (s : Step) → Next far w j s → (q : ℕ) → EachPacket (λ a l. NotGiven l (sends (w.past j).card s)) (w.line j q)
  -- Whatever the next turn is, each packet that it hands to a leaf is handed out rightly.
  pub right : (t : Turn) → EachHand (Right w) (hands w t)
  -- Each copy that it sends, to whomever, goes on the label that this neighbour gave for that tree. (Outside the net, that is all that can be said.)
  pub asked : (t : Turn) → EachCopy (Asked w) (goes w t)
  -- And a packet that takes no time is handed to no leaf that has not joined, as above.
  pub at_once : (a : List ℕ) (n i k : ℕ) → joined (talk w) a k ≡ false → count (eqb k) (fed far (talk w) n i a) ≡ 0

-- THE SECOND STATEMENT, proved in `BarkProof`: at every moment
abbrev pub NoBarkInTime : Type 0
NoBarkInTime = (far : Wires) → Wired far → (base : ℕ → ℕ) (ts : List Turn) → NoBark far (turns far (laid base) ts)
