-- DEMAND 3, over what goes over the wire: what is promised of a card's whole history.
-- Assumes nothing.
use Rattle.std.specs.Prelude.{ℕ, zero, suc, ◌+◌, ◌≤◌, ◌≡◌, Bool, true, false, not, ◌&&◌, List, [], ◌∷◌, ◌++◌, length, eqb}
use Rattle.meaning.specs.Octets.{pick, count, same}
use Rattle.meaning.specs.Wire.{root_in, mapping, withdraw, release, Message, message_in, Sent, records, records_in}
use Rattle.meaning.specs.Card.{no_route, Tree, Use, free, mapped, awaiting, Card, named, use_of, free_labels, Branch, Feed, nothing, lookup_label, lookup_name}
use Rattle.meaning.specs.Events.{Event, receive, join, leave, route, lost, Out, event, start}

-- ---- live labels, from the messages alone

-- a label of ours that a neighbour may use for a tree; and whether we have sent Withdraw for it
pub record Given : Type 0 where
  pub to : ℕ
  pub tree : List ℕ
  pub label : ℕ
  pub withdrawn : Bool

unfoldable pub of_label : ℕ → Given → Bool
of_label l g = eqb g.label l

-- the label of m, at neighbour n, for the tree of m
unfoldable pub is_about : ℕ → Message → Given → Bool
is_about n m g = eqb g.label m.label && eqb g.to n && same g.tree m.name

unfoldable pub mark : ℕ → Message → List Given → List Given
mark n m [] = []
mark n m (g ∷ gs) = pick (is_about n m g) (record { to = g.to; tree = g.tree; label = g.label; withdrawn = true }) g ∷ mark n m gs

unfoldable pub remove : ℕ → Message → List Given → List Given
remove n m [] = []
remove n m (g ∷ gs) = let others = remove n m gs in pick (is_about n m g) others (g ∷ others)

-- a Mapping that we send to n makes its label live; a Withdraw that we send marks it
unfoldable pub note_sent : ℕ → Message → List Given → List Given
note_sent n m gs =
    pick (eqb m.kind mapping) (record { to = n; tree = m.name; label = m.label; withdrawn = false } ∷ gs)
    (pick (eqb m.kind withdraw) (mark n m gs) gs)

unfoldable pub note_all : List Sent → List Given → List Given
note_all [] gs = gs
note_all (m ∷ ms) gs = note_all ms (note_sent m.to m.message gs)

-- without those that n may use
unfoldable pub without : ℕ → List Given → List Given
without n [] = []
without n (g ∷ gs) = let others = without n gs in pick (eqb g.to n) others (g ∷ others)

-- A Release that we take from n ends it, and so does the loss of n: we assume that a lost neighbour has stopped using its labels.
unfoldable pub note_taken : Event → List Given → List Given
note_taken (receive n s) gs = pick (eqb (message_in s).kind release) (remove n (message_in s) gs) gs
note_taken (join e) gs = gs
note_taken (leave e) gs = gs
note_taken (route r via) gs = gs
note_taken (lost n) gs = without n gs

-- ---- branches and leaf of a tree, from the accepted events alone, the latest first

-- labels, without those that are l
unfoldable pub without_label : ℕ → List ℕ → List ℕ
without_label l [] = []
without_label l (k ∷ ks) = let others = without_label l ks in pick (eqb k l) others (k ∷ others)

-- What a neighbour's message makes of the labels of its branches: a Mapping adds its label (the same label is the same branch), a Withdraw ends the one under its label.
unfoldable pub said_by : Message → List ℕ → List ℕ
said_by m ls =
    pick (eqb m.kind mapping) (m.label ∷ without_label m.label ls)
    (pick (eqb m.kind withdraw) (without_label m.label ls) ls)

-- THE BRANCHES of the tree a to neighbour n: the labels of n's accepted Mappings for a that no accepted Withdraw under that label, and no loss of n, has since ended
unfoldable pub branches_said : List ℕ → ℕ → List Event → List ℕ
branches_said a n [] = []
branches_said a n (receive from s ∷ es) =
    let before = branches_said a n es in
    let now = said_by (message_in s) before in
    pick (eqb from n && same (message_in s).name a) now before
branches_said a n (join e ∷ es) = branches_said a n es
branches_said a n (leave e ∷ es) = branches_said a n es
branches_said a n (route r via ∷ es) = branches_said a n es
branches_said a n (lost k ∷ es) = let before = branches_said a n es in pick (eqb k n) [] before

unfoldable pub leaf_by : List ℕ → List Event → Bool
leaf_by a [] = false
leaf_by a (receive from s ∷ es) = leaf_by a es
leaf_by a (join e ∷ es) = let before = leaf_by a es in pick (same e a) true before
leaf_by a (leave e ∷ es) = let before = leaf_by a es in pick (same e a) false before
leaf_by a (route r via ∷ es) = leaf_by a es
leaf_by a (lost k ∷ es) = leaf_by a es

-- the route of a root: that of its latest order; no route where there is none, or where the neighbour that it names was lost since
unfoldable pub route_by : List ℕ → List Event → ℕ
route_by r [] = no_route
route_by r (receive from s ∷ es) = route_by r es
route_by r (join e ∷ es) = route_by r es
route_by r (leave e ∷ es) = route_by r es
route_by r (route q via ∷ es) = let before = route_by r es in pick (same q r) via before
route_by r (lost k ∷ es) = let before = route_by r es in pick (eqb before k) no_route before

-- a branch to n for each of the labels
unfoldable pub branches_to : ℕ → List ℕ → List Branch
branches_to n [] = []
branches_to n (l ∷ ls) = record { neighbour = n; label = l } ∷ branches_to n ls

-- those to the k neighbours from n on, by rising number; to the upstream u they are held, and left out
unfoldable pub branches_by : List ℕ → ℕ → ℕ → ℕ → List Event → List Branch
branches_by a u n zero es = []
branches_by a u n (suc k) es = pick (eqb n u) [] (branches_to n (branches_said a n es)) ++ branches_by a u (suc n) k es

-- where the tree a leads; its upstream is the neighbour that the route in force names
unfoldable pub feed_by : List ℕ → List Event → Feed
feed_by a es = record { branches = branches_by a (route_by (root_in a) es) 0 16 es; leaf = leaf_by a es }

-- ---- histories

-- an event, with the room that its output has
pub record Step : Type 0 where
  pub room : ℕ
  pub does : Event

-- the card after some events, the labels that they leave live, and those of them that were accepted, the latest first
pub record Past : Type 0 where
  pub card : Card
  pub live : List Given
  pub accepted : List Event

unfoldable pub answer_to : Card → Step → Out
answer_to c s = event s.room c s.does

-- the messages that a step sends: those in the octets that it writes
unfoldable pub sends : Card → Step → List Sent
sends c s = records_in (answer_to c s).octets

-- only a step that is answered 0 is an event
unfoldable pub is_taken : Card → Step → Bool
is_taken c s = eqb (answer_to c s).answer 0

-- the live labels when the messages of a step go out: the Release, or the loss, that it takes has ended lives
unfoldable pub live_at : Past → Step → List Given
live_at p s = pick (is_taken p.card s) (note_taken s.does p.live) p.live

unfoldable pub accepted_at : Past → Step → List Event
accepted_at p s = pick (is_taken p.card s) (s.does ∷ p.accepted) p.accepted

-- What a step sends is noted whether it is taken or refused (that a refused one sends nothing is a law, `refused-silent`).
unfoldable pub then_step : Past → Step → Past
then_step p s = record { card = (answer_to p.card s).card; live = note_all (sends p.card s) (live_at p s); accepted = accepted_at p s }

unfoldable pub then_steps : Past → List Step → Past
then_steps p [] = p
then_steps p (s ∷ ss) = then_steps (then_step p s) ss

-- a card as the start hands it back, whatever base was asked for
abbrev pub begun : ℕ → Past
begun base = record { card = (start base).card; live = []; accepted = [] }

-- and then the steps
unfoldable pub history : ℕ → List Step → Past
history base ss = then_steps (begun base) ss

-- ---- the promise

unfoldable pub Each : (Given → Type 0) → List Given → Type 0
Each P [] = Unit {0}
Each P (g ∷ gs) = P g × Each P gs

-- every Mapping among the messages names a label that is not live when it is sent
unfoldable pub NoneLive : List Sent → List Given → Type 0
NoneLive [] gs = Unit {0}
NoneLive (m ∷ ms) gs =
    (m.message.kind ≡ mapping → count (of_label m.message.label) gs ≡ 0)
    × NoneLive ms (note_sent m.to m.message gs)

-- where a live label leads
unfoldable pub Leads : Past → Given → Type 0
Leads p g = lookup_label g.label p.card ≡ pick g.withdrawn nothing (feed_by g.tree p.accepted)

-- a label that n may use for the tree of m, and for which we have sent Withdraw
unfoldable pub is_withdrawn : ℕ → Message → Given → Bool
is_withdrawn n m g = is_about n m g && g.withdrawn

-- a label that n may use for the tree of m, and for which we have sent no Withdraw
unfoldable pub is_standing : ℕ → Message → Given → Bool
is_standing n m g = is_about n m g && not g.withdrawn

-- every Withdraw among the messages names a label that is mapped when it is sent: to that neighbour, for that tree
unfoldable pub AllMapped : List Sent → List Given → Type 0
AllMapped [] gs = Unit {0}
AllMapped (m ∷ ms) gs =
    (m.message.kind ≡ withdraw → count (is_standing m.to m.message) gs ≡ 1)
    × AllMapped ms (note_sent m.to m.message gs)

-- the trees, in their order, but for one named a
unfoldable pub trees_but : List ℕ → List Tree → List Tree
trees_but a [] = []
trees_but a (t ∷ ts) = let others = trees_but a ts in pick (named a t) others (t ∷ others)

-- what a label is used for, but for the name a: free where it is used for a
unfoldable pub use_but : List ℕ → Use → Use
use_but a free = free
use_but a (mapped n b) = pick (same b a) free (mapped n b)
use_but a (awaiting n b) = pick (same b a) free (awaiting n b)

-- All that is not a's is as it was: the trees of other names and their order, and the labels that are used for other names.
pub record Untouched (a : List ℕ) (before after : Card) : Type 0 where
  pub trees : trees_but a after.trees ≡ trees_but a before.trees
  pub uses : (l : ℕ) → use_but a (use_of l after) ≡ use_but a (use_of l before)

pub record Promise (p : Past) : Type 0 where
  -- The octets are the records of the messages read in them, and hold nothing more.
  pub wire : (s : Step) → (answer_to p.card s).octets ≡ records p.card.next (sends p.card s)
  -- A Release that is taken answers our Withdraw: of a live label, to that neighbour, for that tree.
  pub answers : (room n : ℕ) (s : List ℕ) → (event room p.card (receive n s)).answer ≡ 0 → (message_in s).kind ≡ release → count (is_withdrawn n (message_in s)) p.live ≡ 1
  -- Every live label is live at one neighbour, for one tree.
  pub one : (l : ℕ) → count (of_label l) p.live ≤ 1
  -- No live label is given out again.
  pub anew : (s : Step) → NoneLive (sends p.card s) (live_at p s)
  -- A Withdraw is sent only of a label that is mapped, to that neighbour, for that tree: no label is withdrawn twice.
  pub withdraws : (s : Step) → AllMapped (sends p.card s) (live_at p s)
  -- While mapped it leads exactly to the leaf, if joined, and the branches, those held left out, whose accepted Mapping no accepted Withdraw has since ended under its label, and no loss of its neighbour; once withdrawn, to nobody.
  pub leads : Each (Leads p) p.live
  -- (any other number leads to nobody)
  pub others : (l : ℕ) → count (of_label l) p.live ≡ 0 → lookup_label l p.card ≡ nothing
  -- (by name a tree leads there whether or not it holds a label; octets that name none lead to nobody)
  pub by_name : (a : List ℕ) → lookup_name a p.card ≡ feed_by a p.accepted
  -- A tree has at most one branch to a neighbour.
  pub single : (a : List ℕ) (n : ℕ) → length (branches_said a n p.accepted) ≤ 1
  -- Live and free labels make 256.
  pub sum : length p.live + free_labels p.card ≡ 256
  -- A neighbour's message naming one tree touches no other tree's entry.
  pub apart : (room n : ℕ) (s : List ℕ) → Untouched (message_in s).name p.card (event room p.card (receive n s)).card

-- DEMAND 3, proved in `PromiseProof`: after any history of a card that was started, with any base
abbrev pub Demand3 : Type 0
Demand3 = (base : ℕ) (steps : List Step) → Promise (history base steps)
