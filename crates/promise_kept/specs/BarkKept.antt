-- What `proofs/BarkKept` speaks of.
-- Assumes nothing.
use Rattle.std.specs.Prelude.{ℕ, ◌≡◌, Bool, ◌||◌, eqb}
use Rattle.std.proofs.Math.Bool.{true, false, not}
use mathlib.Core.List.{List, [], ◌∷◌, ◌++◌}
use Rattle.meaning.specs.Octets.{pick}
use Rattle.meaning.specs.Card.{Feed}
use Rattle.meaning.specs.Events.{receive}
use Rattle.meaning.specs.Calls.{feed_in}
use Rattle.promise.specs.Promise.{leaf_by, Past}
use Rattle.promise.specs.Deeds
use Rattle.promise_line.specs.Line.{parcels, addressed}
use Rattle.promise_net.specs.Net.{Far, nobody, box, Wires, Wired, anew, over_line, losing, joined, Whole}
use Rattle.promise_bark.specs.Bark.{Item, letter, packet, Traffic, letters, talk, copies_to, passed, is_live, handed, hands, turns, NoBark}
use Rattle.promise_bark.specs.Bark
use Rattle.promise_kept.specs.CallContracts.{Call, Called, Telling, Told, Started, LookedUp, NameLookedUp}
use Rattle.promise_kept.specs.CallContracts
use Rattle.promise_kept.specs.Kept.{Done, call, tell, accepted_by, step_of, past_of}

-- ---- a net of memories

-- the memory of a box, and what was done with it, the latest first
pub record Memory : Type 0 where
  pub done : List Done
  pub numbers : List ℕ
  pub names : List ℕ

-- as `Traffic`, with a memory for each box
pub record Plant : Type 0 where
  pub at : ℕ → Memory
  pub line : ℕ → ℕ → List Item
  pub refused : ℕ → ℕ → Bool

-- what of the octets that a call of box i handed back comes to who stands at the far end
unfoldable pub arrived : ℕ → List ℕ → Far → List (List ℕ)
arrived i part nobody = []
arrived i part (box j q) = pick (eqb j i) (addressed q (parcels part)) []

-- a call of box i left this memory and handed back these octets; what was under way, and what was refused, is given
unfoldable pub called : Wires → Plant → ℕ → Memory → List ℕ → (ℕ → ℕ → List Item) → (ℕ → ℕ → Bool) → Plant
called far w i m part under refused = record { at = λ k. pick (eqb k i) m (w.at k); line = λ k p. under k p ++ letters (arrived i part (far k p)); refused = refused }

-- a lookup of box i handed back this feed, and a copy of the packet goes along each of its branches
unfoldable pub copied : Wires → Plant → ℕ → List ℕ → Feed → (ℕ → ℕ → List Item) → Plant
copied far w i a f under = record { at = w.at; line = λ k p. under k p ++ copies_to i a f.branches (far k p); refused = w.refused }

-- both boxes of a line have lost each other, and it begins anew
unfoldable pub cleared : ℕ → ℕ → ℕ → ℕ → Plant → Plant
cleared i p j q w = record { at = w.at; line = anew i p [] (anew j q [] w.line); refused = anew i p false (anew j q false w.refused) }

-- what `Bark` says of it is said of the cards that the memories denote, and of what the calls said by their answers and the octets that they handed back
unfoldable pub past_at : Memory → Past
past_at m = past_of m.done m.numbers m.names

unfoldable pub traffic_of : Plant → Traffic
traffic_of w = record { past = λ i. past_at (w.at i); line = w.line; refused = w.refused }

-- the memory after a call, and after a notice
abbrev pub after : Memory → Call → List ℕ → List ℕ → Memory
after m k ns os = record { done = call k ∷ m.done; numbers = ns; names = os }

abbrev pub telling : Memory → Telling → List ℕ → Memory
telling m t ns = record { done = tell t ∷ m.done; numbers = ns; names = m.names }

-- The turns of `Bark`, by calls: box i hands the next message from its number p to `receive`; looks the next packet up by its label; is given any order that is no message of another box, nor the loss of its line; sends a notice;
-- a packet is put in, and looked up by name; one comes from outside; one is lost; one is overtaken; or the line of box i's number p is cut, and `lost` is called at both its ends with room for all that it sends.
pub data Goes (far : Wires) (w : Plant) : Plant → Type 0 where
  hears : {k : Call} {ns os : List ℕ} (i p : ℕ) (s : List ℕ) (rest : List Item) → w.line i p ≡ letter s ∷ rest → k.does ≡ receive p s → Called (w.at i).numbers (w.at i).names k ns os
      → Goes far w (called far w i (after (w.at i) k ns os) k.part (anew i p rest w.line) (anew i p (w.refused i p || not (eqb k.answer 0)) w.refused))
  sends : {branches : List ℕ} {leaf : Bool} (i p : ℕ) (a : List ℕ) (l : ℕ) (rest : List Item) → w.line i p ≡ packet a l ∷ rest → LookedUp (w.at i).numbers l branches leaf
      → Goes far w (copied far w i a (feed_in branches leaf) (anew i p rest w.line))
  does : {k : Call} {ns os : List ℕ} (i : ℕ) → over_line far i k.does ≡ false → Called (w.at i).numbers (w.at i).names k ns os → Goes far w (called far w i (after (w.at i) k ns os) k.part w.line w.refused)
  tells : {t : Telling} {ns : List ℕ} (i : ℕ) → Told (w.at i).numbers t ns → Goes far w (called far w i (telling (w.at i) t ns) t.part w.line w.refused)
  puts : {branches : List ℕ} {leaf : Bool} (i : ℕ) (a : List ℕ) → NameLookedUp (w.at i).numbers (w.at i).names a branches leaf → Goes far w (copied far w i a (feed_in branches leaf) w.line)
  comes : {branches : List ℕ} {leaf : Bool} (i p : ℕ) (a : List ℕ) (l : ℕ) → is_live (traffic_of w) i p a l ≡ true → LookedUp (w.at i).numbers l branches leaf → Goes far w (copied far w i a (feed_in branches leaf) w.line)
  loses : (i p : ℕ) (a : List ℕ) (l : ℕ) (rest : List Item) → w.line i p ≡ packet a l ∷ rest → Goes far w (copied far w i a (record { branches = []; leaf = false }) (anew i p rest w.line))
  passes : (i p n : ℕ) → Goes far w (copied far w i [] (record { branches = []; leaf = false }) (anew i p (passed n (w.line i p)) w.line))
  cuts : {k m : Call} {ns os ms ps : List ℕ} (i p j q : ℕ) → far i p ≡ box j q → step_of k ≡ losing p → Called (w.at i).numbers (w.at i).names k ns os
      → (v : Plant) → v ≡ called far w i (after (w.at i) k ns os) k.part w.line w.refused → step_of m ≡ losing q → Called (v.at j).numbers (v.at j).names m ms ps
      → Goes far w (cleared i p j q (called far v j (after (v.at j) m ms ps) m.part v.line v.refused))

-- Memories that were started, and then any of these, in any order.
pub data Reached (far : Wires) (base : ℕ → ℕ) : Plant → Type 0 where
  starts : (ns os : ℕ → List ℕ) → ((i : ℕ) → Started (base i) (ns i)) → Reached far base (record { at = λ i. record { done = []; numbers = ns i; names = os i }; line = λ i p. []; refused = λ i p. false })
  turned : {w v : Plant} → Reached far base w → Goes far w v → Reached far base v

-- ---- what is said

pub record NoBarkByCode (far : Wires) (w : Plant) : Type 0 where
  -- all that `Bark` says
  pub said : NoBark far (traffic_of w)
  -- The lookup of a packet that is next to arrive gives the leaf mark back only where the leaf has joined that packet's tree: by a join that was answered 0, and no leave that was since.
  pub leaf : {branches : List ℕ} {leaf : Bool} (i p : ℕ) (a : List ℕ) (l : ℕ) (rest : List Item) → w.line i p ≡ packet a l ∷ rest → LookedUp (w.at i).numbers l branches leaf → leaf ≡ true → leaf_by a (accepted_by (w.at i).done) ≡ true

-- NO BARK OF THE CODE, proved below: at every moment
abbrev pub NoBarkOfMemories : Type 0
NoBarkOfMemories = (far : Wires) → Wired far → (base : ℕ → ℕ) (w : Plant) → Reached far base w → NoBarkByCode far w

-- THE WHOLE TREE OF THE CODE, proved below: the words of `Net`, of the cards that the memories denote
abbrev pub WholeTreeOfMemories : Type 0
WholeTreeOfMemories = (far : Wires) → Wired far → (base : ℕ → ℕ) (w : Plant) → Reached far base w → Whole far (talk (traffic_of w))
