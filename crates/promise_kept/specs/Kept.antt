-- What `proofs/Kept` speaks of.
-- Assumes nothing.
use Rattle.std.specs.Prelude.{ℕ, ◌+◌, ◌≤◌, ◌≡◌, Bool, length, eqb}
use mathlib.Core.List.{List, [], ◌∷◌, ◌++◌}
use Rattle.meaning.specs.Octets.{pick, count}
use Rattle.meaning.specs.Wire.{release, message_in, records, records_in}
use Rattle.meaning.specs.Card.{nothing}
use Rattle.meaning.specs.Events.{Event, receive, event}
use Rattle.meaning_save.specs.Save.{Form, save, move}
use Rattle.meaning.specs.Calls.{feed_in}
use Rattle.promise.specs.Promise.{Given, of_label, note_all, note_taken, branches_said, feed_by, Step, Past, begun, Each, NoneLive, AllMapped, is_withdrawn, Untouched}
use Rattle.promise.specs.SaveKept as Swap
use Rattle.promise.specs.Deeds.{Deed, does, tells, saves, swaps, moves, restores, then_deeds}
use Rattle.memory.specs.Memory.{card_of}
use Rattle.promise_kept.specs.CallContracts.{Call, Called, Telling, Told, Started, Saved, Restored, read, Moving, LookedUp, NameLookedUp, Counted}

-- ---- a run of calls

-- What was done: an event, a notice, a save (its form, and the room that it had), a swap to a card with that memory, such a swap with a move from one form to the other on the way (with its room), or a refused restore of those octets.
pub data Done : Type 0 where
  call : Call → Done
  tell : Telling → Done
  keep : Form → ℕ → Done
  swap : Form → List ℕ → List ℕ → Done
  forward : Form → Form → ℕ → List ℕ → List ℕ → Done
  misread : Form → List ℕ → Done

-- Memory that a start filled, and then what was done, the latest first, each by the contract of the function that was called. A start of memory that was in use before begins a new run.
-- begins: the numbers, and any names.
-- swaps: octets that a save of this memory gave, answered 0, are restored over another card's memory, with no call between.
-- forwards: the same, where the octets are moved to the other form first, answered 0.
-- misreads: a restore that is not answered 0.
pub data Run (base : ℕ) : List Done → List ℕ → List ℕ → Type 0 where
  begins : {ns : List ℕ} → Started base ns → (os : List ℕ) → Run base [] ns os
  calls : {ks : List Done} {ns os : List ℕ} {k : Call} {ns' os' : List ℕ} → Run base ks ns os → Called ns os k ns' os' → Run base (call k ∷ ks) ns' os'
  notifies : {ks : List Done} {ns os : List ℕ} {t : Telling} {ns' : List ℕ} → Run base ks ns os → Told ns t ns' → Run base (tell t ∷ ks) ns' os
  keeps : {ks : List Done} {ns os : List ℕ} {f : Form} {room answer : ℕ} {octets : List ℕ} → Run base ks ns os → Saved f ns os room answer octets → Run base (keep f room ∷ ks) ns os
  exchanges : {ks : List Done} {ns os : List ℕ} {f : Form} {room : ℕ} {octets ms ps : List ℕ} {answer : ℕ} {ns' os' : List ℕ} → Run base ks ns os → Saved f ns os room 0 octets → Restored f ms ps octets answer ns' os' → Run base (swap f ms ps ∷ ks) ns' os'
  forwards : {ks : List Done} {ns os : List ℕ} {f g : Form} {room lent : ℕ} {octets part ms ps : List ℕ} {answer : ℕ} {ns' os' : List ℕ} → Run base ks ns os → Saved f ns os room 0 octets → Moving f g octets lent 0 part → Restored g ms ps part answer ns' os' → Run base (forward f g lent ms ps ∷ ks) ns' os'
  misreads : {ks : List Done} {ns os : List ℕ} {f : Form} {octets : List ℕ} {answer : ℕ} {ns' os' : List ℕ} → Run base ks ns os → Restored f ns os octets answer ns' os' → (answer ≡ 0 → ⊥) → Run base (misread f octets ∷ ks) ns' os'

-- ---- what the calls said, by their answers and the octets that they handed back

-- the live labels when a call's messages go out: the Release that it takes has ended a life
abbrev pub live_for : Call → List Given → List Given
live_for k gs = pick (eqb k.answer 0) (note_taken k.does gs) gs

unfoldable pub live_by : List Done → List Given
live_by [] = []
live_by (call k ∷ ks) = note_all (records_in k.part) (live_for k (live_by ks))
live_by (tell t ∷ ks) = note_all (records_in t.part) (live_by ks)
live_by (keep f room ∷ ks) = live_by ks
live_by (swap f ms ps ∷ ks) = live_by ks
live_by (forward f g room ms ps ∷ ks) = live_by ks
live_by (misread f octets ∷ ks) = live_by ks

unfoldable pub accepted_by : List Done → List Event
accepted_by [] = []
accepted_by (call k ∷ ks) = pick (eqb k.answer 0) (k.does ∷ accepted_by ks) (accepted_by ks)
accepted_by (tell t ∷ ks) = accepted_by ks
accepted_by (keep f room ∷ ks) = accepted_by ks
accepted_by (swap f ms ps ∷ ks) = accepted_by ks
accepted_by (forward f g room ms ps ∷ ks) = accepted_by ks
accepted_by (misread f octets ∷ ks) = accepted_by ks

-- ---- the promise, after what was done left the memory ns, os; k is any call of an event after it

pub record KeptByCode (ks : List Done) (ns os : List ℕ) : Type 0 where
  -- The octets handed back are the records of the messages read in them, and hold nothing more.
  pub wire : {k : Call} {ns' os' : List ℕ} → Called ns os k ns' os' → k.part ≡ records (card_of ns os).next (records_in k.part)
  -- A Release that is taken answers our Withdraw: of a live label, to that neighbour, for that tree.
  pub answers : {k : Call} {ns' os' : List ℕ} → Called ns os k ns' os' → (n : ℕ) (s : List ℕ) → k.does ≡ receive n s → k.answer ≡ 0 → (message_in s).kind ≡ release → count (is_withdrawn n (message_in s)) (live_by ks) ≡ 1
  -- Every live label is live at one neighbour, for one tree.
  pub one : (l : ℕ) → count (of_label l) (live_by ks) ≤ 1
  -- No live label is given out again.
  pub anew : {k : Call} {ns' os' : List ℕ} → Called ns os k ns' os' → NoneLive (records_in k.part) (live_for k (live_by ks))
  -- A Withdraw is sent only of a label that is mapped, to that neighbour, for that tree.
  pub withdraws : {k : Call} {ns' os' : List ℕ} → Called ns os k ns' os' → AllMapped (records_in k.part) (live_for k (live_by ks))
  -- What a lookup of a live label gives back: while mapped exactly the leaf, if joined, and the branches, those held left out, whose accepted Mapping no accepted Withdraw has since ended under its label; once withdrawn, nobody.
  pub leads : Each (λ g. (branches : List ℕ) (leaf : Bool) → LookedUp ns g.label branches leaf → feed_in branches leaf ≡ pick g.withdrawn nothing (feed_by g.tree (accepted_by ks))) (live_by ks)
  -- (of any other number, nobody)
  pub others : (l : ℕ) → count (of_label l) (live_by ks) ≡ 0 → (branches : List ℕ) (leaf : Bool) → LookedUp ns l branches leaf → feed_in branches leaf ≡ nothing
  -- (by name, the same)
  pub by_name : (a branches : List ℕ) (leaf : Bool) → NameLookedUp ns os a branches leaf → feed_in branches leaf ≡ feed_by a (accepted_by ks)
  -- A tree has at most one branch to a neighbour.
  pub single : (a : List ℕ) (n : ℕ) → length (branches_said a n (accepted_by ks)) ≤ 1
  -- Live labels and the number of free ones that is given back make 256.
  pub sum : (n : ℕ) → Counted ns n → length (live_by ks) + n ≡ 256
  -- A neighbour's message naming one tree touches no other tree's entry.
  pub apart : {k : Call} {ns' os' : List ℕ} → Called ns os k ns' os' → (n : ℕ) (s : List ℕ) → k.does ≡ receive n s → Untouched (message_in s).name (card_of ns os) (card_of ns' os')

-- ---- a run is a history

abbrev pub step_of : Call → Step
step_of k = record { room = k.room; does = k.does }

abbrev pub deed_of : Done → Deed
deed_of (call k) = does (step_of k)
deed_of (tell t) = tells t.room t.neighbour t.number t.octets
deed_of (keep f room) = saves f room
deed_of (swap f ms ps) = swaps f (card_of ms ps)
deed_of (forward f g room ms ps) = moves f g room (card_of ms ps)
deed_of (misread f octets) = restores f octets

-- the oldest first
unfoldable pub deeds_of : List Done → List Deed
deeds_of [] = []
deeds_of (k ∷ ks) = deeds_of ks ++ deed_of k ∷ []

unfoldable pub past_of : List Done → List ℕ → List ℕ → Past
past_of ks ns os = record { card = card_of ns os; live = live_by ks; accepted = accepted_by ks }

-- the past of a card that was started, and of those deeds
unfoldable pub past_by : ℕ → List Deed → Past
past_by base ds = then_deeds (begun base) ds
