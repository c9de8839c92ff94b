-- The calls of the code by their contracts, and nothing more: each constructor takes what a caller learns of one call (`Learnt`), and says of it what went in and what came back.
-- a are the call's arguments, r is its result, and s are its parameters as they are right after it, in the order of the source (`.0`, `.1 .0`, `.1 .1 .0`, ..):
-- start: numbers, base. receive: numbers, names, neighbour, message, out, answer. join, leave: numbers, names, element, out, answer. route: numbers, names, root, via, out, answer. lost: numbers, names, neighbour, out, answer.
-- notice: numbers, neighbour, number, octets, out, answer. save: numbers, names, the form, out, answer. restore: numbers, names, the form, octets, and spare memory, of which nothing is learnt. (For C there is a call for each form.)
-- newer, older: octets, three pieces of spare memory, out, answer; in their core the form stands behind the octets.
-- lookup by label: numbers, label, and in a core or for C the branches; by name: numbers, names, element, and the branches likewise. The cores and the calls for C have the order of the call.
-- The law behind each type (`made`, `told`, ..) is its statement in the words of `meaning`. Assumes nothing.
use Rattle.std.specs.Prelude.{ℕ, ◌≡◌, Bool, not, List, take, length}
use Rattle.meaning.specs.Card.{free_labels, lookup_label, lookup_name}
use Rattle.meaning.specs.Events.{Event, receive, join, leave, route, lost, event, start}
use Rattle.meaning.specs.Notice.{notice}
use Rattle.meaning_save.specs.Save.{Form, old, new, form_of, save, restore, move, newer, older}
use Rattle.meaning.specs.Calls.{Hands, feed_in}
use Rattle.meaning_laws.specs.Handed.{handed}
use Rattle.memory.specs.Memory.{card_of}
use Rattle.card.proofs.start.Reads as start-reads
use Rattle.card.proofs.receive.Reads as receive-reads
use Rattle.card.proofs.receive_core.Reads as receive-core-reads
use Rattle.card.proofs.join.Reads as join-reads
use Rattle.card.proofs.join_core.Reads as join-core-reads
use Rattle.card.proofs.leave.Reads as leave-reads
use Rattle.card.proofs.leave_core.Reads as leave-core-reads
use Rattle.card.proofs.route.Reads as route-reads
use Rattle.card.proofs.route_core.Reads as route-core-reads
use Rattle.card.proofs.lost.Reads as lost-reads
use Rattle.card.proofs.lost_core.Reads as lost-core-reads
use Rattle.card_lookups.proofs.lookup_label.Reads as lookup-label-reads
use Rattle.card_lookups.proofs.lookup_label_core.Reads as lookup-label-core-reads
use Rattle.card_lookups.proofs.lookup_name.Reads as lookup-name-reads
use Rattle.card_lookups.proofs.lookup_name_core.Reads as lookup-name-core-reads
use Rattle.card_lookups.proofs.free_labels.Reads as free-labels-reads
use Rattle.firmware_events.proofs.card_start.Reads as card-start-reads
use Rattle.firmware_events.proofs.card_receive.Reads as card-receive-reads
use Rattle.firmware_events.proofs.card_join.Reads as card-join-reads
use Rattle.firmware_events.proofs.card_leave.Reads as card-leave-reads
use Rattle.firmware_events.proofs.card_route.Reads as card-route-reads
use Rattle.firmware_events.proofs.card_lost.Reads as card-lost-reads
use Rattle.firmware_lookups.proofs.card_lookup_label.Reads as card-lookup-label-reads
use Rattle.firmware_lookups.proofs.card_lookup_name.Reads as card-lookup-name-reads
use Rattle.firmware_lookups.proofs.card_free_labels.Reads as card-free-labels-reads
use Rattle.firmware_notices.proofs.card_notice.Reads as card-notice-reads
use Rattle.firmware_saves.proofs.card_save.Reads as card-save-reads
use Rattle.firmware_saves.proofs.card_save2.Reads as card-save2-reads
use Rattle.firmware_saves.proofs.card_restore.Reads as card-restore-reads
use Rattle.firmware_saves.proofs.card_restore2.Reads as card-restore2-reads
use Rattle.firmware_saves.proofs.card_newer.Reads as card-newer-reads
use Rattle.firmware_saves.proofs.card_older.Reads as card-older-reads
use Rattle.notice_writer.proofs.notice.Reads as notice-reads
use Rattle.notice_writer.proofs.notice_core.Reads as notice-core-reads
use Rattle.save_writer.proofs.save.Reads as save-reads
use Rattle.save_writer.proofs.save_core.Reads as save-core-reads
use Rattle.save_reader.proofs.restore.Reads as restore-reads
use Rattle.save_mover.specs.Moves.{Gives}
use Rattle.save_mover.proofs.Moving.{given}
use Rattle.save_mover.proofs.newer.Reads as newer-reads
use Rattle.save_mover.proofs.older.Reads as older-reads
use Rattle.save_mover.proofs.move_core.Reads as move-core-reads

-- ---- an event

-- as its caller sees it: the length of the buffer that was lent, the event, the answer, and the octets that were handed back
pub record Call : Type 0 where
  pub room : ℕ
  pub does : Event
  pub answer : ℕ
  pub part : List ℕ

-- It was made on the memory ns, os and left ns', os': a call of `card`, one of its cores (which gives back how many octets it wrote to the buffer's front), or a call for C.
pub data Called : List ℕ → List ℕ → Call → List ℕ → List ℕ → Type 0 where
  by-receive : (κs : _) (a : _) (r : _) (s : _) → receive-reads.Learnt κs a r s
      → Called a.0.now a.1.0.now (record { room = length a.1.1.1.1.0.now; does = receive a.1.1.0 a.1.1.1.0.now; answer = s.1.1.1.1.1.0.now; part = r.now }) s.0.now s.1.0.now
  by-receive-core : (κs : _) (a : _) (r : _) (s : _) → receive-core-reads.Learnt κs a r s
      → Called a.0.now a.1.0.now (record { room = length a.1.1.1.1.0.now; does = receive a.1.1.0 a.1.1.1.0.now; answer = s.1.1.1.1.1.0.now; part = take r s.1.1.1.1.0.now }) s.0.now s.1.0.now
  by-card-receive : (κs : _) (a : _) (r : _) (s : _) → card-receive-reads.Learnt κs a r s
      → Called a.0.now a.1.0.now (record { room = length a.1.1.1.1.0.now; does = receive a.1.1.0 a.1.1.1.0.now; answer = s.1.1.1.1.1.0.now; part = take r s.1.1.1.1.0.now }) s.0.now s.1.0.now
  by-join : (κs : _) (a : _) (r : _) (s : _) → join-reads.Learnt κs a r s
      → Called a.0.now a.1.0.now (record { room = length a.1.1.1.0.now; does = join a.1.1.0.now; answer = s.1.1.1.1.0.now; part = r.now }) s.0.now s.1.0.now
  by-join-core : (κs : _) (a : _) (r : _) (s : _) → join-core-reads.Learnt κs a r s
      → Called a.0.now a.1.0.now (record { room = length a.1.1.1.0.now; does = join a.1.1.0.now; answer = s.1.1.1.1.0.now; part = take r s.1.1.1.0.now }) s.0.now s.1.0.now
  by-card-join : (κs : _) (a : _) (r : _) (s : _) → card-join-reads.Learnt κs a r s
      → Called a.0.now a.1.0.now (record { room = length a.1.1.1.0.now; does = join a.1.1.0.now; answer = s.1.1.1.1.0.now; part = take r s.1.1.1.0.now }) s.0.now s.1.0.now
  by_leave : (κs : _) (a : _) (r : _) (s : _) → leave-reads.Learnt κs a r s
      → Called a.0.now a.1.0.now (record { room = length a.1.1.1.0.now; does = leave a.1.1.0.now; answer = s.1.1.1.1.0.now; part = r.now }) s.0.now s.1.0.now
  by-leave-core : (κs : _) (a : _) (r : _) (s : _) → leave-core-reads.Learnt κs a r s
      → Called a.0.now a.1.0.now (record { room = length a.1.1.1.0.now; does = leave a.1.1.0.now; answer = s.1.1.1.1.0.now; part = take r s.1.1.1.0.now }) s.0.now s.1.0.now
  by-card-leave : (κs : _) (a : _) (r : _) (s : _) → card-leave-reads.Learnt κs a r s
      → Called a.0.now a.1.0.now (record { room = length a.1.1.1.0.now; does = leave a.1.1.0.now; answer = s.1.1.1.1.0.now; part = take r s.1.1.1.0.now }) s.0.now s.1.0.now
  by-route : (κs : _) (a : _) (r : _) (s : _) → route-reads.Learnt κs a r s
      → Called a.0.now a.1.0.now (record { room = length a.1.1.1.1.0.now; does = route a.1.1.0.now a.1.1.1.0; answer = s.1.1.1.1.1.0.now; part = r.now }) s.0.now s.1.0.now
  by-route-core : (κs : _) (a : _) (r : _) (s : _) → route-core-reads.Learnt κs a r s
      → Called a.0.now a.1.0.now (record { room = length a.1.1.1.1.0.now; does = route a.1.1.0.now a.1.1.1.0; answer = s.1.1.1.1.1.0.now; part = take r s.1.1.1.1.0.now }) s.0.now s.1.0.now
  by-card-route : (κs : _) (a : _) (r : _) (s : _) → card-route-reads.Learnt κs a r s
      → Called a.0.now a.1.0.now (record { room = length a.1.1.1.1.0.now; does = route a.1.1.0.now a.1.1.1.0; answer = s.1.1.1.1.1.0.now; part = take r s.1.1.1.1.0.now }) s.0.now s.1.0.now
  by-lost : (κs : _) (a : _) (r : _) (s : _) → lost-reads.Learnt κs a r s
      → Called a.0.now a.1.0.now (record { room = length a.1.1.1.0.now; does = lost a.1.1.0; answer = s.1.1.1.1.0.now; part = r.now }) s.0.now s.1.0.now
  by-lost-core : (κs : _) (a : _) (r : _) (s : _) → lost-core-reads.Learnt κs a r s
      → Called a.0.now a.1.0.now (record { room = length a.1.1.1.0.now; does = lost a.1.1.0; answer = s.1.1.1.1.0.now; part = take r s.1.1.1.0.now }) s.0.now s.1.0.now
  by-card-lost : (κs : _) (a : _) (r : _) (s : _) → card-lost-reads.Learnt κs a r s
      → Called a.0.now a.1.0.now (record { room = length a.1.1.1.0.now; does = lost a.1.1.0; answer = s.1.1.1.1.0.now; part = take r s.1.1.1.0.now }) s.0.now s.1.0.now

pub made : {ns os : List ℕ} {k : Call} {ns' os' : List ℕ} → Called ns os k ns' os' → Hands (event k.room (card_of ns os) k.does) k.answer k.part (card_of ns' os')
made (by-receive κs a r s h) = h.0
made (by-receive-core κs a r s h) = handed _ _ _ _ _ _ h
made (by-card-receive κs a r s h) = handed _ _ _ _ _ _ h
made (by-join κs a r s h) = h.0
made (by-join-core κs a r s h) = handed _ _ _ _ _ _ h
made (by-card-join κs a r s h) = handed _ _ _ _ _ _ h
made (by_leave κs a r s h) = h.0
made (by-leave-core κs a r s h) = handed _ _ _ _ _ _ h
made (by-card-leave κs a r s h) = handed _ _ _ _ _ _ h
made (by-route κs a r s h) = h.0
made (by-route-core κs a r s h) = handed _ _ _ _ _ _ h
made (by-card-route κs a r s h) = handed _ _ _ _ _ _ h
made (by-lost κs a r s h) = h.0
made (by-lost-core κs a r s h) = handed _ _ _ _ _ _ h
made (by-card-lost κs a r s h) = handed _ _ _ _ _ _ h

-- ---- a notice

-- the length of the buffer, the neighbour, the number of a refusal and the refused octets, the answer, and the octets that were handed back
pub record Telling : Type 0 where
  pub room : ℕ
  pub neighbour : ℕ
  pub number : ℕ
  pub octets : List ℕ
  pub answer : ℕ
  pub part : List ℕ

-- on the numbers ns, whatever the names; it left ns'
pub data Told : List ℕ → Telling → List ℕ → Type 0 where
  by-notice : (κs : _) (a : _) (r : _) (s : _) → notice-reads.Learnt κs a r s
      → Told a.0.now (record { room = length a.1.1.1.1.0.now; neighbour = a.1.0; number = a.1.1.0; octets = a.1.1.1.0.now; answer = s.1.1.1.1.1.0.now; part = r.now }) s.0.now
  by-notice-core : (κs : _) (a : _) (r : _) (s : _) → notice-core-reads.Learnt κs a r s
      → Told a.0.now (record { room = length a.1.1.1.1.0.now; neighbour = a.1.0; number = a.1.1.0; octets = a.1.1.1.0.now; answer = s.1.1.1.1.1.0.now; part = take r s.1.1.1.1.0.now }) s.0.now
  by-card-notice : (κs : _) (a : _) (r : _) (s : _) → card-notice-reads.Learnt κs a r s
      → Told a.0.now (record { room = length a.1.1.1.1.0.now; neighbour = a.1.0; number = a.1.1.0; octets = a.1.1.1.0.now; answer = s.1.1.1.1.1.0.now; part = take r s.1.1.1.1.0.now }) s.0.now

pub told : {ns : List ℕ} {t : Telling} {ns' : List ℕ} → Told ns t ns' → (any : List ℕ) → Hands (notice t.room (card_of ns any) t.neighbour t.number t.octets) t.answer t.part (card_of ns' any)
told (by-notice κs a r s h) any = h.0 any
told (by-notice-core κs a r s h) any = handed _ _ _ _ _ _ (h any)
told (by-card-notice κs a r s h) any = handed _ _ _ _ _ _ (h any)

-- ---- a start: it was made with that base, and left ns

pub data Started : ℕ → List ℕ → Type 0 where
  by-start : (κs : _) (a : _) (r : _) (s : _) → start-reads.Learnt κs a r s → Started a.1.0 s.0.now
  by-card-start : (κs : _) (a : _) (r : _) (s : _) → card-start-reads.Learnt κs a r s → Started a.1.0 s.0.now

pub began : {base : ℕ} {ns : List ℕ} → Started base ns → (any : List ℕ) → card_of ns any ≡ (start base).card
began (by-start κs a r s h) = h.1
began (by-card-start κs a r s h) = h.1

-- ---- a save: its form, on the memory ns, os, which is lent to be read alone; the length of the buffer, the answer, and the octets that were handed back

pub data Saved : Form → List ℕ → List ℕ → ℕ → ℕ → List ℕ → Type 0 where
  by-save : (κs : _) (a : _) (r : _) (s : _) → save-reads.Learnt κs a r s → Saved (form_of a.1.1.0) a.0.now a.1.0.now (length a.1.1.1.0.now) s.1.1.1.1.0.now r.now
  by-save-core : (κs : _) (a : _) (r : _) (s : _) → save-core-reads.Learnt κs a r s → Saved (form_of a.1.1.0) a.0.now a.1.0.now (length a.1.1.1.0.now) s.1.1.1.1.0.now (take r s.1.1.1.0.now)
  by-card-save : (κs : _) (a : _) (r : _) (s : _) → card-save-reads.Learnt κs a r s → Saved old a.0.now a.1.0.now (length a.1.1.0.now) s.1.1.1.0.now (take r s.1.1.0.now)
  by-card-save2 : (κs : _) (a : _) (r : _) (s : _) → card-save2-reads.Learnt κs a r s → Saved new a.0.now a.1.0.now (length a.1.1.0.now) s.1.1.1.0.now (take r s.1.1.0.now)

pub wrote : {f : Form} {ns os : List ℕ} {room answer : ℕ} {octets : List ℕ} → Saved f ns os room answer octets → Hands (save f room (card_of ns os)) answer octets (card_of ns os)
wrote (by-save κs a r s h) = h.0
wrote (by-save-core κs a r s h) = handed _ _ _ _ _ _ h
wrote (by-card-save κs a r s h) = handed _ _ _ _ _ _ h
wrote (by-card-save2 κs a r s h) = handed _ _ _ _ _ _ h

-- ---- a restore: its form, on the memory ns, os, of those octets; the answer, and the memory that it left

pub data Restored : Form → List ℕ → List ℕ → List ℕ → ℕ → List ℕ → List ℕ → Type 0 where
  by-restore : (κs : _) (a : _) (r : _) (s : _) → restore-reads.Learnt κs a r s → Restored (form_of a.1.1.0) a.0.now a.1.0.now a.1.1.1.0.now r s.0.now s.1.0.now
  by-card-restore : (κs : _) (a : _) (r : _) (s : _) → card-restore-reads.Learnt κs a r s → Restored old a.0.now a.1.0.now a.1.1.0.now r s.0.now s.1.0.now
  by-card-restore2 : (κs : _) (a : _) (r : _) (s : _) → card-restore2-reads.Learnt κs a r s → Restored new a.0.now a.1.0.now a.1.1.0.now r s.0.now s.1.0.now

pub read : {f : Form} {ns os octets : List ℕ} {answer : ℕ} {ns' os' : List ℕ} → Restored f ns os octets answer ns' os' → (answer ≡ (restore f octets (card_of ns os)).answer) × (card_of ns' os' ≡ (restore f octets (card_of ns os)).card)
read (by-restore κs a r s h) = h
read (by-card-restore κs a r s h) = h
read (by-card-restore2 κs a r s h) = h

-- ---- a move from one form to the other, of those octets; the length of the buffer, the answer, and the octets that were handed back

pub data Moving : Form → Form → List ℕ → ℕ → ℕ → List ℕ → Type 0 where
  by-newer : (κs : _) (a : _) (r : _) (s : _) → newer-reads.Learnt κs a r s → Moving old new a.0.now (length a.1.1.1.1.0.now) s.1.1.1.1.1.0.now r.now
  by-older : (κs : _) (a : _) (r : _) (s : _) → older-reads.Learnt κs a r s → Moving new old a.0.now (length a.1.1.1.1.0.now) s.1.1.1.1.1.0.now r.now
  by-move-core : (κs : _) (a : _) (r : _) (s : _) → move-core-reads.Learnt κs a r s → Moving (form_of a.1.0) (form_of (not a.1.0)) a.0.now (length a.1.1.1.1.1.0.now) s.1.1.1.1.1.1.0.now (take r s.1.1.1.1.1.0.now)
  by-card-newer : (κs : _) (a : _) (r : _) (s : _) → card-newer-reads.Learnt κs a r s → Moving old new a.0.now (length a.1.1.1.1.0.now) s.1.1.1.1.1.0.now (take r s.1.1.1.1.0.now)
  by-card-older : (κs : _) (a : _) (r : _) (s : _) → card-older-reads.Learnt κs a r s → Moving new old a.0.now (length a.1.1.1.1.0.now) s.1.1.1.1.1.0.now (take r s.1.1.1.1.0.now)

pub shifted : {f g : Form} {octets : List ℕ} {room answer : ℕ} {part : List ℕ} → Moving f g octets room answer part → Gives (move f g room octets) answer part
unfolding newer older
shifted (by-newer κs a r s h) = h.0
shifted (by-older κs a r s h) = h.0
shifted (by-move-core κs a r s h) = given _ _ _ _ _ h
shifted (by-card-newer κs a r s h) = given _ _ _ _ _ h
shifted (by-card-older κs a r s h) = given _ _ _ _ _ h

-- ---- lookups: the sixteen branch labels and the leaf mark that came back

-- by label
pub data LookedUp : List ℕ → ℕ → List ℕ → Bool → Type 0 where
  by-lookup-label : (κs : _) (a : _) (r : _) (s : _) → lookup-label-reads.Learnt κs a r s → LookedUp a.0.now a.1.0 r.branches r.leaf
  by-lookup-label-core : (κs : _) (a : _) (r : _) (s : _) → lookup-label-core-reads.Learnt κs a r s → LookedUp a.0.now a.1.0 s.1.1.0.now r
  by-card-lookup-label : (κs : _) (a : _) (r : _) (s : _) → card-lookup-label-reads.Learnt κs a r s → LookedUp a.0.now a.1.0 s.1.1.0.now r

pub looked-up : {ns : List ℕ} {l : ℕ} {branches : List ℕ} {leaf : Bool} → LookedUp ns l branches leaf → (any : List ℕ) → feed_in branches leaf ≡ lookup_label l (card_of ns any)
looked-up (by-lookup-label κs a r s h) = h
looked-up (by-lookup-label-core κs a r s h) = h
looked-up (by-card-lookup-label κs a r s h) = h

-- by name
pub data NameLookedUp : List ℕ → List ℕ → List ℕ → List ℕ → Bool → Type 0 where
  by-lookup-name : (κs : _) (a : _) (r : _) (s : _) → lookup-name-reads.Learnt κs a r s → NameLookedUp a.0.now a.1.0.now a.1.1.0.now r.branches r.leaf
  by-lookup-name-core : (κs : _) (a : _) (r : _) (s : _) → lookup-name-core-reads.Learnt κs a r s → NameLookedUp a.0.now a.1.0.now a.1.1.0.now s.1.1.1.0.now r
  by-card-lookup-name : (κs : _) (a : _) (r : _) (s : _) → card-lookup-name-reads.Learnt κs a r s → NameLookedUp a.0.now a.1.0.now a.1.1.0.now s.1.1.1.0.now r

pub name-looked-up : {ns os e : List ℕ} {branches : List ℕ} {leaf : Bool} → NameLookedUp ns os e branches leaf → feed_in branches leaf ≡ lookup_name e (card_of ns os)
name-looked-up (by-lookup-name κs a r s h) = h
name-looked-up (by-lookup-name-core κs a r s h) = h
name-looked-up (by-card-lookup-name κs a r s h) = h

-- the number of free labels
pub data Counted : List ℕ → ℕ → Type 0 where
  by-free-labels : (κs : _) (a : _) (r : _) (s : _) → free-labels-reads.Learnt κs a r s → Counted a.0.now r
  by-card-free-labels : (κs : _) (a : _) (r : _) (s : _) → card-free-labels-reads.Learnt κs a r s → Counted a.0.now r

pub counted : {ns : List ℕ} {n : ℕ} → Counted ns n → (any : List ℕ) → n ≡ free_labels (card_of ns any)
counted (by-free-labels κs a r s h) = h
counted (by-card-free-labels κs a r s h) = h
