-- The whole call, from its parts: the refusals, what `offer` found, what the label part did with it, and what `work_off` left. Assumes nothing.
use Prim.Native.Nat.{ℕ, suc, ◌+◌, ◌-◌, ◌≤◌, ◌<◌}
use native.Mathlib.Omega.{arith}
use mathlib.Core.Path.{◌≡◌, refl, sym, ap, ◌∙◌}
use mathlib.Core.Bool.{true, false}
use mathlib.Core.List.{List, [], ◌++◌, append_assoc}
use lib.ListN.{length, take, drop, length-take, take-append-drop}
use lib.Seq.{drop-append-le, take-append_seam, take-take, length-take-le}
use borrow.Author.Tests.{lt-ltb, le-ltb}
use Rattle.meaning.specs.Octets.{◌when◌else◌}
use Rattle.meaning.specs.Card.{Card}
use Rattle.meaning.specs.Events.{no_neighbour, receive, outcome, event}
use Rattle.meaning.specs.Calls.{over, Does}
use Rattle.meaning.specs.Lists.{append-nil}
use Rattle.session.specs.Stream.{Stream, stopped, reading, limit, is_stopped, settled, eaten_of}
use Rattle.session.specs.Session.{message_room, stream_room, label, heeded, Called, session_short, call_refusal, accepted, called_by, called}
use Rattle.session.specs.Calls.{Serves, HandsOver}
use Rattle.session.specs.Lent.{left_in, place_in, count_in, stream_of}
use Rattle.session_streams.specs.Holds.{held_at}
use Rattle.session_offer.specs.Offers.{Found, FoundNone}
use Rattle.meaning_laws.specs.Refusals.{finish-fits}

-- ---- no event writes more than its room

pub label-fits : (c : Card) (n : ℕ) (m : List ℕ) → length (label c n m).octets ≤ message_room
unfolding label event
label-fits c n m = finish-fits message_room c (outcome c (receive n m))

-- records written into the output's first octets
over-front : (k : ℕ) (w out : List ℕ) → length w ≤ k → k ≤ length out → over w (take k out) ++ drop k out ≡ over w out
unfolding over
over-front k w out h g =
    append_assoc w (drop (length w) (take k out)) (drop k out)
    ∙ ap (λ (l : List ℕ). w ++ l) (sym (drop-append-le (length w) (take k out) (drop k out) (rw length-take (omega arith))) ∙ ap (drop (length w)) (take-append-drop k out))

over_none : (out : List ℕ) → out ≡ over [] out
unfolding over
over_none out = refl

-- the label part, lent the first 348 octets
pub front-does : (c : Card) (n : ℕ) (m : List ℕ) (answer count : ℕ) (out front : List ℕ) (d : Card) → message_room ≤ length out
    → Does (event (length (take message_room out)) c (receive n m)) answer count (take message_room out) front d → Does (label c n m) answer count out (front ++ drop message_room out) d
front-does c n m answer count out front d long does =
    let e : event (length (take message_room out)) c (receive n m) ≡ label c n m = rw (length-take-le message_room out long) (unfold label in refl) in
    let lent : Does (label c n m) answer count (take message_room out) front d = rw e at does in
    record {
      answers = lent.answers;
      counts = lent.counts;
      writes = rw lent.writes (over-front message_room (label c n m).octets out (label-fits c n m) long);
      leaves = lent.leaves;
    }

-- what is held ends within the buffer's first 4100 octets
pub message-ends : (ns : List ℕ) (left place k : ℕ) → left ≡ left_in ns → place + limit left ≤ stream_room → k ≤ count_in ns → place + k ≤ stream_room
message-ends ns left place k e p h =
    let c : count_in ns ≤ limit (left_in ns) = (unfold count_in in omega arith) in
    let z : limit left ≡ limit (left_in ns) = ap limit e in
    omega (arith, p, h)

-- the message is the first of the octets held
pub message-does : (c : Card) (n : ℕ) (ns b : List ℕ) (place k : ℕ) (answer count : ℕ) (out after : List ℕ) (d : Card) → place ≡ place_in ns → k ≤ count_in ns
    → Does (label c n (take (place + k - place) (drop place b))) answer count out after d → Does (label c n (take k (held_at ns b))) answer count out after d
message-does c n ns b place k answer count out after d p h does =
    let z : place + k - place ≡ k = omega arith in
    let e : take (place + k - place) (drop place b) ≡ take k (held_at ns b) = rw (z, p) (unfold held_at in sym (take-take k (count_in ns) (drop (place_in ns) b) h)) in
    rw e at does

-- ---- a call that 1 and 20 pass

module _ (id : List ℕ) (n : ℕ) (c : Card) (s : Stream) (o out : List ℕ) where
  -- no message was found
  pub serves-none : (eaten : ℕ) (ns buffer : List ℕ) → FoundNone id o s eaten ns buffer → Serves (accepted label id n c s o) 0 eaten 0 out out c (stream_of ns buffer)
  unfolding accepted heeded
  serves-none eaten ns buffer f = rw f.reads (record { answers = refl; eats = sym f.eats; counts = refl; writes = over_none out; leaves = refl; streams = sym f.leaves })

  -- a message was found, handed to the label part, and worked off
  pub serves-message : (eaten k : ℕ) (ns buffer : List ℕ) → Found id o s eaten k ns buffer
      → (answer count : ℕ) (after : List ℕ) (d : Card) → Does (label c n (take k (held_at ns buffer))) answer count out after d
      → (eaten' : ℕ) (s' : Stream) → s' ≡ settled id (left_in ns - k) (drop k (held_at ns buffer)) → eaten' ≡ eaten_of s' (length o) eaten
      → Serves (accepted label id n c s o) answer eaten' count out after d s'
  unfolding accepted heeded
  serves-message eaten k ns buffer f answer count after d does eaten' s' e g =
      let w : List ℕ = (label c n (take k (held_at ns buffer))).octets in
      rw f.reads
      (record {
        answers = does.answers;
        eats = rw (f.eats, ← e) g;
        counts = rw (append-nil w) does.counts;
        writes = rw (append-nil w) does.writes;
        leaves = does.leaves;
        streams = e ∙ sym f.leaves;
      })

-- how many octets were eaten, by whether the stream stops
pub eaten-stopped : (s : Stream) (all some : ℕ) → true ≡ is_stopped s → all ≡ eaten_of s all some
unfolding eaten_of is_stopped
eaten-stopped stopped all some e = refl
eaten-stopped (reading left held) all some e = let z : true ≡ false = e in cc

pub eaten-going : (s : Stream) (all some : ℕ) → false ≡ is_stopped s → some ≡ eaten_of s all some
unfolding eaten_of is_stopped
eaten-going stopped all some e = let z : false ≡ true = e in cc
eaten-going (reading left held) all some e = refl

-- ---- the refusals

module _ (id : List ℕ) (n room lent : ℕ) (c : Card) (s : Stream) (o out : List ℕ) where
  refusing : (k : ℕ) → call_refusal n room lent ≡ suc k → Serves (called label id n room lent c s o) (suc k) 0 0 out out c s
  unfolding called called_by
  refusing k e = rw e (record { answers = refl; eats = refl; counts = refl; writes = over_none out; leaves = refl; streams = refl })

  pub serves-far : 15 < n → Serves (called label id n room lent c s o) 1 0 0 out out c s
  serves-far h = refusing 0 (unfold call_refusal no_neighbour ◌when◌else◌ in rw (lt-ltb 15 n h) refl)

  pub serves-little : n ≤ 15 → room < message_room → Serves (called label id n room lent c s o) 20 0 0 out out c s
  serves-little p h = refusing 19 (unfold call_refusal no_neighbour session_short ◌when◌else◌ in rw (le-ltb 15 n p, lt-ltb room message_room h) refl)

  pub serves-short : n ≤ 15 → message_room ≤ room → lent < stream_room → Serves (called label id n room lent c s o) 20 0 0 out out c s
  serves-short p q h = refusing 19 (unfold call_refusal no_neighbour session_short ◌when◌else◌ in rw (le-ltb 15 n p, le-ltb room message_room q, lt-ltb lent stream_room h) refl)

  is-accepted : n ≤ 15 → message_room ≤ room → stream_room ≤ lent → called label id n room lent c s o ≡ accepted label id n c s o
  unfolding called called_by call_refusal no_neighbour session_short ◌when◌else◌
  is-accepted p q r = rw (le-ltb 15 n p, le-ltb room message_room q, le-ltb lent stream_room r) refl

  pub serves-accepted : n ≤ 15 → message_room ≤ room → stream_room ≤ lent → (a e k : ℕ) (after : List ℕ) (d : Card) (t : Stream)
      → Serves (accepted label id n c s o) a e k out after d t → Serves (called label id n room lent c s o) a e k out after d t
  serves-accepted p q r a e k after d t x = rw (is-accepted p q r) x

-- ---- the part that is handed back

module _ (k : Called) (a e n : ℕ) (b x : List ℕ) (c : Card) (s : Stream) (d : Serves k a e n b x c s) where
  pub handed-over : HandsOver k a e (take n x) c s
  handed-over = record { answers = d.answers; eats = d.eats; hands = front; leaves = d.leaves; streams = d.streams }
    where
      front : take n x ≡ k.octets
      front = rw (d.counts, d.writes) (unfold over in take-append_seam k.octets (drop (length k.octets) b))

  pub handed-over-count : n ≡ length (take n x)
  handed-over-count = d.counts ∙ ap length (sym handed-over.hands)
