-- What a call takes from what is pending, and the text that it needs. Assumes nothing.
use Prim.Native.Nat.{ℕ, zero, suc, ◌+◌, ◌-◌, ◌*◌, ◌≤◌, ◌<◌}
use native.Mathlib.Omega.{arith}
use Rattle.std.proofs.Math.Path.{◌≡◌, refl, sym}
use Rattle.std.proofs.Common.{◌∙◌, length-drop, ne_eqb}
use Rattle.std.proofs.Math.Bool.{true, false, not}
use Rattle.std.specs.Prelude.{◌&&◌, ◌||◌, drop, eqb}
use mathlib.Core.List.{List, [], ◌∷◌}
use Rattle.std.proofs.Math.ListN.{length}
use Rattle.meaning.specs.Octets.{◌when◌else◌}
use Rattle.meaning.specs.Lists.{by-test, append-nil}
use Rattle.meaning.specs.Card.{Card}
use Rattle.meaning.specs.Events.{no_neighbour}
use Rattle.session.specs.Stream.{pdu_head, Look, wait, bad, head, message, look, Stream, stopped, reading, holds_message, Filled, fill, opened, filled, settled_by, settled, worked_by, worked, eaten_of, taken}
use Rattle.session.specs.StreamLaws.{Tells}
use Rattle.session.proofs.StreamLaws.{look-tells}
use Rattle.session.specs.Kept.{Quiet}
use Rattle.session.proofs.Kept.{quiet-taken, filled-eaten, taken-eaten, taken-one}
use Rattle.session.specs.Session.{message_room, stream_room, label, heeded, session_short, call_refusal, accepted, called_by, Called, called}
use Rattle.session.specs.Ends.{pending}
use Rattle.session.proofs.Ends.{taken-less, fill-count, quiet_none}
use Rattle.session_calls.proofs.Serving.{label-fits}
use Rattle.session_replies.specs.Turns.{identifier, call_room, called_box, is_last, call_space, octet_space}

-- ---- a message has four octets at least

-- no more is held than was held and eaten
filled-count : (id : List ℕ) (left : ℕ) (h o : List ℕ) → length (filled id left h o).held ≤ length h + (filled id left h o).eaten
unfolding filled opened
filled-count id left h o = by (look id left (fill left h 0 o).held)
  where
    first : Filled
    first = fill left h 0 o

    count : length first.held + 0 ≡ length h + first.eaten
    count = fill-count left h 0 o

    by : (l : Look) → length (opened l first o).held ≤ length h + (opened l first o).eaten
    by wait = omega (arith, count)
    by bad = omega (arith, count)
    by (message k) = omega (arith, count)
    by (head n) =
        let again = fill-count n (drop pdu_head first.held) first.eaten (drop first.eaten o) in
        omega (arith, count, again, length-drop pdu_head first.held)

-- the octets held, less a message
settled-four : (l : Look) (left e : ℕ) (h' h o : List ℕ) → e ≤ length o → length h' + 4 ≤ length h + e
    → pending (settled_by l left h') (drop (eaten_of (settled_by l left h') (length o) e) o) + 4 ≤ 2 * length o + length h + 1
unfolding settled_by pending eaten_of
settled-four wait left e h' h o p q = omega (arith, length-drop e o)
settled-four bad left e h' h o p q = omega (arith, length-drop (length o) o)
settled-four (head n) left e h' h o p q = omega (arith, length-drop e o)
settled-four (message k) left e h' h o p q = omega (arith, length-drop e o)

taken-four : (id : List ℕ) (s : Stream) (o m : List ℕ) (ms : List (List ℕ)) → (taken id s o).messages ≡ m ∷ ms
    → pending (taken id s o).stream (drop (taken id s o).eaten o) + 4 ≤ pending s o
unfolding taken worked worked_by settled pending Tells
taken-four id stopped o m ms e = let z : ◌≡◌ {A = ℕ} 0 1 = cc in absurd (omega arith)
taken-four id (reading left h) o m ms e = by (look id f.left f.held) refl e
  where
    f : Filled
    f = filled id left h o

    by : (l : Look) → look id f.left f.held ≡ l → (worked_by id l f.left f.held).messages ≡ m ∷ ms
        → pending (worked_by id l f.left f.held).stream (drop (eaten_of (worked_by id l f.left f.held).stream (length o) f.eaten) o) + 4 ≤ 2 * length o + length h + 1
    by wait g e = let z : ◌≡◌ {A = ℕ} 0 1 = cc in absurd (omega arith)
    by bad g e = let z : ◌≡◌ {A = ℕ} 0 1 = cc in absurd (omega arith)
    by (head n) g e = let z : ◌≡◌ {A = ℕ} 0 1 = cc in absurd (omega arith)
    by (message k) g e =
        let t : (4 ≤ k) × (k ≤ f.left) × (k ≤ length f.held) = rw g at (look-tells id f.left f.held) in
        let d = length-drop k f.held in
        let n = filled-count id left h o in
        settled-four (look id (f.left - k) (drop k f.held)) (f.left - k) f.eaten (drop k f.held) h o (filled-eaten id left h o) (omega arith)

-- ---- a call that is not the last

-- What a call leaves: the text of its records is no more than what was pending gives it, and where another call follows, that finds its text too.
pub record Leaves (k : Called) (s : Stream) (o : List ℕ) : Type 0 where
  pub within : k.eaten ≤ length o
  pub records : 2 * length k.octets ≤ octet_space * pending s o
  pub after : is_last k.answer (length (drop k.eaten o)) k.stream ≡ false
      → octet_space * pending k.stream (drop k.eaten o) + call_space + 2 * length k.octets ≤ octet_space * pending s o

module _ (id : List ℕ) (n : ℕ) (c : Card) (s : Stream) (o : List ℕ) where
  -- nothing offered to a stream at rest: no further call
  rests-last : length o ≡ 0 → Quiet id s → is_last (accepted label id n c s o).answer (length (drop (accepted label id n c s o).eaten o)) (accepted label id n c s o).stream ≡ true
  unfolding accepted heeded is_last
  rests-last e q = by o e
    where
      by : (o : List ℕ) → length o ≡ 0 → (eqb (heeded label n c (taken id s o).messages).answer 1 || (eqb (heeded label n c (taken id s o).messages).answer 20
          || (eqb (length (drop (taken id s o).eaten o)) 0 && not (holds_message (taken id s o).stream)))) ≡ true
      by [] e = rw (quiet-taken id s q) (rw (quiet_none id s q) refl)
      by (x ∷ o) e = absurd (omega arith)

  -- the records of one message are no more than the label part is lent
  records-few : (m : List ℕ) (ms : List (List ℕ)) → (taken id s o).messages ≡ m ∷ ms → length (accepted label id n c s o).octets ≤ message_room
  unfolding accepted heeded
  records-few m [] e = rw e (rw (append-nil (label c n m).octets) (label-fits c n m))
  records-few m (x ∷ ms) e = let l = taken-one id s o in let k : length (taken id s o).messages ≡ suc (suc (length ms)) = rw e refl in absurd (omega arith)

  records-none : (taken id s o).messages ≡ [] → length (accepted label id n c s o).octets ≡ 0
  unfolding accepted heeded
  records-none e = rw e refl

  leaves_none : (taken id s o).messages ≡ [] → Leaves (accepted label id n c s o) s o
  unfolding accepted
  leaves_none e =
      let w = records-none e in
      record {
        within = taken-eaten id s o;
        records = omega arith;
        after = λ last.
            let less = taken-less id s o [] (λ z q. let y : true ≡ false = sym (rests-last z q) ∙ last in let x : ◌≡◌ {A = ℕ} 0 1 = cc in omega arith) in
            let l : pending (taken id s o).stream (drop (taken id s o).eaten o) < pending s o = rw (append-nil (drop (taken id s o).eaten o), append-nil o) at less in
            omega arith;
      }

  leaves-message : (m : List ℕ) (ms : List (List ℕ)) → (taken id s o).messages ≡ m ∷ ms → Leaves (accepted label id n c s o) s o
  unfolding accepted
  leaves-message m ms e =
      let four = taken-four id s o m ms e in
      let w = records-few m ms e in
      record { within = taken-eaten id s o; records = omega arith; after = λ last. omega arith }

  accepted-leaves : Leaves (accepted label id n c s o) s o
  accepted-leaves = by (taken id s o).messages refl
    where
      by : (ms : List (List ℕ)) → (taken id s o).messages ≡ ms → Leaves (accepted label id n c s o) s o
      by [] e = leaves_none e
      by (m ∷ ms) e = leaves-message m ms e

  refused-last : (k : ℕ) → (eqb (suc k) 0 || (eqb (suc k) 1 || eqb (suc k) 20)) ≡ true → is_last (suc k) (length (drop 0 o)) s ≡ false → ⊥
  unfolding is_last
  refused-last k h last =
      by-test (eqb (suc k) 1)
      (λ e. let z : true ≡ false = rw e at last in let x : ◌≡◌ {A = ℕ} 0 1 = cc in omega arith)
      (λ e. by-test (eqb (suc k) 20)
      (λ g. let z : true ≡ false = rw (e, g) at last in let x : ◌≡◌ {A = ℕ} 0 1 = cc in omega arith)
      (λ g. let z : false ≡ true = rw (ne_eqb (suc k) 0 (λ q. omega arith), e, g) at h in let x : ◌≡◌ {A = ℕ} 0 1 = cc in omega arith))

  leaves_by : (f : ℕ) → (eqb f 0 || (eqb f 1 || eqb f 20)) ≡ true → Leaves (called_by f label id n c s o) s o
  unfolding called_by
  leaves_by zero h = accepted-leaves
  leaves_by (suc k) h = record { within = omega arith; records = omega arith; after = λ last. absurd (refused-last k h last) }

call-refused : (n room lent : ℕ) → (eqb (call_refusal n room lent) 0 || (eqb (call_refusal n room lent) 1 || eqb (call_refusal n room lent) 20)) ≡ true
unfolding call_refusal ◌when◌else◌
call-refused n room lent =
    by-test (no_neighbour n)
    (λ e. rw e refl)
    (λ e. by-test (session_short room lent) (λ g. rw (e, g) refl) (λ g. rw (e, g) refl))

pub called-leaves : (n room : ℕ) (c : Card) (s : Stream) (o : List ℕ) → Leaves (called_box n room c s o) s o
unfolding called
called-leaves n room c s o = leaves_by (identifier n) n c s o (call_refusal n (call_room room) stream_room) (call-refused n (call_room room) stream_room)
