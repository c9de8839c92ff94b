-- What every call keeps: at most 4100 octets are held, and nothing that stops the stream is left standing.
-- Assumes nothing.
use Rattle.std.specs.Prelude.{ℕ, zero, suc, ◌+◌, ◌-◌, min, ◌≤◌, ◌<◌, ◌≡◌, refl, false, List, [], drop}
use Rattle.std.proofs.Common.{not-suc-le-zero, ◌∙◌, length-append, length-take}
use native.Mathlib.Omega.{arith}
use Rattle.std.proofs.Math.ListN.{length, length-drop}
use Rattle.std.proofs.Math.Seq.{take-nil}
use Rattle.meaning.specs.Lists.{append-nil}
use Rattle.session.specs.Session.{stream_room}
use Rattle.session.specs.Stream.{body_limit, pdu_head, Look, wait, bad, head, message, look_head, look_message, look, Stream, stopped, reading, empty, limit, is_message, holds_message, Filled, space, fill, opened, filled, settled_by, settled, worked_by, worked, eaten_of, taken, parsed_by, digest}
use Rattle.session.specs.StreamLaws.{Tells}
use Rattle.session.proofs.StreamLaws.{look-tells, parsed-look, fill-left}
use Rattle.session.specs.Kept.{Fits, Rests, Kept, held_in, Ready, Quiet}

pub kept-fits : (id : List ℕ) (s : Stream) → Kept id s → Fits s
unfolding Kept Fits
kept-fits id stopped g = tt
kept-fits id (reading left h) g = (g.0, g.1)

pub empty-kept : (id : List ℕ) → Kept id empty
unfolding Kept empty look look_head Rests
empty-kept id = (omega arith, omega arith, tt)

limit-least : (n : ℕ) → n ≤ limit n
unfolding limit
limit-least zero = omega arith
limit-least (suc n) = omega arith

pub limit-some : (n : ℕ) → 0 < n → limit n ≡ n
unfolding limit
limit-some zero h = absurd (not-suc-le-zero h)
limit-some (suc n) h = refl

pub limit-most : (n : ℕ) → n ≤ body_limit → limit n ≤ body_limit
unfolding limit
limit-most zero h = omega arith
limit-most (suc n) h = h

pub held-most : (s : Stream) → Fits s → length (held_in s) ≤ stream_room
unfolding Fits held_in
held-most stopped f = omega arith
held-most (reading left h) f = omega (arith, limit-most left f.0, f.1)

-- ---- a call keeps it

fill-fits : (left : ℕ) (h : List ℕ) (e : ℕ) (o : List ℕ) → length h ≤ limit left → length (fill left h e o).held ≤ limit left
unfolding fill space
fill-fits left h e o g = rw (length-append, length-take) (omega arith)

-- a message's place shows no PDU's head
not-head : (id : List ℕ) (left : ℕ) (s : List ℕ) → 0 < left → (n : ℕ) → look id left s ≡ head n → ⊥
unfolding Tells
not-head id left s p n e =
    let t : (left ≡ 0) × (pdu_head ≤ length s) × (8 ≤ n) × (n ≤ body_limit) = rw e at (look-tells id left s) in
    omega (arith, t.0)

filled-ready : (id : List ℕ) (left : ℕ) (h o : List ℕ) → left ≤ body_limit → length h ≤ limit left → Ready id (filled id left h o)
unfolding filled opened Ready Tells
filled-ready id left h o p q = by (look id left (fill left h 0 o).held) refl
  where
    first : Filled
    first = fill left h 0 o

    long : length first.held ≤ limit left
    long = fill-fits left h 0 o q

    same : first.left ≡ left
    same = fill-left left h 0 o

    by : (l : Look) → look id left first.held ≡ l → Ready id (opened l first o)
    by wait e = rw same (p, long, λ n g. let z : ◌≡◌ {A = ℕ} 0 1 = cc in omega arith)
    by bad e = rw same (p, long, λ n g. let z : ◌≡◌ {A = ℕ} 0 1 = cc in omega arith)
    by (message k) e = rw same (p, long, λ n g. let z : ◌≡◌ {A = ℕ} 0 1 = cc in omega arith)
    by (head n) e =
        let t : (left ≡ 0) × (pdu_head ≤ length first.held) × (8 ≤ n) × (n ≤ body_limit) = rw e at (look-tells id left first.held) in
        let ten : limit left ≡ pdu_head = rw t.0 (unfold limit in refl) in
        let none : length (drop pdu_head first.held) ≡ 0 = rw length-drop (omega (arith, long)) in
        let f : Filled = fill n (drop pdu_head first.held) first.eaten (drop first.eaten o) in
        let fl : f.left ≡ n = fill-left n (drop pdu_head first.held) first.eaten (drop first.eaten o) in
        rw fl (t.3, fill-fits n (drop pdu_head first.held) first.eaten (drop first.eaten o) (omega arith), not-head id n f.held (omega (arith, t.2)))

settled-kept : (id : List ℕ) (left : ℕ) (h : List ℕ) → left ≤ body_limit → length h ≤ left → Kept id (settled id left h)
unfolding settled settled_by Kept Rests Tells
settled-kept id left h p q = by (look id left h) refl
  where
    long : length h ≤ limit left
    long = omega (arith, limit-least left)

    by : (l : Look) → look id left h ≡ l → Kept id (settled_by l left h)
    by wait e = (p, long, rw e tt)
    by bad e = tt
    by (message k) e = (p, long, rw e tt)
    by (head n) e =
        let t : (left ≡ 0) × (pdu_head ≤ length h) × (8 ≤ n) × (n ≤ body_limit) = rw e at (look-tells id left h) in
        absurd (omega (arith, t.0, t.1))

worked_kept : (id : List ℕ) (left : ℕ) (h : List ℕ) → left ≤ body_limit → length h ≤ limit left → ((n : ℕ) → look id left h ≡ head n → ⊥) → Kept id (worked id left h).stream
unfolding worked worked_by Kept Rests Tells
worked_kept id left h p q r = by (look id left h) refl
  where
    by : (l : Look) → look id left h ≡ l → Kept id (worked_by id l left h).stream
    by wait e = (p, q, rw e tt)
    by bad e = tt
    by (head n) e = absurd (r n e)
    by (message k) e =
        let t : (4 ≤ k) × (k ≤ left) × (k ≤ length h) = rw e at (look-tells id left h) in
        let l = limit-some left (omega (arith, t.0, t.1)) in
        settled-kept id (left - k) (drop k h) (omega arith) (rw length-drop (omega arith))

pub taken-kept : (id : List ℕ) (s : Stream) (o : List ℕ) → Fits s → Kept id (taken id s o).stream
unfolding taken Fits Kept Ready
taken-kept id stopped o g = tt
taken-kept id (reading left h) o g =
    let r = filled-ready id left h o g.0 g.1 in
    let f = filled id left h o in
    worked_kept id f.left f.held r.0 r.1 r.2

-- ---- at most one message a call

pub taken-one : (id : List ℕ) (s : Stream) (o : List ℕ) → length (taken id s o).messages ≤ 1
unfolding taken worked
taken-one id stopped o = omega arith
taken-one id (reading left h) o = let f = filled id left h o in by f.left f.held (look id f.left f.held)
  where
    by : (left : ℕ) (h : List ℕ) (l : Look) → length (worked_by id l left h).messages ≤ 1
    by left h wait = unfold worked_by in omega arith
    by left h bad = unfold worked_by in omega arith
    by left h (head n) = unfold worked_by in omega arith
    by left h (message k) = unfold worked_by in omega arith

-- ---- no more is eaten than was offered

fill-eaten : (left : ℕ) (h : List ℕ) (e : ℕ) (o : List ℕ) → e ≤ length o → (fill left h e (drop e o)).eaten ≤ length o
unfolding fill
fill-eaten left h e o g = omega (arith, length-drop e o)

pub filled-eaten : (id : List ℕ) (left : ℕ) (h o : List ℕ) → (filled id left h o).eaten ≤ length o
unfolding filled opened
filled-eaten id left h o = by (look id left (fill left h 0 o).held)
  where
    first : Filled
    first = fill left h 0 o

    less : first.eaten ≤ length o
    less = fill-eaten left h 0 o (omega arith)

    by : (l : Look) → (opened l first o).eaten ≤ length o
    by wait = less
    by bad = less
    by (message k) = less
    by (head n) = fill-eaten n (drop pdu_head first.held) first.eaten o less

pub taken-eaten : (id : List ℕ) (s : Stream) (o : List ℕ) → (taken id s o).eaten ≤ length o
unfolding taken
taken-eaten id stopped o = omega arith
taken-eaten id (reading left h) o = let f = filled id left h o in by (worked id f.left f.held).stream f.eaten (filled-eaten id left h o)
  where
    by : (s : Stream) (e : ℕ) → e ≤ length o → eaten_of s (length o) e ≤ length o
    by stopped e g = unfold eaten_of in omega arith
    by (reading left h) e g = unfold eaten_of in g

-- of what a call leaves, that is: no whole message is held
pub kept-quiet : (id : List ℕ) (s : Stream) → Kept id s → holds_message s ≡ false → Quiet id s
unfolding Kept Quiet holds_message
kept-quiet id stopped g e = tt
kept-quiet id (reading left h) g e = by left h g.2 e
  where
    rests : (l : Look) → Rests l → is_message l ≡ false → l ≡ wait
    rests wait r e = refl
    rests bad r e = absurd (unfold Rests in r)
    rests (head n) r e = absurd (unfold Rests in r)
    rests (message k) r e = unfold is_message in cc

    none : (h : List ℕ) (l : Look) → Tells 0 h l → Rests l → l ≡ wait
    none h wait t r = refl
    none h bad t r = absurd (unfold Rests in r)
    none h (head n) t r = absurd (unfold Rests in r)
    none h (message k) t r = unfold Tells in absurd (omega arith)

    by : (left : ℕ) (h : List ℕ) → Rests (look id left h) → is_message (look_message left h) ≡ false → look id left h ≡ wait
    by zero h r e = none h (look id 0 h) (look-tells id 0 h) r
    by (suc n) h r e = unfold look in rests (look_message (suc n) h) r e

pub quiet-digest : (id : List ℕ) (s : Stream) → Quiet id s → digest id s [] ≡ record { messages = []; stream = s }
unfolding Quiet digest parsed_by
quiet-digest id stopped q = refl
quiet-digest id (reading left h) q = rw (append-nil h) (parsed-look id left h ∙ rw q refl)

pub quiet-taken : (id : List ℕ) (s : Stream) → Quiet id s → taken id s [] ≡ record { eaten = 0; messages = []; stream = s }
unfolding Quiet taken filled fill opened worked worked_by eaten_of
quiet-taken id stopped q = refl
quiet-taken id (reading left h) q = rw (take-nil, append-nil h) (rw q (rw q (let m : 0 + min (space left h) 0 ≡ 0 = omega arith in rw m refl)))
