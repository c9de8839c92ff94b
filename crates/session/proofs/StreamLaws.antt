-- Laws of the stream: what is shown stays shown when octets follow, the equations of `parsed`, and one call against the whole stream.
-- Assumes nothing.
use Rattle.std.specs.Prelude.{ℕ, zero, suc, ◌+◌, ◌-◌, min, ◌≤◌, ◌<◌, ◌≡◌, refl, Bool, true, false, not, ◌||◌, List, ◌++◌, take, drop, length, eqb, ltb}
use Rattle.std.proofs.Common.{not-suc-le-zero, arith, sym, ap, ◌∙◌, append_assoc, length-append, length-drop, take-append-drop, drop_of_length-le, drop-drop, ltb-true, ltb-false, le-ltb}
use Rattle.std.proofs.Math.ListN.{get_or-append}
use Rattle.std.proofs.lemmas.List.{take-append-le, drop-append-le}
use Rattle.std.proofs.Math.Seq.{drop-length}
use Rattle.meaning.specs.Octets.{two_at}
use Rattle.meaning.specs.Lists.{by-test, picked}
use Rattle.session.specs.Stream.{body_limit, least_length, most_length, pdu_head, Look, wait, bad, head, message, wrong_version, wrong_length, wrong_id, look_head, message_size, look_message, look, Stream, stopped, reading, limit, Filled, space, fill, opened, filled, settled_by, settled, worked_by, worked, eaten_of, taken, parsed_by, parsed_f, parsed, digest}
use Rattle.session.specs.StreamLaws.{Shown, Tells, and_then}

-- ---- what is shown stays shown

two-append : (s x : List ℕ) (i : ℕ) → i + 1 < length s → two_at (s ++ x) i ≡ two_at s i
unfolding two_at
two-append s x i h = rw (get_or-append s x 0 i (omega arith), get_or-append s x 0 (i + 1) h) refl

long-append : (s x : List ℕ) (k : ℕ) → k ≤ length s → ltb (length (s ++ x)) k ≡ false
long-append s x k h = le-ltb (length (s ++ x)) k (rw length-append (omega arith))

head-stays : (id s x : List ℕ) → Shown (look_head id s) → look_head id (s ++ x) ≡ look_head id s
unfolding look_head Shown wrong_version wrong_length wrong_id
head-stays id s x d =
    by-test (ltb (length s) 2)
    (λ e. absurd (rw e at d))
    (λ e. let l = ltb-false (length s) 2 e in
    rw (e, long-append s x 2 l, two-append s x 0 (omega arith))
    (by-test (not (eqb (two_at s 0) 1))
    (λ v. rw v refl)
    (λ v. rw v
    (by-test (ltb (length s) 4)
    (λ f. absurd (rw (e, v, f) at d))
    (λ f. let m = ltb-false (length s) 4 f in
    rw (f, long-append s x 4 m, two-append s x 2 (omega arith))
    (by-test (ltb (two_at s 2) least_length || ltb most_length (two_at s 2))
    (λ w. rw w refl)
    (λ w. rw w
    (by-test (ltb (length s) pdu_head)
    (λ g. absurd (rw (e, v, f, w, g) at d))
    (λ g. let n = ltb-false (length s) pdu_head g in
    rw (g, long-append s x pdu_head n, drop-append-le 4 s x (omega arith), take-append-le 6 (drop 4 s) x (rw length-drop (omega arith))) refl)))))))))

message-stays : (left : ℕ) (s x : List ℕ) → Shown (look_message left s) → look_message left (s ++ x) ≡ look_message left s
unfolding look_message Shown message_size
message-stays left s x d =
    by-test (ltb left 4)
    (λ e. rw e refl)
    (λ e. rw e
    (by-test (ltb (length s) 4)
    (λ f. absurd (rw (e, f) at d))
    (λ f. let m = ltb-false (length s) 4 f in
    rw (f, long-append s x 4 m, two-append s x 2 (omega arith))
    (by-test (ltb left (4 + two_at s 2))
    (λ w. rw w refl)
    (λ w. rw w
    (by-test (ltb (length s) (4 + two_at s 2))
    (λ g. absurd (rw (e, f, w, g) at d))
    (λ g. rw (g, long-append s x (4 + two_at s 2) (ltb-false (length s) (4 + two_at s 2) g)) refl)))))))

pub look-stays : (id : List ℕ) (left : ℕ) (s x : List ℕ) → Shown (look id left s) → look id left (s ++ x) ≡ look id left s
unfolding look
look-stays id zero s x d = head-stays id s x d
look-stays id (suc n) s x d = message-stays (suc n) s x d

or-false : (a b : Bool) → (a || b) ≡ false → (a ≡ false) × (b ≡ false)
or-false true true e = (e, e)
or-false true false e = (e, refl)
or-false false true e = (refl, e)
or-false false false e = (refl, refl)

head-tells : (id s : List ℕ) → Tells 0 s (look_head id s)
unfolding look_head Tells limit wrong_length
head-tells id s =
    picked (Tells 0 s) (ltb (length s) 2) (λ e. omega (arith, ltb-true (length s) 2 e))
    (λ _. picked (Tells 0 s) (wrong_version s) (λ _. tt)
    (λ _. picked (Tells 0 s) (ltb (length s) 4) (λ e. omega (arith, ltb-true (length s) 4 e))
    (λ _. picked (Tells 0 s) (wrong_length s) (λ _. tt)
    (λ w. picked (Tells 0 s) (ltb (length s) pdu_head) (λ e. ltb-true _ _ e)
    (λ e. picked (Tells 0 s) (wrong_id id s) (λ _. tt)
    (λ _. let o = or-false (ltb (two_at s 2) least_length) (ltb most_length (two_at s 2)) w in
    let low = ltb-false (two_at s 2) least_length o.0 in
    let high = ltb-false most_length (two_at s 2) o.1 in
    (refl, ltb-false _ _ e, omega arith, omega arith)))))))

message-tells : (n : ℕ) (s : List ℕ) → Tells (suc n) s (look_message (suc n) s)
unfolding look_message Tells limit message_size
message-tells n s =
    picked (Tells (suc n) s) (ltb (suc n) 4) (λ _. tt)
    (λ a. let four = ltb-false (suc n) 4 a in
    picked (Tells (suc n) s) (ltb (length s) 4) (λ e. omega (arith, ltb-true (length s) 4 e))
    (λ b. picked (Tells (suc n) s) (ltb (suc n) (message_size s)) (λ _. tt)
    (λ c. let fits = ltb-false (suc n) (4 + two_at s 2) c in
    picked (Tells (suc n) s) (ltb (length s) (message_size s)) (λ e. omega (arith, ltb-true (length s) (4 + two_at s 2) e))
    (λ e. (omega arith, fits, ltb-false (length s) (4 + two_at s 2) e)))))

pub look-tells : (id : List ℕ) (left : ℕ) (s : List ℕ) → Tells left s (look id left s)
unfolding look
look-tells id zero s = head-tells id s
look-tells id (suc n) s = message-tells n s

-- ---- the whole stream: any count above the length gives the same, so that the equations have none

shorter : (k : ℕ) (s : List ℕ) (f : ℕ) → 0 < k → k ≤ length s → length s < suc f → length (drop k s) < f
shorter k s f h a b = rw length-drop (omega arith)

parsed-same : (id : List ℕ) (f g left : ℕ) (s : List ℕ) → length s < f → length s < g → parsed_f id f left s ≡ parsed_f id g left s
unfolding parsed_f parsed_by Tells
parsed-same id zero g left s h k = absurd (not-suc-le-zero h)
parsed-same id (suc f) zero left s h k = absurd (not-suc-le-zero k)
parsed-same id (suc f) (suc g) left s h k = by (λ m t a b. parsed-same id f g m t a b) (look id left s) (look-tells id left s)
  where
    by : ((m : ℕ) (t : List ℕ) → length t < f → length t < g → parsed_f id f m t ≡ parsed_f id g m t)
        → (l : Look) → Tells left s l → parsed_by (parsed_f id f) left s l ≡ parsed_by (parsed_f id g) left s l
    by more wait e = refl
    by more bad e = refl
    by more (head n) e = more n (drop pdu_head s) (shorter pdu_head s f (omega arith) e.1 h) (shorter pdu_head s g (omega arith) e.1 k)
    by more (message n) e = rw (more (left - n) (drop n s) (shorter n s f (omega arith) e.2 h) (shorter n s g (omega arith) e.2 k)) refl

-- one look at the whole stream
pub parsed-look : (id : List ℕ) (left : ℕ) (s : List ℕ) → parsed id left s ≡ parsed_by (parsed id) left s (look id left s)
unfolding parsed parsed_f parsed_by Tells
parsed-look id left s = by (look id left s) (look-tells id left s)
  where
    by : (l : Look) → Tells left s l → parsed_by (parsed_f id (length s)) left s l ≡ parsed_by (parsed id) left s l
    by wait e = refl
    by bad e = refl
    by (head n) e = parsed-same id (length s) (suc (length (drop pdu_head s))) n (drop pdu_head s) (shorter pdu_head s (length s) (omega arith) e.1 (omega arith)) (omega arith)
    by (message n) e = rw (parsed-same id (length s) (suc (length (drop n s))) (left - n) (drop n s) (shorter n s (length s) (omega arith) e.2 (omega arith)) (omega arith)) refl

parsed-at : (id : List ℕ) (left : ℕ) (h x : List ℕ) (l : Look) → Shown l → look id left h ≡ l → parsed id left (h ++ x) ≡ parsed_by (parsed id) left (h ++ x) l
parsed-at id left h x l d e = parsed-look id left (h ++ x) ∙ ap (parsed_by (parsed id) left (h ++ x)) (look-stays id left h x (rw e d) ∙ e)

settled-law : (id : List ℕ) (left : ℕ) (h x : List ℕ) → digest id (settled id left h) x ≡ parsed id left (h ++ x)
unfolding settled settled_by digest parsed_by Shown
settled-law id left h x = by (look id left h) refl
  where
    by : (l : Look) → look id left h ≡ l → digest id (settled_by l left h) x ≡ parsed id left (h ++ x)
    by wait e = refl
    by bad e = sym (parsed-at id left h x bad tt e)
    by (head n) e = refl
    by (message k) e = refl

worked-law : (id : List ℕ) (left : ℕ) (h x : List ℕ) → parsed id left (h ++ x) ≡ and_then (worked id left h).messages (digest id (worked id left h).stream x)
unfolding worked worked_by digest parsed_by and_then Shown Tells
worked-law id left h x = by (look id left h) refl
  where
    by : (l : Look) → look id left h ≡ l → parsed id left (h ++ x) ≡ and_then (worked_by id l left h).messages (digest id (worked_by id l left h).stream x)
    by wait e = refl
    by bad e = parsed-at id left h x bad tt e
    by (head n) e = refl
    by (message k) e =
        let t : (4 ≤ k) × (k ≤ left) × (k ≤ length h) = rw e at (look-tells id left h) in
        parsed-at id left h x (message k) tt e
        ∙ rw (take-append-le k h x t.2, drop-append-le k h x t.2, settled-law id (left - k) (drop k h) x) refl

drop_min : (k : ℕ) (o : List ℕ) → drop (min k (length o)) o ≡ drop k o
drop_min k o =
    by-test (ltb k (length o))
    (λ e. let a = ltb-true k (length o) e in let m : min k (length o) ≡ k = omega arith in rw m refl)
    (λ e. let a = ltb-false k (length o) e in let m : min k (length o) ≡ length o = omega arith in
    rw m (drop-length o ∙ sym (drop_of_length-le o a)))

-- what is eaten goes from the front of the offered octets to the end of those held
fill-law : (left : ℕ) (h : List ℕ) (e : ℕ) (o z : List ℕ) → (fill left h e (drop e o)).held ++ (drop (fill left h e (drop e o)).eaten o ++ z) ≡ h ++ (drop e o ++ z)
unfolding fill
fill-law left h e o z =
    let k : ℕ = space left h in
    let r : List ℕ = drop e o in
    rw (← drop-drop (min k (length r)) e o, drop_min k r)
    (append_assoc h (take k r) (drop k r ++ z)
    ∙ ap (λ (l : List ℕ). h ++ l) (sym (append_assoc (take k r) (drop k r) z) ∙ ap (λ (l : List ℕ). l ++ z) (take-append-drop k r)))

pub fill-left : (left : ℕ) (h : List ℕ) (e : ℕ) (o : List ℕ) → (fill left h e o).left ≡ left
unfolding fill
fill-left left h e o = refl

filled-law : (id : List ℕ) (left : ℕ) (h o z : List ℕ) →
    parsed id left (h ++ (o ++ z)) ≡ parsed id (filled id left h o).left ((filled id left h o).held ++ (drop (filled id left h o).eaten o ++ z))
unfolding filled opened parsed_by Shown Tells
filled-law id left h o z = by (look id left (fill left h 0 o).held) refl
  where
    first : Filled
    first = fill left h 0 o

    begins : parsed id left (h ++ (o ++ z)) ≡ parsed id left (first.held ++ (drop first.eaten o ++ z))
    begins = ap (parsed id left) (sym (fill-law left h 0 o z))

    begun : parsed id left (h ++ (o ++ z)) ≡ parsed id first.left (first.held ++ (drop first.eaten o ++ z))
    begun = rw (fill-left left h 0 o) begins

    by : (l : Look) → look id left first.held ≡ l → parsed id left (h ++ (o ++ z)) ≡ parsed id (opened l first o).left ((opened l first o).held ++ (drop (opened l first o).eaten o ++ z))
    by wait e = begun
    by bad e = begun
    by (message k) e = begun
    by (head n) e =
        let t : (left ≡ 0) × (pdu_head ≤ length first.held) × (8 ≤ n) × (n ≤ body_limit) = rw e at (look-tells id left first.held) in
        let x : List ℕ = drop first.eaten o ++ z in
        rw (fill-left n (drop pdu_head first.held) first.eaten (drop first.eaten o))
        (begins
        ∙ parsed-at id left first.held x (head n) tt e
        ∙ ap (parsed id n) (drop-append-le pdu_head first.held x t.1 ∙ sym (fill-law n (drop pdu_head first.held) first.eaten o z)))

eaten-law : (id : List ℕ) (s : Stream) (all some : ℕ) (o z : List ℕ) → digest id s (drop some o ++ z) ≡ digest id s (drop (eaten_of s all some) o ++ z)
unfolding digest eaten_of
eaten-law id stopped all some o z = refl
eaten-law id (reading left h) all some o z = refl

-- A call reads the first of the messages, if any, and leaves the others to what follows.
pub taken-law : (id : List ℕ) (s : Stream) (o z : List ℕ) →
    digest id s (o ++ z) ≡ and_then (taken id s o).messages (digest id (taken id s o).stream (drop (taken id s o).eaten o ++ z))
unfolding taken digest and_then
taken-law id stopped o z = refl
taken-law id (reading left h) o z =
    let f = filled id left h o in
    let w = worked id f.left f.held in
    filled-law id left h o z
    ∙ worked-law id f.left f.held (drop f.eaten o ++ z)
    ∙ ap (and_then w.messages) (eaten-law id w.stream (length o) f.eaten o z)
