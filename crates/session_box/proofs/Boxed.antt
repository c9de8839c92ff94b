-- What a line is answered with, and the state after a line and while it goes on. Assumes nothing.
use Rattle.std.proofs.Common.{◌≡◌, ℕ, ◌<◌, ◌≤◌, false, List, [], ◌∷◌, ◌++◌, length, take, sym, refl, ap, ◌∙◌, arith}
use Rattle.meaning.specs.Card.{Card}
use Rattle.session.specs.Stream.{Stream}
use Rattle.bench_words.specs.Words.{ascii}
use Rattle.bench_verbs.specs.Line.{Said, line_limit, order_of}
use Rattle.bench_verbs.specs.Limits.{order-long}
use Rattle.bench_lines.specs.Text.{count_line}
use Rattle.bench_replies.specs.Reply.{only, reply_to, Answers}
use Rattle.bench_input.specs.Kept.{Keeps}
use Rattle.bench_input.specs.Input.{Stand, next_number, ended, longer}
use Rattle.bench_input.proofs.Input.{keeps-none}
use Rattle.session_orders.specs.Told.{bench, told_of, stream_for}
use Rattle.session_orders.specs.Asks.{meant, Tells}
use Rattle.session_orders.specs.declared.Ask.{Ask}
use Rattle.session_orders.proofs.Asked.{long-told}
use Rattle.session_replies.specs.Turns.{turns_space}
use Rattle.session_replies.specs.Done.{done_by, Box, BoxReply, box_reply, BoxSays}
use Rattle.session_replies.specs.Four.{is_own, box_of, box_on}
use Rattle.session_replies.proofs.Obeying.{same-streams}
use Rattle.session_box.specs.Input.{box_left, Stands}

-- ---- an order

-- the reply is what the order makes of the box, on the stream that it is about
reply-on : (number : ℕ) (b : Box) (l : List ℕ) (a : Ask) → Tells l (told_of l) a → box_reply number b l ≡ box_on (stream_for (meant l a)) number b (meant l a)
unfolding box_reply box_on
reply-on number b l a t = let told : told_of l ≡ meant l a = sym t.means in rw told refl

bench-only : (a : Ask) → is_own a ≡ false → a ≡ Ask.Bench
unfolding is_own
bench-only Ask.Bench e = refl
bench-only (Ask.Octets n w) e = let z : ◌≡◌ {A = ℕ} 0 1 = cc in absurd (omega arith)
bench-only (Ask.Pack n w) e = let z : ◌≡◌ {A = ℕ} 0 1 = cc in absurd (omega arith)
bench-only (Ask.Lost n) e = let z : ◌≡◌ {A = ℕ} 0 1 = cc in absurd (omega arith)

module _ (number room : ℕ) (c : Card) (streams : List Stream) (l : List ℕ) (a : Ask) (t : Tells l (told_of l) a) where
  pub says-own : {r : ℕ} {text : List ℕ} {c' : Card} {streams' : List Stream}
      → BoxSays (box_on (stream_for (meant l a)) number (box_of room c streams) (meant l a)) r text c' room streams'
      → BoxSays (box_reply number (box_of room c streams) l) r text c' room streams'
  says-own h = rw (reply-on number (box_of room c streams) l a t) h

  pub says-bench : {r next : ℕ} {text : List ℕ} {c' : Card} → is_own a ≡ false → Answers (reply_to number room c (order_of l)) r text c' next
      → BoxSays (box_reply number (box_of room c streams) l) r text c' next streams
  unfolding meant stream_for box_on done_by
  says-bench {r} b h =
      let few : r ≤ turns_space = omega (arith, h.says.short) in
      rw (reply-on number (box_of room c streams) l a t, bench-only a b)
      (rw (← h.says.leaves, ← h.next) (same-streams room c streams (reply_to number room c (order_of l)).text few h.says.line))

-- ---- a line that is too long

pub says-bad : (number room : ℕ) (c : Card) (streams : List Stream) (o : List ℕ) {r : ℕ} {text : List ℕ}
    → line_limit < length o → r ≤ turns_space → take r text ≡ count_line (ascii "?") number
    → BoxSays (box_reply number (box_of room c streams) o) r text c room streams
unfolding box_reply stream_for done_by reply_to only
says-bad number room c streams o long short e =
    let told : told_of o ≡ bench Said.bad = rw (order-long o long) at (long-told o long) in
    rw told (same-streams room c streams (count_line (ascii "?") number) short e)

-- a line that has not found its place in a buffer for the longest
pub too_long : (b : List ℕ) (k : ℕ) (o : List ℕ) → length b < k → Keeps b k o → length b ≡ line_limit → line_limit < length o
too_long b k o h p e = omega (arith, p.count)

-- ---- the state

pub ended-stands : (s : Stand Box) {number n next r : ℕ} {box : Box} {c : Card} {streams : List Stream} {line text : List ℕ} {kept : ℕ} → Stands s number box line kept → n ≡ next_number number
    → BoxSays (box_reply n box s.octets) r text c next streams → Stands (ended box_left s) n (box_of next c streams) line 0
unfolding ended box_left
ended-stands s {number} {n} {box = box} {line = line} h e a =
    let en : n ≡ next_number s.number = e ∙ ap next_number h.numbers in
    let same : box_reply n box s.octets ≡ box_reply (next_number s.number) s.state s.octets = rw (en, h.boxes) refl in
    record {
      long = h.long;
      numbers = en;
      boxes = rw (a.leaves, a.next, a.all) (ap (λ (x : BoxReply). x.box) same);
      keeps = keeps-none line;
    }

pub longer-stands : (s : Stand Box) (c : ℕ) {number : ℕ} {box : Box} {line more : List ℕ} {kept next : ℕ} → Stands s number box line kept → length more ≡ length line
    → Keeps more next (s.octets ++ (c ∷ [])) → Stands (longer box_left s c) number box more next
unfolding longer
longer-stands s c h e k = record { long = e ∙ h.long; numbers = h.numbers; boxes = h.boxes; keeps = k }
