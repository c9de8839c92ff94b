-- Laws by which what is written and left is what is done. Assumes nothing.
use Prim.Native.Nat.{ℕ, ◌-◌, ◌*◌, ◌≤◌, ◌<◌, min}
use native.Mathlib.Omega.{arith}
use mathlib.Core.Path.{◌≡◌, refl, sym, ◌∙◌}
use mathlib.Core.Bool.{true, false}
use mathlib.Core.List.{List, [], ◌∷◌}
use lib.ListN.{length, take, set}
use lib.Seq.{set-get_or}
use lib.Dec.{ltb}
use borrow.Author.Tests.{ltb-false}
use denote.Enum.Declared.{tag_of}
use types.Run.{OneOf, miss}
use Rattle.meaning.specs.Octets.{◌when◌else◌}
use Rattle.meaning.specs.Lists.{by-test}
use Rattle.meaning.specs.Card.{Card}
use Rattle.meaning.specs.Events.{Out, event, lost, no_neighbour}
use Rattle.meaning_save.specs.Save.{new, save_limit}
use Rattle.meaning.specs.Calls.{Hands}
use Rattle.session.specs.Stream.{Stream, empty}
use Rattle.session.specs.Session.{after_loss}
use Rattle.session.specs.Lent.{stream_of}
use Rattle.session.specs.Pack.{messages_to, packed, pack_refusal, packed_by, pack}
use Rattle.bench_words.specs.Words.{ascii, part, octets_of, Puts, input_limit}
use Rattle.bench_words.specs.Scan.{text_of}
use Rattle.bench_words.specs.declared.Word.{Word}
use Rattle.bench_verbs.specs.Line.{Said}
use Rattle.bench_lines.specs.Text.{event_line, text_space}
use Rattle.bench_replies.specs.Reply.{event_room, reply_to, Says}
use Rattle.session_orders.specs.Told.{Told, stream_count, stream_for}
use Rattle.session_orders.specs.Asks.{meant, InLine}
use Rattle.session_orders.specs.declared.Ask.{Ask}
use Rattle.session_orders.specs.contracts.Ask.{the_type}
use Rattle.session_replies.specs.Turns.{turns, turns_space, TurnsSay}
use Rattle.session_replies.specs.Done.{pack_room, own, done_by, Box, stream_at, box_after, BoxSays}
use Rattle.session_replies.specs.Four.{is_own, lent_at, streams_of, box_of, box_on}
use Rattle.session_replies.proofs.Four.{four-at, four-numbers, four-both}
use Rattle.bench_words.proofs.Words.{front-is}

-- ---- octets, on the n-th stream

pub says-turns : (n neighbour room : ℕ) (c : Card) (ns bs : List (List ℕ)) (o s b : List ℕ) {text : List ℕ} {r : ℕ} {c' : Card} → n < stream_count → n < length ns → n < length bs
    → TurnsSay (turns neighbour room c (stream_of (lent_at ns n) (lent_at bs n)) o) r text c' (stream_of s b)
    → (number : ℕ) → BoxSays (box_on n number (box_of room c (streams_of ns bs)) (Told.octets neighbour o)) r text c' room (streams_of (set ns n s) (set bs n b))
unfolding box_on box_after stream_at done_by
says-turns n neighbour room c ns bs o s b h p q t number =
    rw (four-at ns bs n h)
    (record { short = t.short; line = t.line; leaves = t.leaves; next = refl; all = four-both ns bs s n h p b q ∙ rw t.streams refl })

-- ---- the writer

pub pack-fits : (id : List ℕ) (n room : ℕ) (records : List ℕ) → length (pack id n room records).octets ≤ room
unfolding pack packed_by pack_refusal ◌when◌else◌
pack-fits id n room records =
    by-test (no_neighbour n)
    (λ e. rw e (omega arith))
    (λ e. by-test (ltb room (length (packed id (messages_to n records))))
    (λ f. rw (e, f) (omega arith))
    (λ f. rw (e, f) (ltb-false room (length (packed id (messages_to n records))) f)))

-- what the writer was lent, and given, and what it handed back
module _ (n room : ℕ) {id os before after part : List ℕ} {l whole k a : ℕ} (all : 2 * input_limit ≡ whole) (lent : l ≡ min room whole) (given : Puts os before after k) (i : id ≡ own)
    (answers : a ≡ (pack id n l (take k after)).answer) (hands : part ≡ (pack id n l (take k after)).octets) where
  pub pack-short : length part ≤ save_limit new
  pack-short = let f = pack-fits id n l (take k after) in rw hands (omega arith)

  pub pack-told : (word : List ℕ) {line : List ℕ} → line ≡ event_line word a part → line ≡ event_line word (pack own n (pack_room room) os).answer (pack own n (pack_room room) os).octets
  pack-told word e =
      let r : l ≡ pack_room room = omega arith in
      let p : pack id n l (take k after) ≡ pack own n (pack_room room) os = rw (i, r, front-is given) refl in
      e ∙ rw (answers, hands, p) refl

-- ---- a loss

pub loss-left : (f : ℕ → Out) (s s' : Stream) {l m a : ℕ} {part : List ℕ} {card : Card} → l ≡ m → Hands (f l) a part card → s' ≡ after_loss a s → s' ≡ after_loss (f m).answer s
loss-left f s s' e h p = p ∙ rw (h.answers, e) refl

pub says-loss : (n room : ℕ) (c : Card) (ns bs : List (List ℕ)) (s : List ℕ) {text : List ℕ} {r : ℕ} {c' : Card} → n < stream_count → n < length ns
    → ((number : ℕ) → Says (reply_to number room c (Said.lost n)) r text c')
    → stream_of s (lent_at bs n) ≡ after_loss (event (event_room room) c (lost n)).answer (stream_of (lent_at ns n) (lent_at bs n))
    → (number : ℕ) → BoxSays (box_on n number (box_of room c (streams_of ns bs)) (Told.lost n)) r text c' room (streams_of (set ns n s) bs)
unfolding box_on box_after stream_at done_by
says-loss n room c ns bs s h p t l number =
    rw (four-at ns bs n h)
    (record { short = omega (arith, (t number).short); line = (t number).line; leaves = (t number).leaves; next = refl; all = four-numbers ns bs s n h p ∙ rw l refl })

-- ---- by the order

pub own-told : (a : Ask) → OneOf (1 ∷ 2 ∷ 3 ∷ []) (tag_of the_type a) → true ≡ is_own a
unfolding is_own
own-told Ask.Bench h = absurd (miss (1 ∷ 2 ∷ 3 ∷ []) 0 tt h)
own-told (Ask.Octets n w) h = refl
own-told (Ask.Pack n w) h = refl
own-told (Ask.Lost n) h = refl

pub own-none : (a : Ask) → a ≡ Ask.Bench → false ≡ is_own a
unfolding is_own
own-none a q = rw q refl

pub lies : (l : List ℕ) (r a : Ask) → InLine l r → r ≡ a → InLine l a
lies l r a h e = rw e at h

-- nothing is said of the bench's
pub bench-not : (l : List ℕ) (a : Ask) (b : Box) {r next : ℕ} {text : List ℕ} {c' : Card} {streams' : List Stream} → a ≡ Ask.Bench → is_own a ≡ true
    → (number : ℕ) → BoxSays (box_on (stream_for (meant l a)) number b (meant l a)) r text c' next streams'
bench-not l a b q t number = let e = own-none a q ∙ t in let z : ◌≡◌ {A = ℕ} 0 1 = cc in absurd (omega arith)

-- an order that is about no stream
pub same-streams : (room : ℕ) (c : Card) (streams : List Stream) (d : List ℕ) {r next : ℕ} {text : List ℕ} {c' : Card} → r ≤ turns_space → take r text ≡ d
    → BoxSays (box_after (record { text = d; card = c'; room = next; stream = stream_at (box_of room c streams) 0 }) 0 streams) r text c' next streams
unfolding box_after stream_at
same-streams room c streams d h e = record { short = h; line = e; leaves = refl; next = refl; all = sym (set-get_or streams 0 empty) }

module _ (room : ℕ) (c : Card) (streams : List Stream) (l : List ℕ) (a : Ask) where
  pub own-octets : (n : ℕ) (w : Word) {place r : ℕ} {text : List ℕ} {c' : Card} {streams' : List Stream} → a ≡ Ask.Octets n w → place ≡ stream_for (meant l (Ask.Octets n w))
      → ((number : ℕ) → BoxSays (box_on place number (box_of room c streams) (Told.octets n (octets_of (text_of w l)))) r text c' room streams')
      → (number : ℕ) → BoxSays (box_on (stream_for (meant l a)) number (box_of room c streams) (meant l a)) r text c' room streams'
  unfolding meant
  own-octets n w q p h number = rw (q, ← p) (h number)

  pub own-lost : (n : ℕ) {r : ℕ} {text : List ℕ} {c' : Card} {streams' : List Stream} → a ≡ Ask.Lost n
      → ((number : ℕ) → BoxSays (box_on n number (box_of room c streams) (Told.lost n)) r text c' room streams')
      → (number : ℕ) → BoxSays (box_on (stream_for (meant l a)) number (box_of room c streams) (meant l a)) r text c' room streams'
  unfolding meant stream_for
  own-lost n q h number = rw q (h number)

  pub own-pack : (n : ℕ) (w : Word) {r : ℕ} {text : List ℕ} → a ≡ Ask.Pack n w → r ≤ text_space
      → take r text ≡ event_line (ascii "pack") (pack own n (pack_room room) (octets_of (text_of w l))).answer (pack own n (pack_room room) (octets_of (text_of w l))).octets
      → (number : ℕ) → BoxSays (box_on (stream_for (meant l a)) number (box_of room c streams) (meant l a)) r text c room streams
  unfolding meant stream_for box_on done_by
  own-pack n w {r} q h g number =
      let few : r ≤ turns_space = omega (arith, h) in
      rw q (same-streams room c streams _ few g)
