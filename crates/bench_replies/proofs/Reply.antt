-- Laws by which what is written is the reply. Assumes nothing.
use Prim.Native.Nat.{ℕ, ◌-◌, ◌≤◌, min}
use native.Mathlib.Omega.{arith}
use mathlib.Core.Path.{◌≡◌, refl, ap, ◌∙◌}
use mathlib.Core.List.{List, [], ◌∷◌}
use lib.ListN.{length, take}
use borrow.Author.Tests.{ltb-false}
use denote.Enum.Declared.{tag_of}
use types.Run.{OneOf, miss}
use Rattle.meaning.specs.Lists.{by-test}
use Rattle.meaning.specs.Card.{Card, Feed, sent_limit}
use Rattle.meaning.specs.Events.{Out, refuse, accept, room_short, no_neighbour, Event, outcome, event}
use Rattle.meaning.specs.Notice.{notice_due, notice_record, notice}
use Rattle.meaning_save.specs.Save.{Form, new, saved, save, fits_save, save_limit}
use Rattle.meaning.specs.Calls.{Hands}
use Rattle.bench_words.specs.Words.{Puts}
use Rattle.bench_orders.specs.Tells.{meant, InLine}
use Rattle.bench_orders.specs.declared.Order.{Order}
use Rattle.bench_orders.specs.contracts.Order.{the_type}
use Rattle.bench_lines.specs.Text.{count_line, event_line, feed_line, text_space}
use Rattle.bench_replies.specs.Reply.{only, counted, told, shifted, event_room, reply_to, Says}
use Rattle.meaning_laws.specs.Refusals.{finish-fits}
use Rattle.bench_words.proofs.Words.{front-is}

-- ---- octets that are no longer than the room

pub event-fits : (room : ℕ) (c : Card) (e : Event) → length (event room c e).octets ≤ room
unfolding event
event-fits room c e = finish-fits room c (outcome c e)

pub notice-fits : (room : ℕ) (c : Card) (n number : ℕ) (s : List ℕ) → length (notice room c n number s).octets ≤ room
unfolding notice refuse accept room_short
notice-fits room c n number s =
    by-test (no_neighbour n)
    (λ e. rw e (omega arith))
    (λ e. by-test (notice_due number s)
    (λ d. by-test (room_short room (notice_record c.next n number s))
    (λ f. rw (e, d, f) (omega arith))
    (λ f. rw (e, d, f) (ltb-false room (length (notice_record c.next n number s)) f)))
    (λ d. rw (e, d) (omega arith)))

pub save-fits : (f : Form) (room : ℕ) (c : Card) → length (save f room c).octets ≤ room
unfolding save refuse room_short
save-fits f room c =
    by-test (fits_save f c)
    (λ s. by-test (room_short room (saved f c))
    (λ e. rw (s, e) (omega arith))
    (λ e. rw (s, e) (ltb-false room (length (saved f c)) e)))
    (λ s. rw s (omega arith))

-- of a part that a call handed back
pub part-fits : {o : Out} {a : ℕ} {part : List ℕ} {card : Card} (room most : ℕ) → Hands o a part card → length o.octets ≤ room → room ≤ most → length part ≤ most
part-fits room most h k l = rw h.hands (omega arith)

-- ---- what was front-is

-- ---- replies

pub says-told : (f : ℕ → Out) {l m : ℕ} {a : ℕ} {part : List ℕ} {card : Card} (word text : List ℕ) (room r : ℕ) → l ≡ m → Hands (f l) a part card → r ≤ text_space → take r text ≡ event_line word a part → Says (told word (f m) room) r text card
unfolding told
says-told f {a = a} {part} word text room r el h k e = record {
  short = k;
  line = let g = rw el at h in e ∙ rw (g.answers, g.hands) refl;
  leaves = rw (← el) h.leaves;
}

-- AN ORDER THAT WRITES RECORDS: HEX is front-is to the front of some space, a call f is lent as many octets of the output as the room says, and what it answers and hands back is told
module _ (f : ℕ → List ℕ → Out) (room : ℕ) {l whole n a : ℕ} {os before after part : List ℕ} {card : Card}
    (all : sent_limit ≡ whole) (lent : l ≡ min room whole) (p : Puts os before after n) (h : Hands (f l (take n after)) a part card) where
  pub record-fits : ((l : ℕ) (s : List ℕ) → length (f l s).octets ≤ l) → length part ≤ save_limit new
  record-fits fits = part-fits l (save_limit new) h (fits l _) (omega arith)

  pub says-record : (word text : List ℕ) (r : ℕ) → r ≤ text_space → take r text ≡ event_line word a part → Says (told word (f (event_room room) os) room) r text card
  says-record word text r k e = says-told (λ m. f m os) word text room r (omega arith) (rw (front-is p) at h) k e

pub says-counted : (o : Out) {a : ℕ} {card : Card} (word text : List ℕ) (room r : ℕ) → a ≡ o.answer → card ≡ o.card → r ≤ text_space → take r text ≡ count_line word a → Says (counted word o room) r text card
unfolding counted
says-counted o word text room r ea ec k e = record { short = k; line = e ∙ ap (count_line word) ea; leaves = ec }

pub says-only : (ys text : List ℕ) (c : Card) (room r : ℕ) → r ≤ text_space → take r text ≡ ys → Says (only ys c room) r text c
unfolding only
says-only ys text c room r k e = record { short = k; line = e; leaves = refl }

pub says-fed : {feed found : Feed} (word text : List ℕ) (c : Card) (room r : ℕ) → feed ≡ found → r ≤ text_space → take r text ≡ feed_line word feed → Says (only (feed_line word found) c room) r text c
says-fed word text c room r h k e = says-only _ text c room r k (e ∙ ap (feed_line word) h)

-- ---- an order, by its variant

pub lies : (l : List ℕ) (r o : Order) → InLine l r → r ≡ o → InLine l o
lies l r o h e = rw e at h

pub room-stays : (number room : ℕ) (c : Card) (l : List ℕ) (o : Order) → OneOf (0 ∷ 1 ∷ 2 ∷ 4 ∷ 5 ∷ 6 ∷ 7 ∷ 8 ∷ 9 ∷ 10 ∷ 11 ∷ 12 ∷ 13 ∷ 14 ∷ 15 ∷ 16 ∷ 17 ∷ 18 ∷ 19 ∷ 20 ∷ []) (tag_of the_type o) → room ≡ (reply_to number room c (meant l o)).room
unfolding meant reply_to only counted told shifted
room-stays number room c l Order.Blank h = refl
room-stays number room c l Order.Bad h = refl
room-stays number room c l (Order.Start n) h = refl
room-stays number room c l (Order.Room n) h = absurd (miss (0 ∷ 1 ∷ 2 ∷ 4 ∷ 5 ∷ 6 ∷ 7 ∷ 8 ∷ 9 ∷ 10 ∷ 11 ∷ 12 ∷ 13 ∷ 14 ∷ 15 ∷ 16 ∷ 17 ∷ 18 ∷ 19 ∷ 20 ∷ []) 3 tt h)
room-stays number room c l (Order.Take n w) h = refl
room-stays number room c l (Order.Join w) h = refl
room-stays number room c l (Order.Leave w) h = refl
room-stays number room c l (Order.Route w n) h = refl
room-stays number room c l (Order.Label n) h = refl
room-stays number room c l (Order.Tree w) h = refl
room-stays number room c l Order.Free h = refl
room-stays number room c l (Order.Notice n k w) h = refl
room-stays number room c l (Order.Save b) h = refl
room-stays number room c l (Order.Restore b w) h = refl
room-stays number room c l (Order.Lost n) h = refl
room-stays number room c l (Order.Move b w) h = refl
room-stays number room c l (Order.Layers w) h = refl
room-stays number room c l (Order.Wrap r d w) h = refl
room-stays number room c l (Order.Unwrap w) h = refl
room-stays number room c l (Order.Plan n w) h = refl
room-stays number room c l (Order.Vet n p w) h = refl
