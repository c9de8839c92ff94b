-- An order that writes records: where its HEX lies, and the reply as what tells of its call. Assumes nothing.
use Prim.Native.Nat.{ℕ, ◌≤◌}
use native.Mathlib.Omega.{arith}
use mathlib.Core.Path.{◌≡◌, refl, ap, ◌∙◌}
use mathlib.Core.List.{List, [], ◌∷◌}
use lib.ListN.{length, take}
use denote.Enum.Declared.{tag_of}
use types.Run.{OneOf, miss}
use Rattle.meaning.specs.Card.{Card}
use Rattle.meaning.specs.Calls.{Does}
use Rattle.meaning_laws.specs.Handed.{handed}
use Rattle.bench_words.specs.Words.{part, Lies, octets_of}
use Rattle.bench_words.specs.declared.Word.{Word}
use Rattle.bench_orders.specs.Tells.{meant, InLine}
use Rattle.bench_orders.specs.declared.Order.{Order}
use Rattle.bench_orders.specs.contracts.Order.{the_type}
use Rattle.bench_lines.specs.Text.{event_line, text_space}
use Rattle.bench_replies.specs.Kinds.{Kind, kind_of}
use Rattle.bench_replies.specs.Reply.{told, event_room, reply_to, Says}
use Rattle.bench_replies.proofs.Reply.{event-fits, notice-fits, says-told}
use Rattle.bench_answers.specs.Held.{no_hex, hex_in, held_in, no_call, call_of, word_of}

abbrev others : List ℕ
others = 0 ∷ 1 ∷ 2 ∷ 3 ∷ 8 ∷ 9 ∷ 10 ∷ 12 ∷ 13 ∷ 14 ∷ 15 ∷ 16 ∷ 17 ∷ 18 ∷ 19 ∷ 20 ∷ []

pub no-hex : (o : Order) → OneOf others (tag_of the_type o) → no_hex ≡ hex_in o
unfolding hex_in
no-hex Order.Blank h = refl
no-hex Order.Bad h = refl
no-hex (Order.Start n) h = refl
no-hex (Order.Room n) h = refl
no-hex (Order.Take n w) h = absurd (miss others _ tt h)
no-hex (Order.Join w) h = absurd (miss others _ tt h)
no-hex (Order.Leave w) h = absurd (miss others _ tt h)
no-hex (Order.Route w n) h = absurd (miss others _ tt h)
no-hex (Order.Label n) h = refl
no-hex (Order.Tree w) h = refl
no-hex Order.Free h = refl
no-hex (Order.Notice n k w) h = absurd (miss others _ tt h)
no-hex (Order.Save b) h = refl
no-hex (Order.Restore b w) h = refl
no-hex (Order.Lost n) h = refl
no-hex (Order.Move b w) h = refl
no-hex (Order.Layers w) h = refl
no-hex (Order.Wrap r d w) h = refl
no-hex (Order.Unwrap w) h = refl
no-hex (Order.Plan n w) h = refl
no-hex (Order.Vet n p w) h = refl

hex-lies : (l : List ℕ) (o : Order) → InLine l o → Lies l (hex_in o).start (hex_in o).end
unfolding hex_in no_hex
hex-lies l Order.Blank h = (omega arith, omega arith, omega arith)
hex-lies l Order.Bad h = (omega arith, omega arith, omega arith)
hex-lies l (Order.Start n) h = (omega arith, omega arith, omega arith)
hex-lies l (Order.Room n) h = (omega arith, omega arith, omega arith)
hex-lies l (Order.Take n w) h = h
hex-lies l (Order.Join w) h = h
hex-lies l (Order.Leave w) h = h
hex-lies l (Order.Route w n) h = h
hex-lies l (Order.Label n) h = (omega arith, omega arith, omega arith)
hex-lies l (Order.Tree w) h = (omega arith, omega arith, omega arith)
hex-lies l Order.Free h = (omega arith, omega arith, omega arith)
hex-lies l (Order.Notice n k w) h = h
hex-lies l (Order.Save b) h = (omega arith, omega arith, omega arith)
hex-lies l (Order.Restore b w) h = (omega arith, omega arith, omega arith)
hex-lies l (Order.Lost n) h = (omega arith, omega arith, omega arith)
hex-lies l (Order.Move b w) h = (omega arith, omega arith, omega arith)
hex-lies l (Order.Layers w) h = (omega arith, omega arith, omega arith)
hex-lies l (Order.Wrap r d w) h = (omega arith, omega arith, omega arith)
hex-lies l (Order.Unwrap w) h = (omega arith, omega arith, omega arith)
hex-lies l (Order.Plan n w) h = (omega arith, omega arith, omega arith)
hex-lies l (Order.Vet n p w) h = (omega arith, omega arith, omega arith)

pub word-lies : (l : List ℕ) (o : Order) (w : Word) → w ≡ hex_in o → InLine l o → Lies l w.start w.end
word-lies l o w e h = rw e (hex-lies l o h)

pub word_held : (l : List ℕ) (o : Order) (w : Word) (s : List ℕ) → w ≡ hex_in o → s ≡ octets_of (part w.start w.end l) → s ≡ held_in l o
unfolding held_in
word_held l o w s e h = h ∙ ap (λ (x : Word). octets_of (part x.start x.end l)) e

-- the reply to an order that writes records tells of its call
reply-called : (number room : ℕ) (c : Card) (l : List ℕ) (o : Order) → kind_of o ≡ Kind.records → reply_to number room c (meant l o) ≡ told (word_of o) (call_of (event_room room) c o (held_in l o)) room
unfolding reply_to meant word_of call_of held_in hex_in
reply-called number room c l Order.Blank w = cc
reply-called number room c l Order.Bad w = cc
reply-called number room c l (Order.Start n) w = cc
reply-called number room c l (Order.Room n) w = cc
reply-called number room c l (Order.Take n p) w = refl
reply-called number room c l (Order.Join p) w = refl
reply-called number room c l (Order.Leave p) w = refl
reply-called number room c l (Order.Route p n) w = refl
reply-called number room c l (Order.Label n) w = cc
reply-called number room c l (Order.Tree p) w = cc
reply-called number room c l Order.Free w = cc
reply-called number room c l (Order.Notice n k p) w = refl
reply-called number room c l (Order.Save b) w = cc
reply-called number room c l (Order.Restore b p) w = cc
reply-called number room c l (Order.Lost n) w = refl
reply-called number room c l (Order.Move b p) w = cc
reply-called number room c l (Order.Layers p) w = cc
reply-called number room c l (Order.Wrap r d p) w = cc
reply-called number room c l (Order.Unwrap p) w = cc
reply-called number room c l (Order.Plan n p) w = cc
reply-called number room c l (Order.Vet n q p) w = cc

pub says-called : (number room : ℕ) (c : Card) {d : Card} (l : List ℕ) (o : Order) {h a r n : ℕ} {s text before after : List ℕ} → kind_of o ≡ Kind.records → h ≡ event_room room → s ≡ held_in l o → Does (call_of h c o s) a n before after d → r ≤ text_space → take r text ≡ event_line (word_of o) a (take n after) → Says (reply_to number room c (meant l o)) r text d
says-called number room c l o {text = text} w eh es does short line =
    rw (reply-called number room c l o w)
    (says-told (λ m. call_of m c o (held_in l o)) (word_of o) text room _ eh (rw es at (handed _ _ _ _ _ _ does)) short line)

call_fits : (room : ℕ) (c : Card) (o : Order) (s : List ℕ) → length (call_of room c o s).octets ≤ room
unfolding call_of no_call
call_fits room c Order.Blank x = omega arith
call_fits room c Order.Bad x = omega arith
call_fits room c (Order.Start n) x = omega arith
call_fits room c (Order.Room n) x = omega arith
call_fits room c (Order.Take n w) x = event-fits room c _
call_fits room c (Order.Join w) x = event-fits room c _
call_fits room c (Order.Leave w) x = event-fits room c _
call_fits room c (Order.Route w n) x = event-fits room c _
call_fits room c (Order.Label n) x = omega arith
call_fits room c (Order.Tree w) x = omega arith
call_fits room c Order.Free x = omega arith
call_fits room c (Order.Notice n k w) x = notice-fits room c _ _ x
call_fits room c (Order.Save b) x = omega arith
call_fits room c (Order.Restore b w) x = omega arith
call_fits room c (Order.Lost n) x = event-fits room c _
call_fits room c (Order.Move b w) x = omega arith
call_fits room c (Order.Layers w) x = omega arith
call_fits room c (Order.Wrap r d w) x = omega arith
call_fits room c (Order.Unwrap w) x = omega arith
call_fits room c (Order.Plan n w) x = omega arith
call_fits room c (Order.Vet n p w) x = omega arith

-- so many octets were written, and no more than there was room for
pub called-fits : (room n : ℕ) {a : ℕ} (c : Card) {d : Card} (o : Order) (s : List ℕ) {before after : List ℕ} → Does (call_of room c o s) a n before after d → n ≤ room
called-fits room n c o s does = rw does.counts (call_fits room c o s)
