-- The state after a line, and while it goes on. Assumes nothing.
use Rattle.std.proofs.Common.{◌≡◌, ℕ, ◌<◌, List, [], ◌∷◌, ◌++◌, length, refl, ap, ◌∙◌, arith}
use borrow.Author.Tests.{lt-leb}
use Rattle.meaning.specs.Card.{Card}
use Rattle.bench_verbs.specs.Line.{Said, line_limit, order_of}
use Rattle.bench_replies.specs.Reply.{Reply, reply_to, Answers}
use Rattle.bench_input.specs.Kept.{Keeps}
use Rattle.bench_input.specs.Input.{Stand, next_number, ended, longer}
use Rattle.bench_input.proofs.Input.{keeps-none}
use Rattle.bench.specs.Input.{Seat, seat_after, Stands}

pub keeps-long : (b : List ℕ) (k : ℕ) (o : List ℕ) → length b < k → Keeps b k o → length b ≡ line_limit → order_of o ≡ Said.bad
unfolding order_of
keeps-long b k o h p e = rw (lt-leb (length o) line_limit (omega (arith, p.count)))

pub ended-stands : (s : Stand Seat) {number room n next r : ℕ} {card left : Card} {line text : List ℕ} {kept : ℕ} → Stands s number room card line kept → n ≡ next_number number → Answers (reply_to n room card (order_of s.octets)) r text left next → Stands (ended seat_after s) n next left line 0
unfolding ended seat_after
ended-stands s {number} {room} {n} {card = card} {line = line} h e a =
    let en : n ≡ next_number s.number = e ∙ ap next_number h.numbers in
    let same : reply_to n room card (order_of s.octets) ≡ reply_to (next_number s.number) s.state.room s.state.card (order_of s.octets) = rw (en, h.rooms, h.cards) refl in
    record {
      long = h.long;
      numbers = en;
      rooms = a.next ∙ ap (λ (x : Reply). x.room) same;
      cards = a.says.leaves ∙ ap (λ (x : Reply). x.card) same;
      keeps = keeps-none line;
    }

pub longer-stands : (s : Stand Seat) (c : ℕ) {number room : ℕ} {card : Card} {line more : List ℕ} {kept next : ℕ} → Stands s number room card line kept → length more ≡ length line → Keeps more next (s.octets ++ (c ∷ [])) → Stands (longer seat_after s c) number room card more next
unfolding longer
longer-stands s c h e k = record { long = e ∙ h.long; numbers = h.numbers; rooms = h.rooms; cards = h.cards; keeps = k }
