-- A NOTICE TO A NEIGHBOUR begins no label's life and ends none, and is no message about one.
-- Assumes nothing.
use Rattle.std.specs.Prelude.{ℕ, ◌+◌, ◌*◌, ◌/◌, ◌%◌, ◌≡◌, refl, Bool, true, false, List, [], eqb}
use Rattle.meaning.specs.Octets.{pick, two, four, two_at}
use Rattle.meaning.specs.Lists.{picked}
use Rattle.meaning.specs.Wire.{Message, next_id, message_in, records_f, records_in}
use Rattle.meaning.specs.Card.{with_next, tree_of, tree_place}
use Rattle.meaning.specs.Events.{Out, refuse, accept, room_short, no_neighbour}
use Rattle.meaning.specs.Notice.{notice_due, notice_record, notice}
use Rattle.meaning_laws.specs.NoticeLaws.{spread, record-spread}
use Rattle.promise.specs.Promise.{note_sent, note_all, Past}
use Rattle.promise.specs.PromiseProof.{Upheld}
use Rattle.promise.specs.Deeds.{renumbered}
use Rattle.promise.proofs.Deeds.{renumbered-upheld}
use Rattle.promise_line.specs.Sends.{is_up, is_down, kin_to}

-- what a notice hands back: the table but for the next identifier, and octets in which a reader finds no message about a label
pub record Aside (p : Past) (o : Out) : Type 0 where
  pub live : note_all (records_in o.octets) p.live ≡ p.live
  pub ups : (l n : ℕ) → kin_to (is_up l) n (records_in o.octets) ≡ []
  pub downs : (l n : ℕ) → kin_to (is_down l) n (records_in o.octets) ≡ []
  pub trees : (a : List ℕ) → tree_of a o.card ≡ tree_of a p.card
  pub upheld : Upheld p → Upheld (record { card = o.card; live = p.live; accepted = p.accepted })

refuse-aside : (p : Past) (k : ℕ) → Aside p (refuse k p.card)
unfolding refuse records_in records_f note_all kin_to
refuse-aside p k = record { live = refl; ups = λ l n. refl; downs = λ l n. refl; trees = λ a. refl; upheld = λ u. u }

silent-aside : (p : Past) (id : ℕ) → Aside p (accept [] id p.card)
unfolding accept records_in records_f note_all kin_to
silent-aside p id = record { live = refl; ups = λ l n. refl; downs = λ l n. refl; trees = λ a. unfold tree_of tree_place with_next in refl; upheld = unfold renumbered in renumbered-upheld id p }

either-none : (b : Bool) → pick {X = List Message} b [] [] ≡ []
either-none true = refl
either-none false = refl

told-ups : (id to number : ℕ) (s : List ℕ) (l n : ℕ) → kin_to (is_up l) n (records_in (notice_record id to number s)) ≡ []
unfolding records_in records_f kin_to is_up message_in two_at spread two four
told-ups id to number s l n = rw (record-spread id to number s) (either-none (eqb (to / 256 % 256 * 256 + to % 256) n))

told-downs : (id to number : ℕ) (s : List ℕ) (l n : ℕ) → kin_to (is_down l) n (records_in (notice_record id to number s)) ≡ []
unfolding records_in records_f kin_to is_down message_in two_at spread two four
told-downs id to number s l n = rw (record-spread id to number s) (either-none (eqb (to / 256 % 256 * 256 + to % 256) n))

told-aside : (p : Past) (id next to number : ℕ) (s : List ℕ) → Aside p (accept (notice_record id to number s) next p.card)
unfolding accept
told-aside p id next to number s = record {
  live = unfold records_in records_f note_all note_sent message_in two_at spread two four in (rw (record-spread id to number s) refl);
  ups = told-ups id to number s;
  downs = told-downs id to number s;
  trees = λ a. unfold tree_of tree_place with_next in refl;
  upheld = unfold renumbered in renumbered-upheld next p;
}

pub notice-aside : (p : Past) (room n number : ℕ) (s : List ℕ) → Aside p (notice room p.card n number s)
unfolding notice
notice-aside p room n number s =
    picked (Aside p) (no_neighbour n) (λ _. refuse-aside p 1)
    (λ _. picked (Aside p) (notice_due number s) (λ _. picked (Aside p) (room_short room (notice_record p.card.next n number s)) (λ _. refuse-aside p 16) (λ _. told-aside p p.card.next (next_id p.card.next) n number s)) (λ _. silent-aside p p.card.next))
