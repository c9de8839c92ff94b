-- DEMAND 3 WITH ALL THAT IS DONE WITH A CARD: events, notices to neighbours, saves, card swaps by either form, refused restores and new starts, in any order and number.
-- Assumes nothing.
use Rattle.std.specs.Prelude.{ℕ, ◌<◌, ◌≡◌, true, List, [], ◌∷◌}
use Rattle.std.proofs.Common.{arith}
use Rattle.std.proofs.Math.Path.{refl}
use Rattle.meaning.specs.Octets.{two, four, two_at}
use Rattle.meaning.specs.Wire.{next_id, message_in, records_f, records_in}
use Rattle.meaning.specs.Card.{Card, with_next, tree_of, tree_place, tree_at, use_of, held_for, free_labels, route_of, route_place}
use Rattle.meaning.specs.Events.{Out, refuse, accept, room_short, no_neighbour, holder_of}
use Rattle.meaning_save.specs.Save.{Form, saved, save, ruled, is_save, restore, fits_save}
use Rattle.meaning.specs.Notice.{notice_due, notice_record, notice}
use Rattle.meaning.specs.Lists.{picked}
use Rattle.meaning_laws.specs.Counts.{Counted, counted_same}
use Rattle.meaning_laws.specs.NoticeLaws.{spread, record-spread}
use Rattle.promise.specs.Promise.{Given, note_sent, note_all, Step, Past, then_step, begun, Promise}
use Rattle.promise.proofs.LabelLaws.{spent-eq}
use Rattle.promise.specs.PromiseProof.{Upheld}
use Rattle.promise.proofs.PromiseProof.{then-upheld, started, kept}
use Rattle.promise.specs.SaveSteps.{Writable}
use Rattle.promise.proofs.SaveSteps.{then-writable}
use Rattle.promise.specs.SaveKept.{carried}
use Rattle.promise.proofs.SaveKept.{start-writable, past-ruled, swapped_same, carried-upheld, carried-writable, either_way, moved-way}
use Rattle.promise.specs.Deeds.{Deed, does, tells, saves, swaps, moves, restores, starts, then_deed, then_deeds, IsClaimed, Claimed, renumbered}

-- ---- a notice

-- its record is neither a Mapping nor a Withdraw: no label's life begins with it, or ends
notice-mute : (id to number : ℕ) (s : List ℕ) (gs : List Given) → note_all (records_in (notice_record id to number s)) gs ≡ gs
unfolding records_in records_f note_all note_sent message_in two_at spread two four
notice-mute id to number s gs = rw (record-spread id to number s) refl

pub renumbered-upheld : (id : ℕ) (p : Past) → Upheld p → Upheld (renumbered id p)
unfolding renumbered with_next tree_of tree_place use_of free_labels
renumbered-upheld id p u = record {
  sound = record { tidy = u.sound.tidy; low = u.sound.low; high = u.sound.high; many = u.sound.many; linked = u.sound.linked; books = u.sound.books; sum = u.sound.sum; last = spent-eq p.card _ refl refl (λ e. e) u.sound.last };
  reads = u.reads;
  ruled = unfold tree_at held_for holder_of route_of route_place in record { roots = u.ruled.roots; full = u.ruled.full; held = u.ruled.held; trees = u.ruled.trees; routes = u.ruled.routes; counts = λ q. counted_same p.card _ refl refl q (u.ruled.counts q) };
  routed = λ q. unfold route_of route_place in u.routed q;
}

renumbered-writable : (id : ℕ) (p : Past) → id < 4294967296 → Writable p → Writable (renumbered id p)
unfolding renumbered with_next
renumbered-writable id p h w = record { next = h; routes = w.routes; passed = w.passed; told = w.told }

-- Whatever holds of a past, under any next identifier, holds after a notice.
module _ (P : Past → Type 0) (p : Past) (small : p.card.next < 4294967296) (stays : P p) (goes : (id : ℕ) → id < 4294967296 → P (renumbered id p)) (room n number : ℕ) (s : List ℕ) where
  abbrev after : Out → Type 0
  after o = P (record { card = o.card; live = note_all (records_in o.octets) p.live; accepted = p.accepted })

  unchanged : (k : ℕ) → after (refuse k p.card)
  unfolding refuse records_in records_f note_all
  unchanged k = stays

  spoken : after (accept (notice_record p.card.next n number s) (next_id p.card.next) p.card)
  unfolding accept renumbered next_id
  spoken = rw (notice-mute p.card.next n number s p.live) (goes (next_id p.card.next) (unfold next_id in omega arith))

  silent : after (accept [] p.card.next p.card)
  unfolding accept renumbered records_in records_f note_all
  silent = goes p.card.next small

  told : P (then_deed p (tells room n number s))
  unfolding then_deed notice
  told =
      picked after (no_neighbour n) (λ _. unchanged 1)
      (λ _. picked after (notice_due number s) (λ _. picked after (room_short room (notice_record p.card.next n number s)) (λ _. unchanged 16) (λ _. spoken)) (λ _. silent))

-- ---- a save, and a refused restore

save-same : (f : Form) (room : ℕ) (c : Card) → (save f room c).card ≡ c
unfolding save refuse
save-same f room c =
    picked (λ (o : Out). o.card ≡ c) (fits_save f c) (λ _. picked (λ (o : Out). o.card ≡ c) (room_short room (saved f c)) (λ _. refl) (λ _. refl)) (λ _. refl)

restore_same : (f : Form) (o : List ℕ) (c : Card) → ((restore f o c).answer ≡ 0 → ⊥) → (restore f o c).card ≡ c
unfolding restore refuse
restore_same f o c = picked (λ (x : Out). (x.answer ≡ 0 → ⊥) → x.card ≡ c) (is_save f o) (λ _ n. absurd (n refl)) (λ _ _. refl)

-- ---- any deed, and any number of them

module _ (P : Past → Type 0) (p : Past) (h : P p) (small : p.card.next < 4294967296) (u : (f : Form) → ruled f p.card ≡ true)
    (step : (s : Step) → P (then_step p s)) (new : (base : ℕ) → P (begun base)) (carries : (f : Form) → P (carried f p)) (twice : (f g : Form) → P (carried g (carried f p))) (goes : (id : ℕ) → id < 4294967296 → P (renumbered id p)) where
  deed-keeps : (d : Deed) → IsClaimed p d → P (then_deed p d)
  unfolding then_deed IsClaimed
  deed-keeps (does s) k = step s
  deed-keeps (tells room n number s) k = unfold then_deed in told P p small h goes room n number s
  deed-keeps (saves f room) k = rw (save-same f room p.card) h
  deed-keeps (swaps f d) k = rw (swapped_same f p (u f) d) (either_way P f p h (carries f))
  deed-keeps (moves f g room d) k = moved-way P f g room p (u f) h (twice f g) d
  deed-keeps (restores f o) k = rw (restore_same f o p.card k) h
  deed-keeps (starts base) k = new base

pub deed-upheld : (p : Past) (d : Deed) → Upheld p → Writable p → IsClaimed p d → Upheld (then_deed p d)
deed-upheld p d u w = deed-keeps Upheld p u w.next (past-ruled p u w) (λ s. then-upheld p s u) started (λ f. carried-upheld f p u) (λ f g. carried-upheld g (carried f p) (carried-upheld f p u)) (λ id _. renumbered-upheld id p u) d

pub deed-writable : (p : Past) (d : Deed) → Upheld p → Writable p → IsClaimed p d → Writable (then_deed p d)
deed-writable p d u w = deed-keeps Writable p w w.next (past-ruled p u w) (λ s. then-writable p s u w) start-writable (λ f. carried-writable f p w) (λ f g. carried-writable g (carried f p) (carried-writable f p w)) (λ id h. renumbered-writable id p h w) d

deeds-upheld : (p : Past) (ds : List Deed) → Upheld p → Writable p → Claimed p ds → Upheld (then_deeds p ds)
unfolding then_deeds Claimed
deeds-upheld p [] u w k = u
deeds-upheld p (d ∷ ds) u w k = deeds-upheld (then_deed p d) ds (deed-upheld p d u w k.0) (deed-writable p d u w k.0) k.1

-- DEMAND 3, after all that is done with a card that was started.
pub deeds-kept : (base : ℕ) (ds : List Deed) → Claimed (begun base) ds → Promise (then_deeds (begun base) ds)
deeds-kept base ds k = kept _ (deeds-upheld _ ds (started base) (start-writable base) k)

-- And the counts of every root are true, swaps included.
pub deeds-counted : (base : ℕ) (ds : List Deed) → Claimed (begun base) ds → (r : List ℕ) → Counted r (then_deeds (begun base) ds).card
deeds-counted base ds k r = (deeds-upheld _ ds (started base) (start-writable base) k).ruled.counts r
