-- Of which trees the messages under way are.
-- Assumes nothing.
use Prim.Native.Nat.{ℕ, zero, suc, ◌+◌}
use mathlib.Core.List.{List, [], ◌∷◌, ◌++◌}
use Rattle.std.specs.Prelude.{take, drop, length, eqb}
use Rattle.meaning.specs.Octets.{two_at}
use Rattle.meaning.specs.Lists.{by-test, picked}
use Rattle.meaning.specs.Wire.{Message, message_in, Sent, records_f, records_in}
use Rattle.promise.specs.Promise.{Step, answer_to, sends}
use Rattle.promise_line.specs.Line.{parcels_f, parcels, addressed, sent_by}
use Rattle.promise_net.specs.Net.{Far, nobody, box, Net, box_at, arriving}
use Rattle.promise_tick.specs.Tick.{EachName}
use Rattle.promise_tick.specs.Heard.{Calls, mute, asks, frees, quits}

unfoldable pub EachSent : (List ℕ → Type 0) → List Sent → Type 0
EachSent P [] = Unit {0}
EachSent P (m ∷ ms) = P m.message.name × EachSent P ms

module _ (P : List ℕ → Type 0) where
  pub sent-append : (ms ns : List Sent) → EachSent P ms → EachSent P ns → EachSent P (ms ++ ns)
  unfolding EachSent
  sent-append [] ns f g = g
  sent-append (m ∷ ms) ns f g = (f.0, sent-append ms ns f.1 g)

  pub names-append : (xs ys : List (List ℕ)) → EachName P xs → EachName P ys → EachName P (xs ++ ys)
  unfolding EachName
  names-append [] ys f g = g
  names-append (x ∷ xs) ys f g = (f.0, names-append xs ys f.1 g)

  names-parcels : (n f : ℕ) (s : List ℕ) → EachSent P (records_f f s) → EachName P (addressed n (parcels_f f s))
  unfolding EachName EachSent addressed parcels_f records_f
  names-parcels n zero s h = tt
  names-parcels n (suc f) s h =
      by-test (eqb (length s) 0)
      (λ e. rw e tt)
      (λ e. let g : P (message_in (take (4 + two_at s 6) (drop 4 s))).name × EachSent P (records_f f (drop (4 + two_at s 6) (drop 4 s))) = rw e at h in
      rw e (by-test (eqb (two_at s 2) n)
      (λ k. rw k (g.0, names-parcels n f (drop (4 + two_at s 6) (drop 4 s)) g.1))
      (λ k. rw k (names-parcels n f (drop (4 + two_at s 6) (drop 4 s)) g.1))))

  -- what arrives is of those trees that what was sent is of
  pub names-arriving : (w : Net) (i : ℕ) (s : Step) (f : Far) → EachSent P (sends (w.past i).card s) → EachName P (arriving w i s f)
  unfolding arriving
  names-arriving w i s nobody h = unfold EachName in tt
  names-arriving w i s (box j q) h =
      picked (EachName P) (eqb j i)
      (λ _. unfold sent_by box_at parcels in names-parcels q _ (answer_to (w.past i).card s).octets (unfold sends records_in in h))
      (λ _. unfold EachName in tt)

  -- a message makes a box speak of its own tree alone
  pub calls-names : (v n : ℕ) (m : Message) (ms : List Sent) → P m.name → Calls v n m ms → EachSent P ms
  unfolding EachSent
  calls-names v n m ms h mute = tt
  calls-names v n m ms h (asks l k) = (h, tt)
  calls-names v n m ms h (frees k) = (h, tt)
  calls-names v n m ms h (quits l k) = (h, (h, tt))
