-- From a call that says what becomes of the whole buffer to one that hands back the part that holds the records.
-- Assumes nothing.
use Rattle.std.specs.Prelude.{ℕ, ◌≡◌, List, take, drop, length}
use Rattle.std.proofs.Common.{sym, ap, ◌∙◌}
use Rattle.std.proofs.Math.Seq.{take-append_seam}
use Rattle.meaning.specs.Card.{Card}
use Rattle.meaning.specs.Events.{Out}
use Rattle.meaning.specs.Calls.{over, Does, Hands}

module _ (o : Out) (a n : ℕ) (s s' : List ℕ) (c : Card) (d : Does o a n s s' c) where
  pub handed : Hands o a (take n s') c
  handed = record { answers = d.answers; hands = front; leaves = d.leaves }
    where
      front : take n s' ≡ o.octets
      front = rw (d.counts, d.writes) (unfold over in take-append_seam o.octets (drop (length o.octets) s))

  pub handed-count : n ≡ length (take n s')
  handed-count = d.counts ∙ ap length (sym handed.hands)
