-- How a call and an event of one tree end. Assumes nothing.
use Prim.Native.Nat.{ℕ, ◌+◌, ◌≤◌, ◌<◌}
use native.Mathlib.Omega.{arith}
use mathlib.Core.Path.{◌≡◌, refl, ap₂, ◌∙◌}
use mathlib.Core.Bool.{Bool}
use mathlib.Core.List.{List, []}
use lib.ListN.{length}
use borrow.Author.Tests.{le-ltb, lt-ltb}
use Rattle.meaning.specs.Octets.{pick, cut}
use Rattle.meaning.specs.Wire.{Sent, records, ids_after}
use Rattle.meaning.specs.Card.{Card, with_next, with_trees}
use Rattle.meaning.specs.Events.{refused, taken, refuse, accept, room_short, finish, Moved, followed_by}
use Rattle.meaning.specs.Calls.{over, Does}
use Rattle.event_holder.specs.Move.{Wrote}
use Rattle.event_move.proofs.Records.{wrote_then}
use Rattle.event_tree.specs.End.{Ended, then_cut}

-- ---- a call's end

pub does-refused : (c : Card) (n : ℕ) (s : List ℕ) → Does (finish (length s) c (refused n)) n 0 s s c
unfolding finish refuse over
does-refused c n s = record { answers = refl; counts = refl; writes = refl; leaves = refl }

pub does-short : (c d : Card) (ms : List Sent) (s : List ℕ) → length s < length (records c.next ms) → Does (finish (length s) c (taken ms d)) 16 0 s s c
unfolding finish room_short
does-short c d ms s h = rw (lt-ltb _ _ h) (unfold refuse over in record { answers = refl; counts = refl; writes = refl; leaves = refl })

pub does-taken : (c d : Card) (ms : List Sent) (s s' : List ℕ) (c' : Card) (end next : ℕ) → length (records c.next ms) ≤ length s
    → Wrote (record { sent = ms; card = d }) c.next 0 s s' c' end next → (e : Card) → e ≡ with_next next c' → Does (finish (length s) c (taken ms d)) 0 end s s' e
unfolding finish room_short
does-taken c d ms s s' c' end next h w e q =
    rw (le-ltb (length s) (length (records c.next ms)) h)
    (unfold accept over in record {
      answers = refl;
      counts = w.ends ∙ omega arith;
      writes = w.writes;
      leaves = q ∙ ap₂ with_next w.counts w.leaves;
    })

-- ---- an event's end

pub ended_is : (m : Moved) (id at : ℕ) (s s' : List ℕ) (c' : Card) (end next : ℕ) (e : Card) → Wrote m id at s s' c' end next → e ≡ with_next next c' → Ended m id at s s' e end
ended_is m id at s s' c' end next e w q = record { leaves = q ∙ ap₂ with_next w.counts w.leaves; writes = w.writes; ends = w.ends }

pub ended-cut : (empty : Bool) (i : ℕ) (m : Moved) (id at : ℕ) (s s' : List ℕ) (c' : Card) (end next : ℕ) (e : Card) → Wrote m id at s s' c' end next
    → e ≡ with_next next (pick empty (with_trees (cut c'.trees i) c') c') → Ended (then_cut empty i m) id at s s' e end
unfolding then_cut
ended-cut empty i m id at s s' c' end next e w q =
    record { leaves = q ∙ ap₂ (λ (n : ℕ) (d : Card). with_next n (pick empty (with_trees (cut d.trees i) d) d)) w.counts w.leaves; writes = w.writes; ends = w.ends }

-- what was written first, and then the end
pub ended-then : (m : Moved) (f : Card → Moved) (id at : ℕ) (s s₁ s₂ : List ℕ) (c₁ e : Card) (at₁ id₁ end : ℕ)
    → at + length (records id m.sent) ≤ length s
    → Wrote m id at s s₁ c₁ at₁ id₁ → Ended (f c₁) id₁ at₁ s₁ s₂ e end → Ended (followed_by m f) id at s s₂ e end
ended-then m f id at s s₁ s₂ c₁ e at₁ id₁ end fits p q =
    let w = wrote_then m f id at s s₁ s₂ c₁ (f c₁).card at₁ id₁ end (ids_after id₁ (f c₁).sent) fits p (record { leaves = refl; writes = q.writes; ends = q.ends; counts = refl }) in
    record { leaves = q.leaves ∙ ap₂ with_next w.counts w.leaves; writes = w.writes; ends = w.ends }

pub does-ended : (c d : Card) (ms : List Sent) (s s' : List ℕ) (e : Card) (end : ℕ) → length (records c.next ms) ≤ length s
    → Ended (record { sent = ms; card = d }) c.next 0 s s' e end → Does (finish (length s) c (taken ms d)) 0 end s s' e
unfolding finish room_short
does-ended c d ms s s' e end h w =
    rw (le-ltb (length s) (length (records c.next ms)) h)
    (unfold accept over in record { answers = refl; counts = w.ends ∙ omega arith; writes = w.writes; leaves = w.leaves })

pub no-records : (id : ℕ) → 0 ≡ length (records id [])
unfolding records
no-records id = refl
