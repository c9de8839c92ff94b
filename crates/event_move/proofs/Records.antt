-- Records one after the other, and moves that write them. Assumes nothing.
use Prim.Native.Nat.{ℕ, ◌+◌, ◌≤◌}
use native.Mathlib.Omega.{arith}
use mathlib.Core.Path.{◌≡◌, refl, sym, ap, ap₂, ◌∙◌}
use mathlib.Core.List.{List, [], ◌∷◌, ◌++◌, append_assoc}
use lib.ListN.{length, length-append}
use Rattle.meaning.specs.Lists.{append-nil}
use Rattle.meaning.specs.Wire.{Sent, record_of, next_id, records, ids_after, record_size}
use Rattle.meaning.specs.Card.{Card}
use Rattle.meaning.specs.Events.{Moved, still, followed_by}
use Rattle.octets.specs.Part.{mid}
use Rattle.octets.proofs.Parts.{mid-mid, mid_none}
use Rattle.event_holder.specs.Move.{Wrote}
use Rattle.meaning_laws.specs.Losses.{record-size}

-- ---- records one after the other

pub records-append : (id : ℕ) (ms ns : List Sent) → records id (ms ++ ns) ≡ records id ms ++ records (ids_after id ms) ns
unfolding records ids_after
records-append id [] ns = refl
records-append id (m ∷ ms) ns = ap (λ (l : List ℕ). record_of id m ++ l) (records-append (next_id id) ms ns) ∙ sym (append_assoc (record_of id m) (records (next_id id) ms) (records (ids_after (next_id id) ms) ns))

pub ids-append : (id : ℕ) (ms ns : List Sent) → ids_after id (ms ++ ns) ≡ ids_after (ids_after id ms) ns
unfolding ids_after
ids-append id [] ns = refl
ids-append id (m ∷ ms) ns = ids-append (next_id id) ms ns

pub records-one : (id : ℕ) (m : Sent) → records id (m ∷ []) ≡ record_of id m
unfolding records
records-one id m = append-nil (record_of id m)

-- nothing was written
pub wrote_nothing : (c : Card) (id at : ℕ) (s : List ℕ) → Wrote (still c) id at s s c at id
unfolding still records ids_after
wrote_nothing c id at s = record { leaves = refl; writes = mid_none at s; ends = omega arith; counts = refl }

-- one record was written
pub wrote_one : (m : Sent) (c : Card) (id at next : ℕ) (s s' : List ℕ) (c' : Card) → c' ≡ c
    → s' ≡ mid at (record_size m.message.name) s (record_of id m) → next ≡ next_id id
    → Wrote (record { sent = m ∷ []; card = c }) id at s s' c' (at + record_size m.message.name) next
unfolding ids_after
wrote_one m c id at next s s' c' ec es en =
    let one = records-one id m in
    let size = record-size id m in
    record { leaves = ec; writes = rw (one, size) es; ends = rw (one, size) refl; counts = en }

pub then-length : (m : Moved) (f : Card → Moved) (id : ℕ) → length (records id (followed_by m f).sent) ≡ length (records id m.sent) + length (records (ids_after id m.sent) (f m.card).sent)
unfolding followed_by
then-length m f id = ap length (records-append id m.sent (f m.card).sent) ∙ length-append (records id m.sent) _

-- one move after the other
pub wrote_then : (m : Moved) (f : Card → Moved) (id at : ℕ) (s s₁ s₂ : List ℕ) (c₁ c₂ : Card) (at₁ id₁ at₂ id₂ : ℕ)
    → at + length (records id m.sent) ≤ length s
    → Wrote m id at s s₁ c₁ at₁ id₁ → Wrote (f c₁) id₁ at₁ s₁ s₂ c₂ at₂ id₂ → Wrote (followed_by m f) id at s s₂ c₂ at₂ id₂
unfolding followed_by
wrote_then m f id at s s₁ s₂ c₁ c₂ at₁ id₁ at₂ id₂ fits p q =
    let first : List ℕ = records id m.sent in
    let second : List ℕ = records id₁ (f c₁).sent in
    let all : records id (m.sent ++ (f m.card).sent) ≡ first ++ second =
    records-append id m.sent (f m.card).sent ∙ ap₂ (λ (i : ℕ) (c : Card). records id m.sent ++ records i (f c).sent) (sym p.counts) (sym p.leaves) in
    let long : length (first ++ second) ≡ length first + length second = length-append first second in
    record {
      leaves = q.leaves ∙ ap (λ (c : Card). (f c).card) p.leaves;
      writes = rw all (q.writes ∙ ap₂ (λ (a : ℕ) (l : List ℕ). mid a (length second) l second) p.ends p.writes
          ∙ mid-mid at (length first) (length second) (at + length first) (length (first ++ second)) s first second fits refl refl long);
      ends = rw all (q.ends ∙ rw (p.ends, long) (omega arith));
      counts = q.counts ∙ ap₂ (λ (i : ℕ) (c : Card). ids_after i (f c).sent) p.counts p.leaves ∙ sym (ids-append id m.sent (f m.card).sent);
    }
