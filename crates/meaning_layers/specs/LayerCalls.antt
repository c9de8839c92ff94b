-- What the calls on layers do, against the definitions: the answer, the caller's buffer, and the outer layer by two lengths in the caller's own name.
-- Assumes nothing.
use Rattle.std.specs.Prelude.{ℕ, zero, suc, ◌+◌, ◌≡◌, List, [], ◌∷◌, take, drop, get_or, length}
use Rattle.std.proofs.Common.{sym, ap, ◌∙◌}
use Rattle.std.proofs.Math.Seq.{take-append_seam}
use Rattle.meaning.specs.Calls.{over}
use Rattle.meaning_layers.specs.Layers.{inner_of, Layer}

-- the name so many layers down; 0 is the name itself
unfoldable pub below : ℕ → List ℕ → List ℕ
below zero e = e
below (suc i) e = below i (inner_of e)

-- A call that is to give this answer and these octets gave this answer, wrote so many octets, and made `after` of the buffer `before`.
pub record Writes (answer : ℕ) (octets : List ℕ) (gave count : ℕ) (before after : List ℕ) : Type 0 where
  pub answers : gave ≡ answer
  pub counts : count ≡ length octets
  pub writes : after ≡ over octets before

-- The same where the caller is handed a part of its buffer: the part is exactly the octets.
pub record HandsPart (answer : ℕ) (octets : List ℕ) (gave : ℕ) (part : List ℕ) : Type 0 where
  pub answers : gave ≡ answer
  pub hands : part ≡ octets

module _ (answer : ℕ) (octets : List ℕ) (gave count : ℕ) (before after : List ℕ) (w : Writes answer octets gave count before after) where
  front : take count after ≡ octets
  front = rw (w.counts, w.writes) (unfold over in take-append_seam octets (drop (length octets) before))

  pub handed : HandsPart answer octets gave (take count after)
  handed = record { answers = w.answers; hands = front }

  pub handed-count : count ≡ length (take count after)
  handed-count = w.counts ∙ ap length (sym front)

-- The outer root and any eight octets are parts of the caller's name: the root from its fourth octet on, and the eight octets behind it, its length field and the holder's head.
-- The two lengths say how much of each; both are 0 where the call is refused.
unfoldable pub layer_in : List ℕ → List ℕ → Layer
layer_in name lengths = record { root = take (get_or lengths 0 0) (drop 4 name); eight = take (get_or lengths 1 0) (drop (9 + get_or lengths 0 0) name) }

-- The lengths themselves: those of the layer that is given.
unfoldable pub lengths_of : Layer → List ℕ
lengths_of l = length l.root ∷ length l.eight ∷ []

-- ---- one outcome: whatever two calls answer, write and give is the same

pub writes_one : (a : ℕ) (o : List ℕ) (g g' n n' : ℕ) (s x x' : List ℕ) → Writes a o g n s x → Writes a o g' n' s x' → (g ≡ g') × (n ≡ n') × (x ≡ x')
writes_one a o g g' n n' s x x' p q = (p.answers ∙ sym q.answers, p.counts ∙ sym q.counts, p.writes ∙ sym q.writes)

pub hands-part-one : (a : ℕ) (o : List ℕ) (g g' : ℕ) (r r' : List ℕ) → HandsPart a o g r → HandsPart a o g' r' → (g ≡ g') × (r ≡ r')
hands-part-one a o g g' r r' p q = (p.answers ∙ sym q.answers, p.hands ∙ sym q.hands)
