-- What a call of the card's code does: its answer, its output and the whole table, against the definitions.
-- Assumes nothing.
use Rattle.std.specs.Prelude.{ℕ, ◌≡◌, Bool, List, ◌++◌, drop, length}
use Rattle.std.proofs.Common.{sym, ◌∙◌}
use Rattle.meaning.specs.Card.{Card, Feed, branches_from}
use Rattle.meaning.specs.Events.{Out}

-- the caller's buffer with the records at its front: the rest keeps its bytes
unfoldable pub over : List ℕ → List ℕ → List ℕ
over written buffer = written ++ drop (length written) buffer

-- A call with the outcome o gave this answer, wrote so many octets, made `after` of the buffer `before`, and left this card.
pub record Does (o : Out) (answer count : ℕ) (before after : List ℕ) (card : Card) : Type 0 where
  pub answers : answer ≡ o.answer
  pub counts : count ≡ length o.octets
  pub writes : after ≡ over o.octets before
  pub leaves : card ≡ o.card

-- The same where the caller is handed a part of its buffer: the part is exactly the records.
pub record Hands (o : Out) (answer : ℕ) (part : List ℕ) (card : Card) : Type 0 where
  pub answers : answer ≡ o.answer
  pub hands : part ≡ o.octets
  pub leaves : card ≡ o.card

-- The answer of a lookup: sixteen branch labels, one for each neighbour and 0 for none, and the leaf mark. The branches stand by rising neighbour number.
abbrev pub feed_in : List ℕ → Bool → Feed
feed_in branches leaf = record { branches = branches_from 0 branches; leaf = leaf }

-- A statement `Does` admits one outcome: whatever two calls answer, write and leave is the same.
pub does-one : (o : Out) (a a' n n' : ℕ) (s x x' : List ℕ) (c c' : Card) → Does o a n s x c → Does o a' n' s x' c' → (a ≡ a') × (n ≡ n') × (x ≡ x') × (c ≡ c')
does-one o a a' n n' s x x' c c' p q = (p.answers ∙ sym q.answers, p.counts ∙ sym q.counts, p.writes ∙ sym q.writes, p.leaves ∙ sym q.leaves)

pub hands-one : (o : Out) (a a' : ℕ) (r r' : List ℕ) (c c' : Card) → Hands o a r c → Hands o a' r' c' → (a ≡ a') × (r ≡ r') × (c ≡ c')
hands-one o a a' r r' c c' p q = (p.answers ∙ sym q.answers, p.hands ∙ sym q.hands, p.leaves ∙ sym q.leaves)
