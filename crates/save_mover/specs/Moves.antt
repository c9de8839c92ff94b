-- What a call that moves a save does: as `Does` and `Hands` of `meaning` say it of a card's calls, with no card.
-- Assumes nothing.
use Rattle.std.specs.Prelude.{ℕ, ◌≡◌, List, length}
use Rattle.std.proofs.Common.{sym, ◌∙◌}
use Rattle.meaning_save.specs.Save.{Moved}
use Rattle.meaning.specs.Calls.{over}

-- A call with the outcome m gave this answer, wrote so many octets, and made `after` of the buffer `before`.
pub record Moves (m : Moved) (answer count : ℕ) (before after : List ℕ) : Type 0 where
  pub answers : answer ≡ m.answer
  pub counts : count ≡ length m.octets
  pub writes : after ≡ over m.octets before

-- The same where the caller is handed a part of its buffer: the part is exactly the octets.
pub record Gives (m : Moved) (answer : ℕ) (part : List ℕ) : Type 0 where
  pub answers : answer ≡ m.answer
  pub hands : part ≡ m.octets

-- Either statement admits one outcome.
pub moves-one : (m : Moved) (a a' n n' : ℕ) (s x x' : List ℕ) → Moves m a n s x → Moves m a' n' s x' → (a ≡ a') × (n ≡ n') × (x ≡ x')
moves-one m a a' n n' s x x' p q = (p.answers ∙ sym q.answers, p.counts ∙ sym q.counts, p.writes ∙ sym q.writes)

pub gives_one : (m : Moved) (a a' : ℕ) (r r' : List ℕ) → Gives m a r → Gives m a' r' → (a ≡ a') × (r ≡ r')
gives_one m a a' r r' p q = (p.answers ∙ sym q.answers, p.hands ∙ sym q.hands)
