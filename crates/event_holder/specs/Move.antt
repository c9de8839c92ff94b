-- What the parts of an event do: messages sent and the card after them, as records written from a place of the output on. Assumes nothing.
use Rattle.std.specs.Prelude.{ℕ, ◌+◌, ◌*◌, ◌≡◌, List, length, eqb}
use Rattle.meaning.specs.Octets.{pick}
use Rattle.meaning.specs.Wire.{records, ids_after, record_size}
use Rattle.meaning.specs.Card.{Tree, Card, held_for}
use Rattle.meaning.specs.Events.{Moved, need_move, holder, of_root, sum_from}
use Rattle.octets.specs.Part.{mid}

-- The move m was made: its records, the first of them with identifier id, were written from place `at` on; the next one goes to `end` with identifier `next`.
pub record Wrote (m : Moved) (id at : ℕ) (before after : List ℕ) (card : Card) (end next : ℕ) : Type 0 where
  pub leaves : card ≡ m.card
  pub writes : after ≡ mid at (length (records id m.sent)) before (records id m.sent)
  pub ends : end ≡ at + length (records id m.sent)
  pub counts : next ≡ ids_after id m.sent

-- how many octets the records of a tree's move have
unfoldable pub move_size : Tree → ℕ → ℕ
move_size t u = (pick (eqb t.label 0) 0 1 + need_move u) * record_size t.name

unfoldable pub relabel_size : Card → Tree → ℕ → ℕ
relabel_size c t u = pick (eqb (held_for c t) u) 0 (move_size t u)

-- of one tree, if it is of the root, and of all
unfoldable pub size_one : List ℕ → ℕ → Tree → ℕ
size_one r u t = pick (of_root r t) (move_size t (holder u t)) 0

unfoldable pub size_all : List ℕ → ℕ → Card → ℕ
size_all r u c = sum_from (size_one r u) (length c.trees) 0 c
