-- What `proofs/LineProof` speaks of.
-- Assumes nothing.
use Rattle.std.specs.Prelude.{ℕ, ◌<◌, ◌≡◌}
use Rattle.meaning.specs.Card.{neighbour_count}
use Rattle.promise.specs.PromiseProof.{Upheld}
use Rattle.promise_line.specs.Line.{Box}
use Rattle.promise_line.specs.Life.{Life}
use Rattle.promise_line.specs.Sends.{is_up, is_down, kin, mine}
use Rattle.promise_line.specs.Steps.{from}

-- x uses the labels of y: every label is in one of the stages of its life
pub record Bound (x y : Box) : Type 0 where
  pub near : x.peer < neighbour_count
  pub user : Upheld x.past
  pub giver : Upheld y.past
  pub lives : (l : ℕ) → (l ≡ 0 → ⊥) → Life l y.peer (from x.peer x.past) x.refused (mine y.peer l y.past.live) (kin (is_up l) x.inbox) (kin (is_down l) y.inbox)
