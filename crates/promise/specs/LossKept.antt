-- What `proofs/LossKept` speaks of.
-- Assumes nothing.
use Prim.Native.Nat.{ℕ}
use Rattle.std.specs.Prelude.{◌≡◌, length}
use Rattle.std.proofs.Math.Bool.{false}
use mathlib.Core.List.{List}
use Rattle.meaning.specs.Card.{Card, use_of}
use Rattle.meaning.specs.Events.{is_of, parted, shed_from, swept_below}
use Rattle.promise.specs.Promise.{Step, history}

-- ---- no label is n's

unfoldable pub NoneOf : ℕ → Card → Type 0
NoneOf n c = (l : ℕ) → is_of n (use_of l c) ≡ false

-- the card after a loss that is taken
unfoldable pub after_loss : ℕ → List Step → ℕ → Card
after_loss base steps n = let c = (history base steps).card in swept_below (length c.trees) (shed_from (length c.trees) 0 (parted n c)).card
