-- The parts of a loss. Assumes nothing.
use Rattle.std.specs.Prelude.{ℕ, length}
use Rattle.meaning.specs.Card.{Card}
use Rattle.meaning.specs.Events.{Moved, sum_from, parted, shed_from, swept_below}
use Rattle.meaning_laws.specs.Losses.{loss_size}

-- all that is n's has gone, labels that lead nowhere are given up, empty trees have gone
unfoldable pub lost_to : Card → ℕ → Moved
lost_to c n =
    let m = shed_from (length c.trees) 0 (parted n c) in
    record { sent = m.sent; card = swept_below (length c.trees) m.card }

-- how many octets its records have
unfoldable pub loss_all : ℕ → Card → ℕ
loss_all n c = sum_from (loss_size n c) (length c.trees) 0 c
