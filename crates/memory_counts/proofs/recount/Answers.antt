use native.Mathlib.Omega.{arith}
use Rattle.memory.proofs.Memory.{routes-length}
use Rattle.memory_counts.proofs.Counting.{counted-there, counted-nowhere}
use Rattle.memory_counts.proofs.recount.Goals as goal

pub returns-then-k-route_count : goal.returns-then-k-route_count
returns-then-k-route_count c =
    λ os t s e x y x' y'.
    counted-there _ os t s _ _ _ _ _ _ _ _ _ _ (omega (arith, c.route_count.ensures.0)) e (c.standing.ensures.0 os) (c.lone.ensures.0 os) x y x' y' c.change-a.ensures.0 c.change-b.ensures.0 (c.set_counts.ensures os)

pub returns : goal.returns
returns c = λ os t s e x y x' y'. counted-nowhere t s _ _ e (rw routes-length (omega (arith, c.route_count.ensures.0)))
