use Prim.Native.Nat.{ℕ}
use mathlib.Core.List.{List}
use mathlib.Core.Path.{◌≡◌}
use lib.ListN.{length}
use Rattle.save_rows.proofs.Rows.{Branched}
use Rattle.save_rows.proofs.lay_branches.Given as goal

abbrev pub invariant-loop-n : goal.invariant-loop-n
invariant-loop-n l = (length l.numbers ≡ length l.initial.numbers) × ((os : List ℕ) → Branched l.initial.numbers os l.octets l.at l.i l.n l.numbers)
