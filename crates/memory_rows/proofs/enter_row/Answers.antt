use native.Mathlib.Omega.{arith}
use lib.ListN.{length-set}
use Rattle.memory_rows.proofs.Rows.{enter-tree}
use Rattle.memory_rows.proofs.enter_row.Goals as goal

pub bounds-numbers-3 : goal.bounds-numbers-3
bounds-numbers-3 c = simp length-set (omega arith)

pub returns : goal.returns
returns c os qs name at_place =
    enter-tree _ _ os qs name _ c.requires.0 c.requires.1 c.requires.2 c.clear.ensures at_place
