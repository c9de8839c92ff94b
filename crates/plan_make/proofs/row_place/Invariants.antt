use Prim.Native.Nat.{◌+◌}
use mathlib.Core.Path.{◌≡◌}
use lib.ListN.{drop}
use Rattle.meaning.specs.Octets.{place}
use Rattle.meaning_plan.specs.PlanOctets.{entries_in}
use Rattle.plan_make.specs.Rows.{is_after}
use Rattle.plan_make.proofs.row_place.Given as goal

abbrev pub invariant-loop-i : goal.invariant-loop-i
invariant-loop-i l = place (is_after l.root) (entries_in l.k l.rows) ≡ l.i + place (is_after l.root) (drop l.i (entries_in l.k l.rows))
