use mathlib.Core.Path.{◌≡◌}
use lib.ListN.{drop}
use Rattle.meaning_plan.specs.Plan.{is_below}
use Rattle.plan_make.proofs.is_below.Given as goal

abbrev pub invariant-loop-i : goal.invariant-loop-i
invariant-loop-i l = is_below l.a l.b ≡ is_below (drop l.i l.a) (drop l.i l.b)
