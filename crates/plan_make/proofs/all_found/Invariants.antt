use mathlib.Core.Path.{◌≡◌}
use lib.ListN.{drop}
use Rattle.meaning.specs.Octets.{all}
use Rattle.meaning_plan.specs.Plan.{is_found}
use Rattle.meaning_plan.specs.PlanOctets.{list_in}
use Rattle.plan_make.proofs.all_found.Given as goal

abbrev pub invariant-loop-i : goal.invariant-loop-i
invariant-loop-i l = all is_found (list_in l.list) ≡ all is_found (drop l.i (list_in l.list))
