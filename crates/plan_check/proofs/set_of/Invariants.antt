use mathlib.Core.Path.{◌≡◌}
use lib.ListN.{drop}
use Rattle.meaning_plan.specs.Plan.{set_of}
use Rattle.meaning_plan.specs.PlanOctets.{allowed_in}
use Rattle.plan_check.proofs.set_of.Given as goal

abbrev pub invariant-loop-i : goal.invariant-loop-i
invariant-loop-i l = set_of (allowed_in l.sets) l.root ≡ set_of (drop l.i (allowed_in l.sets)) l.root
