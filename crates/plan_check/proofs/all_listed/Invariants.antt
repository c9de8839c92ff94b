use mathlib.Core.Path.{◌≡◌}
use lib.ListN.{drop}
use Rattle.meaning.specs.Octets.{all}
use Rattle.memory.specs.Memory.{card_of}
use Rattle.meaning_plan.specs.Plan.{listed_once}
use Rattle.meaning_plan.specs.PlanOctets.{list_in}
use Rattle.plan_check.proofs.all_listed.Given as goal

abbrev pub invariant-loop-i : goal.invariant-loop-i
invariant-loop-i l = all (listed_once l.n (list_in l.list)) (card_of l.numbers l.names).routes ≡ all (listed_once l.n (list_in l.list)) (drop l.i (card_of l.numbers l.names).routes)
