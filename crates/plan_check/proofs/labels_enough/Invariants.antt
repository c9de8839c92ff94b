use Prim.Native.Nat.{◌+◌, ◌≤◌}
use mathlib.Core.Path.{◌≡◌}
use lib.ListN.{drop}
use Rattle.memory.specs.Memory.{card_of}
use Rattle.meaning_plan.specs.Plan.{need_list}
use Rattle.meaning_plan.specs.PlanOctets.{list_in}
use Rattle.plan_check.proofs.labels_enough.Given as goal

abbrev pub invariant-loop-i : goal.invariant-loop-i
invariant-loop-i l = (l.sum ≤ l.free) × (need_list (card_of l.numbers l.names) (list_in l.list) ≡ l.sum + need_list (card_of l.numbers l.names) (drop l.i (list_in l.list)))
