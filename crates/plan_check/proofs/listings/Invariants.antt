use Prim.Native.Nat.{◌+◌, ◌≤◌}
use mathlib.Core.Path.{◌≡◌}
use lib.ListN.{drop}
use Rattle.meaning.specs.Octets.{count}
use Rattle.meaning_plan.specs.Plan.{move_for}
use Rattle.meaning_plan.specs.PlanOctets.{list_in}
use Rattle.plan_check.proofs.listings.Given as goal

abbrev pub invariant-loop-i : goal.invariant-loop-i
invariant-loop-i l = (l.sum ≤ l.i) × (count (move_for l.root) (list_in l.list) ≡ l.sum + count (move_for l.root) (drop l.i (list_in l.list)))
