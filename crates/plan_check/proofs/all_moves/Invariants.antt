use mathlib.Core.Path.{◌≡◌}
use lib.ListN.{drop}
use Rattle.meaning.specs.Octets.{all}
use Rattle.memory.specs.Memory.{card_of}
use Rattle.meaning_plan.specs.Plan.{is_move}
use Rattle.meaning_plan.specs.PlanOctets.{allowed_in, list_in}
use Rattle.plan_check.proofs.all_moves.Given as goal

abbrev pub invariant-loop-i : goal.invariant-loop-i
invariant-loop-i l = all (is_move (card_of l.numbers l.names) l.n (allowed_in l.sets)) (list_in l.list) ≡ all (is_move (card_of l.numbers l.names) l.n (allowed_in l.sets)) (drop l.i (list_in l.list))
