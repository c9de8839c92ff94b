use Prim.Native.Nat.{◌+◌, ◌≤◌}
use mathlib.Core.Path.{◌≡◌}
use lib.ListN.{length}
use Rattle.meaning.specs.Card.{route_limit}
use Rattle.memory.specs.Memory.{card_of}
use Rattle.meaning_plan.specs.PlanOctets.{allowed_in, list_limit}
use Rattle.plan_make.specs.Rows.{Holds}
use Rattle.plan_make.proofs.Proposing.{proposed_from}
use Rattle.plan_make.proofs.propose.Given as goal

abbrev pub invariant-loop-i : goal.invariant-loop-i
invariant-loop-i l = (l.k + l.i ≤ route_limit) × (length l.rows ≡ list_limit) × Holds l.rows l.k (proposed_from (card_of l.numbers l.names) l.n (allowed_in l.sets) (card_of l.numbers l.names).routes l.i)
