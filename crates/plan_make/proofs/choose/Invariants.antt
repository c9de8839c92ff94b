use Prim.Native.Nat.{◌≤◌}
use mathlib.Core.Path.{◌≡◌}
use Rattle.meaning.specs.Card.{tree_limit}
use Rattle.meaning_plan.specs.Plan.{no_choice}
use Rattle.meaning_plan.specs.PlanOctets.{allowed_in}
use Rattle.memory.specs.Memory.{card_of}
use Rattle.plan_make.proofs.Choosing.{least_of, best_from, ok, cost}
use Rattle.plan_make.proofs.choose.Given as goal

abbrev pub invariant-loop-v : goal.invariant-loop-v
invariant-loop-v l = (l.best ≤ no_choice) × (l.least ≤ tree_limit)
    × (l.best ≡ best_from (ok (card_of l.numbers l.names) l.n (allowed_in l.sets) l.root) (cost (card_of l.numbers l.names) l.n (allowed_in l.sets) l.root) l.v)
    × (l.least ≡ least_of (ok (card_of l.numbers l.names) l.n (allowed_in l.sets) l.root) (cost (card_of l.numbers l.names) l.n (allowed_in l.sets) l.root) l.best)
