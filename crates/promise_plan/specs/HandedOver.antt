-- THE PLANNER'S OCTETS are read as its list, and pass the checker.
-- Assumes nothing.
use Rattle.std.specs.Prelude.{ℕ, ◌≡◌, refl, true, false, List, [], ◌∷◌}
use Rattle.std.proofs.Common.{arith}
use Rattle.meaning.specs.Card.{Card}
use Rattle.meaning.specs.Events.{no_neighbour}
use Rattle.meaning_save.specs.Save.{keeps_rules}
use Rattle.meaning_laws.specs.SaveRules.{rules}
use Rattle.meaning_plan.specs.Plan.{Move, accepted, listed}
use Rattle.promise_plan.specs.CarriedOut.{AllMovable, all-movable}
use Rattle.promise_plan.specs.CarriedOut as Carried
use Rattle.promise_plan.specs.PlanKept.{near, planner-accepted}
use Rattle.meaning_plan.specs.PlanOctets.{allowed_in, list_of, list_in, checked_octets, planned_octets, AllCarriable, is-list, list_back}
use Rattle.meaning_laws.specs.Refusals.{root-fits}

carriable : (c : Card) (n : ℕ) (ms : List Move) → AllMovable c n ms → AllCarriable ms
unfolding AllMovable AllCarriable
carriable c n [] p = tt
carriable c n (m ∷ ms) p = (record { short = root-fits m.root p.0.right; low = omega (arith, p.0.near) }, carriable c n ms p.1)

pub handed-over : (c : Card) → keeps_rules c ≡ true → (n : ℕ) → no_neighbour n ≡ false → (sets : List ℕ) (ms : List Move) → planned_octets c n sets ≡ listed ms
    → (list_in (list_of ms) ≡ ms) × (checked_octets c n sets (list_of ms) ≡ accepted)
unfolding planned_octets checked_octets
handed-over c keeps n neighbour sets ms h =
    let yes' = planner-accepted c keeps n neighbour (allowed_in sets) ms h in
    let A = Carried.accepted c n (allowed_in sets) ms yes' in
    let back = list_back ms (carriable c n ms (all-movable c n (near n neighbour) (rules c keeps).routes (allowed_in sets) ms ms A.moves)) in
    (back, rw (neighbour, is-list ms, back, yes') refl)
