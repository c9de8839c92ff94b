-- What the planner's answer is, and the octets that it lays into the list that is lent. Assumes nothing.
use Rattle.std.specs.Prelude.{ℕ, List, [], length, Option, Some, None}
use Rattle.std.specs.declared.result.Result.{Result}
use Rattle.std.specs.declared.result.Result.TheVariants.{Ok, Err}
use Rattle.meaning_plan.specs.Plan as Plan
use Rattle.meaning_plan.specs.PlanOctets.{list_of, AllCarriable}

-- this paper's number of a refusal; that there is no list; how many entries it has
unfoldable pub plan_of : Plan.Plan → Result (Option ℕ) ℕ
plan_of (Plan.refused number) = Err number
plan_of Plan.none = Ok None
plan_of (Plan.listed ms) = Ok (Some (length ms))

unfoldable pub list_made : Plan.Plan → List ℕ
list_made (Plan.refused number) = []
list_made Plan.none = []
list_made (Plan.listed ms) = list_of ms

-- how many entries are listed
unfoldable pub entries_of : {E : Type 0} → Result (Option ℕ) E → ℕ
entries_of (Err refusal) = 0
entries_of (Ok None) = 0
entries_of (Ok (Some k)) = k

-- the octets of what is listed are read back as it
unfoldable pub Readable : Plan.Plan → Type 0
Readable (Plan.refused number) = Unit {0}
Readable Plan.none = Unit {0}
Readable (Plan.listed ms) = AllCarriable ms
