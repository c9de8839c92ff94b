-- What the checker and the planner answer, as C gets it: a truth and a number. Assumes nothing.
use Rattle.std.specs.Prelude.{ℕ, Bool, true, false, Option, Some, None}
use Rattle.std.specs.declared.result.Result.{Result}
use Rattle.std.specs.declared.result.Result.TheVariants.{Ok, Err}

unfoldable pub is_accepted : Result Bool ℕ → Bool
is_accepted (Err number) = false
is_accepted (Ok says) = says

-- the refusal's number, or 0: that a list is rejected has no number of the paper's
unfoldable pub check_answer : Result Bool ℕ → ℕ
check_answer (Err number) = number
check_answer (Ok says) = 0

unfoldable pub is_listed : Result (Option ℕ) ℕ → Bool
is_listed (Err number) = false
is_listed (Ok None) = false
is_listed (Ok (Some entries)) = true

-- the same: that there is no list has no number
unfoldable pub plan_answer : Result (Option ℕ) ℕ → ℕ
plan_answer (Err number) = number
plan_answer (Ok found) = 0
