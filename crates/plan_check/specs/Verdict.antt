-- What the checker's answer is: this paper's number of a refusal, or whether the list is accepted. Assumes nothing.
use Rattle.std.specs.Prelude.{ℕ, Bool, true, false}
use Rattle.std.specs.declared.result.Result.{Result}
use Rattle.std.specs.declared.result.Result.TheVariants.{Ok, Err}
use Rattle.refusals.specs.declared.Refusal.{Refusal}
use Rattle.refusals.specs.Refusals.{number_of}
use Rattle.meaning_plan.specs.Plan as Plan

-- an answer, with this paper's number in the place of the refusal
abbrev pub numbered : {A : Type 0} → Result A Refusal → Result A ℕ
numbered (Ok value) = Ok value
numbered (Err refusal) = Err (number_of refusal)

unfoldable pub verdict_of : Plan.Verdict → Result Bool ℕ
verdict_of (Plan.refusal number) = Err number
verdict_of Plan.rejected = Ok false
verdict_of Plan.accepted = Ok true
