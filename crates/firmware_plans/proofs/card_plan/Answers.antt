-- `firmware_plans::card_plan` meets its contract: what was planned, case by case. Assumes nothing.
use mathlib.Core.Path.{refl}
use Rattle.plan_make.specs.Plan.{entries_of}
use Rattle.firmware_plans.specs.Answers.{is_listed, plan_answer}
use Rattle.firmware_plans.proofs.card_plan.Goals as goal

pub returns-in-Ok-Some : goal.returns-in-Ok-Some
unfolding is_listed plan_answer entries_of
returns-in-Ok-Some c = let made = c.in-Ok-Some.ensures.fact in rw (← made.0, c.in-Ok-Some.field-0-is) (refl, made.1, refl, refl)

pub returns-in-Ok-None : goal.returns-in-Ok-None
unfolding is_listed plan_answer entries_of
returns-in-Ok-None c = let made = c.in-Ok-None.ensures.fact in rw (← made.0, c.in-Ok-None.field-0-is) (refl, made.1, refl, refl)

pub returns-in-Err : goal.returns-in-Err
unfolding is_listed plan_answer entries_of
returns-in-Err c = let made = c.in-Err.ensures.fact in rw (← made.0) (refl, made.1, refl, c.number.ensures)
