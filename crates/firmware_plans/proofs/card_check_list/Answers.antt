-- `firmware_plans::card_check_list` meets its contract: the verdict, case by case. Assumes nothing.
use mathlib.Core.Path.{refl}
use Rattle.firmware_plans.specs.Answers.{is_accepted, check_answer}
use Rattle.firmware_plans.proofs.card_check_list.Goals as goal

pub returns-in-Ok : goal.returns-in-Ok
unfolding is_accepted check_answer
returns-in-Ok c = rw (← c.in-Ok.ensures) (refl, refl)

pub returns-in-Err : goal.returns-in-Err
unfolding is_accepted check_answer
returns-in-Err c = rw (← c.in-Err.ensures) (refl, c.number.ensures)
