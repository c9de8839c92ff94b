use mathlib.Core.Path.{sym}
use Rattle.refusals.proofs.Numbers.{number-not-0}
use Rattle.std.proofs.lemmas.Result.{err_from_is_err_and}
use Rattle.card.proofs.Calls.{leave-refused, leave-is}
use Rattle.card.proofs.try_leave.Goals as goal

pub returns-in_err-check_element : goal.returns-in_err-check_element
returns-in_err-check_element c =
    let p = err_from_is_err_and c.from_residual.result c.from_residual.ensures.1 in
    rw (p.1, p.2) (leave-refused _ _ _ _ c.in_err-check_element.ensures (number-not-0 _))

pub returns : goal.returns
returns c =
    let the-check-element = c.in_ok-check_element in
    let the-leave = c.leave in
    rw (← (leave-is _ _ (sym the-check-element.ensures) _)) the-leave.ensures
