use mathlib.Core.Path.{sym}
use Rattle.refusals.proofs.Numbers.{number-not-0}
use Rattle.std.proofs.lemmas.Result.{err_from_is_err_and}
use Rattle.meaning_laws.specs.RoundTrip.{name-fits}
use Rattle.card.proofs.Calls.{join-refused, join_is}
use borrow.Author.Rules.{rules}
use Rattle.card.proofs.try_join.Goals as goal

pub returns-in_err-check_element : goal.returns-in_err-check_element
returns-in_err-check_element c =
    let p = err_from_is_err_and c.from_residual.result c.from_residual.ensures.1 in
    rw (p.1, p.2) (join-refused _ _ _ _ c.in_err-check_element.ensures (number-not-0 _))

pub join-requires : goal.join-requires
join-requires c =
    let the-check-element = c.in_ok-check_element in
    (search rules, search rules, name-fits _ (sym the-check-element.ensures))

pub returns : goal.returns
returns c =
    let the-check-element = c.in_ok-check_element in
    let the-join = c.join in
    rw (← (join_is _ _ (sym the-check-element.ensures) _)) the-join.ensures
