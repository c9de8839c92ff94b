-- `wire_wraps::check_unwrap` meets its contract: each return is one law of `Wraps`. Assumes nothing.
use mathlib.Core.Path.{refl}
use Rattle.std.proofs.lemmas.Result.{err_from_is_err_and}
use Rattle.refusals.proofs.Numbers.{number-not-0}
use Rattle.wire_wraps.proofs.Wraps.{unwrap-bad, unwrap-22, unwrap-16, unwrap-0}
use Rattle.wire_wraps.proofs.check_unwrap.Goals as goal

pub returns-in_err-check_element : goal.returns-in_err-check_element
returns-in_err-check_element c =
    let p = err_from_is_err_and c.from_residual.result c.from_residual.ensures.1 in
    rw (p.1, p.2) (unwrap-bad _ _ _ c.in_err-check_element.ensures (number-not-0 _))

pub returns-then-k-eq0 : goal.returns-then-k-eq0
returns-then-k-eq0 c = unwrap-22 _ _ _ c.in_ok-check_element.ensures refl _ c.inner_start-k.ensures.0 c.if-k-eq0.true

pub returns-then-room-name : goal.returns-then-room-name
returns-then-room-name c = unwrap-16 _ _ _ c.in_ok-check_element.ensures refl _ c.inner_start-k.ensures.0 c.if-k-eq0.false c.if-room-name.true

pub returns : goal.returns
returns c = unwrap-0 _ _ _ c.in_ok-check_element.ensures refl _ c.inner_start-k.ensures.0 c.if-k-eq0.false c.if-room-name.false
