-- `firmware_layers::check_layer` meets its contract: each return is one law of `Reading`. Assumes nothing.
use mathlib.Core.Path.{refl}
use Rattle.std.proofs.lemmas.Result.{err_from_is_err_and}
use Rattle.refusals.proofs.Numbers.{number-not-0}
use Rattle.firmware_layers.proofs.Reading.{answer-refused, answer-none, answer-there}
use Rattle.firmware_layers.proofs.check_layer.Goals as goal

pub returns-in_err-check_element : goal.returns-in_err-check_element
returns-in_err-check_element c =
    let p = err_from_is_err_and c.from_residual.result c.from_residual.ensures.1 in
    rw (p.1, p.2) (answer-refused _ _ c.in_err-check_element.ensures _ (number-not-0 _))

pub returns-then-layer_count-down : goal.returns-then-layer_count-down
returns-then-layer_count-down c = answer-none _ 0 c.in_ok-check_element.ensures _ refl _ c.layer_count.ensures.0 c.if-layer_count-down.true

pub returns : goal.returns
returns c = answer-there _ 0 c.in_ok-check_element.ensures _ refl _ c.layer_count.ensures.0 c.if-layer_count-down.false
