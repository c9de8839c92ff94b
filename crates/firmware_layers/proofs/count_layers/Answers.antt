-- `firmware_layers::count_layers` meets its contract: each return is one law of `Reading`. Assumes nothing.
use mathlib.Core.Path.{refl}
use Rattle.std.proofs.lemmas.Result.{err_from_is_err_and}
use Rattle.refusals.proofs.Numbers.{number-not-0}
use Rattle.firmware_layers.proofs.Reading.{layers-refused, layers-counted}
use Rattle.firmware_layers.proofs.count_layers.Goals as goal

pub returns-in_err-check_element : goal.returns-in_err-check_element
returns-in_err-check_element c =
    let p = err_from_is_err_and c.from_residual.result c.from_residual.ensures.1 in
    rw (p.1, p.2) (layers-refused _ _ c.in_err-check_element.ensures (number-not-0 _))

pub returns : goal.returns
returns c = layers-counted _ 0 c.in_ok-check_element.ensures refl _ c.layer_count.ensures.0
