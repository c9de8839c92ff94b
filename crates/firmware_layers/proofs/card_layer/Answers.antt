-- `firmware_layers::card_layer` meets its contract: refused, or the fields of the part from the layer's start on. Assumes nothing.
use mathlib.Core.Path.{refl, sym, ◌∙◌}
use Rattle.refusals.proofs.Numbers.{number-not-0}
use Rattle.firmware_layers.proofs.Reading.{layer-refused, layer-told}
use Rattle.firmware_layers.proofs.card_layer.Goals as goal

pub returns-in-Err : goal.returns-in-Err
returns-in-Err c = layer-refused _ _ _ _ (c.number.ensures ∙ c.in-Err.ensures.0) (λ z. number-not-0 c.in-Err.refusal (sym c.number.ensures ∙ z))

pub returns : goal.returns
returns c =
    layer-told _ _ _ 0 c.in_default.ensures.0 refl (c.in_default.ensures.1 refl) _ c.layer_start-start.ensures.0 _ c.fields_of.ensures
