-- `firmware_layers::card_layers` meets its contract: it tells what `count_layers` gave. Assumes nothing.
use mathlib.Core.Path.{◌∙◌}
use Rattle.firmware_layers.proofs.card_layers.Goals as goal

pub returns : goal.returns
returns c = (c.tell.ensures.answer ∙ c.count_layers.ensures.0, c.tell.ensures.count ∙ c.count_layers.ensures.1)
