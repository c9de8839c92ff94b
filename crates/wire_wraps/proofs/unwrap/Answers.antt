-- `wire_wraps::unwrap` meets its contract: the part that is handed back is exactly what the core wrote. Assumes nothing.
use mathlib.Core.Path.{refl}
use Rattle.meaning_layers.specs.LayerCalls.{handed, handed-count}
use Rattle.wire_wraps.proofs.unwrap.Goals as goal

pub slice_bounds-result-end : goal.slice_bounds-result-end
slice_bounds-result-end c = handed-count _ _ _ _ _ _ c.unwrap_core-n.ensures.0

pub returns : goal.returns
returns c = let the-unwrap-core = c.unwrap_core-n in ((handed _ _ _ _ _ _ the-unwrap-core.ensures.0, the-unwrap-core.ensures.1, the-unwrap-core.ensures.2), refl)
