-- `wire_wraps::wrap` meets its contract: the part that is handed back is exactly what the core wrote. Assumes nothing.
use mathlib.Core.Path.{refl}
use Rattle.meaning_layers.specs.LayerCalls.{handed, handed-count}
use Rattle.wire_wraps.proofs.wrap.Goals as goal

pub slice_bounds-result-end : goal.slice_bounds-result-end
slice_bounds-result-end c = handed-count _ _ _ _ _ _ c.wrap_core-n.ensures

pub returns : goal.returns
returns c = (handed _ _ _ _ _ _ c.wrap_core-n.ensures, refl)
