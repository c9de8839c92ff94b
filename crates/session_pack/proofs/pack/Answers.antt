-- `session_pack::pack` meets its contract. Assumes nothing.
use mathlib.Core.Path.{refl}
use Rattle.session_pack.proofs.Counting.{packed-part, packed-count}
use Rattle.session_pack.proofs.pack.Goals as goal

pub slice_bounds-result-end : goal.slice_bounds-result-end
slice_bounds-result-end c = packed-count _ _ _ _ _ c.pack_core-n.ensures

pub returns : goal.returns
returns c = (c.pack_core-n.ensures.answers, packed-part _ _ _ _ _ c.pack_core-n.ensures, refl)
