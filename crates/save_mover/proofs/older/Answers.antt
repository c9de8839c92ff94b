-- `save_mover::older` meets its contract: the part that is handed back is exactly what the core wrote. Assumes nothing.
use Rattle.save_mover.proofs.Moving.{given, given-count, as-older}
use mathlib.Core.Path.{refl}
use Rattle.save_mover.proofs.older.Goals as goal

pub slice_bounds-result-end : goal.slice_bounds-result-end
slice_bounds-result-end c = given-count _ _ _ _ _ (as-older _ _ _ _ _ _ c.move_core-n.ensures)

pub returns : goal.returns
returns c = (given _ _ _ _ _ (as-older _ _ _ _ _ _ c.move_core-n.ensures), refl)
