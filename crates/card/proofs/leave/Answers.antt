use mathlib.Core.Path.{refl}
use Rattle.meaning_laws.specs.Handed.{handed, handed-count}
use Rattle.card.proofs.leave.Goals as goal

pub slice_bounds-result-end : goal.slice_bounds-result-end
slice_bounds-result-end c =
    let the-leave-core = c.leave_core-n in
    handed-count _ _ _ _ _ _ the-leave-core.ensures

pub returns : goal.returns
returns c =
    let the-leave-core = c.leave_core-n in
    (handed _ _ _ _ _ _ the-leave-core.ensures, refl)
