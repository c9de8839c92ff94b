use mathlib.Core.Path.{refl}
use Rattle.meaning_laws.specs.Handed.{handed, handed-count}
use Rattle.card.proofs.lost.Goals as goal

pub slice_bounds-result-end : goal.slice_bounds-result-end
slice_bounds-result-end c =
    let the-lost-core = c.lost_core-n in
    handed-count _ _ _ _ _ _ the-lost-core.ensures

pub returns : goal.returns
returns c =
    let the-lost-core = c.lost_core-n in
    (handed _ _ _ _ _ _ the-lost-core.ensures, refl)
