use mathlib.Core.Path.{refl}
use Rattle.meaning_laws.specs.Handed.{handed, handed-count}
use Rattle.card.proofs.join.Goals as goal

pub slice_bounds-result-end : goal.slice_bounds-result-end
slice_bounds-result-end c =
    let the-join-core = c.join_core-n in
    handed-count _ _ _ _ _ _ the-join-core.ensures

pub returns : goal.returns
returns c =
    let the-join-core = c.join_core-n in
    (handed _ _ _ _ _ _ the-join-core.ensures, refl)
