-- `save_writer::save` meets its contract: the part that is handed back is exactly what the core wrote. Assumes nothing.
use mathlib.Core.Path.{refl}
use Rattle.meaning_laws.specs.Handed.{handed, handed-count}
use Rattle.save_writer.proofs.save.Goals as goal

pub slice_bounds-result-end : goal.slice_bounds-result-end
slice_bounds-result-end c =
    let the-save-core = c.save_core-n in
    handed-count _ _ _ _ _ _ the-save-core.ensures

pub returns : goal.returns
returns c =
    let the-save-core = c.save_core-n in
    (handed _ _ _ _ _ _ the-save-core.ensures, refl)
