-- `notice_writer::notice` meets its contract: the part that is handed back is exactly what the core wrote. Assumes nothing.
use mathlib.Core.Path.{refl}
use mathlib.Core.List.{[]}
use Rattle.meaning_laws.specs.Handed.{handed, handed-count}
use Rattle.notice_writer.proofs.notice.Goals as goal

pub slice_bounds-result-end : goal.slice_bounds-result-end
slice_bounds-result-end c =
    let the-notice-core = c.notice_core-n in
    handed-count _ _ _ _ _ _ (the-notice-core.ensures [])

pub returns : goal.returns
returns c =
    let the-notice-core = c.notice_core-n in
    ((λ os. handed _ _ _ _ _ _ (the-notice-core.ensures os)), refl)
