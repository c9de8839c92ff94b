-- `session_calls::serve` meets its contract. Assumes nothing.
use mathlib.Core.Path.{refl}
use Rattle.session_calls.proofs.Serving.{handed-over, handed-over-count}
use borrow.Author.Rules.{rules}
use Rattle.session_calls.proofs.serve.Goals as goal

pub slice_bounds-result-end : goal.slice_bounds-result-end
slice_bounds-result-end c =
    let the-serve-core = c.serve_core-n in
    handed-over-count _ _ _ _ _ _ _ _ the-serve-core.ensures

pub returns : goal.returns
returns c =
    let the-serve-core = c.serve_core-n in
    (handed-over _ _ _ _ _ _ _ _ the-serve-core.ensures, refl)
