-- `session_calls::lose` meets its contract. Assumes nothing.
use mathlib.Core.Path.{refl}
use Rattle.meaning_laws.specs.Handed.{handed, handed-count}
use borrow.Author.Rules.{rules}
use Rattle.session_calls.proofs.lose.Goals as goal

pub slice_bounds-result-end : goal.slice_bounds-result-end
slice_bounds-result-end c = handed-count _ _ _ _ _ _ c.lose_core-n.ensures.0

pub returns : goal.returns
returns c = (handed _ _ _ _ _ _ c.lose_core-n.ensures.0, c.lose_core-n.ensures.1, refl)
