use mathlib.Core.Path.{sym, ◌∙◌}
use borrow.Author.Tests.{not-true, not-false}
use Rattle.meaning.specs.Lists.{never}
use Rattle.save_tags.proofs.is_told.Goals as goal

pub returns-then-is_hinted : goal.returns-then-is_hinted
returns-then-is_hinted c = ((λ _ not_so. absurd (never (sym not_so ∙ sym c.is_hinted.ensures ∙ c.if-is_hinted.true))), (λ t. absurd (never (sym t ∙ c.if-is_hinted.true))))

pub returns-else-is_hinted : goal.returns-else-is_hinted
returns-else-is_hinted c =
    let its = c.has_double.ensures in
    ((λ t _. its.1 (not-true _ t)), (λ t. its.0 (not-false _ t)))
