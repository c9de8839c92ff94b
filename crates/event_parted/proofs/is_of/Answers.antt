use mathlib.Core.Path.{sym, ◌∙◌}
use borrow.Author.Tests.{eq-eqb}
use Rattle.event_parted.proofs.Labels.{of-free, of-mapped, of_other}
use Rattle.event_parted.proofs.is_of.Goals as goal

pub returns-then-is_free : goal.returns-then-is_free
returns-then-is_free c = sym (of-free _ _ _ (sym c.is_free.ensures.0 ∙ c.if-is_free.true))

pub returns-then-u-n : goal.returns-then-u-n
returns-then-u-n c = eq-eqb _ _ c.if-u-n.true ∙ sym (of-mapped _ _ _ (sym c.is_free.ensures.0 ∙ c.if-is_free.false) c.if-u-n.true)

pub returns-else-u-n : goal.returns-else-u-n
returns-else-u-n c = of_other _ _ _ (sym c.is_free.ensures.0 ∙ c.if-is_free.false) c.if-u-n.false
