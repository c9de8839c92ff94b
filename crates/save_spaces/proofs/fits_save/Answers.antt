use mathlib.Core.Path.{sym, ◌∙◌}
use Rattle.save_spaces.proofs.Spaces.{fits_not, fits-rest}
use Rattle.save_spaces.proofs.fits_save.Goals as goal

pub returns-then-trees_short : goal.returns-then-trees_short
returns-then-trees_short c = c.uses_short.ensures ∙ sym (fits-rest _ _ (sym c.trees_short.ensures ∙ c.if-trees_short.true))

pub returns-else-trees_short : goal.returns-else-trees_short
returns-else-trees_short c = c.if-trees_short.false ∙ sym (fits_not _ _ (sym c.trees_short.ensures ∙ c.if-trees_short.false))
