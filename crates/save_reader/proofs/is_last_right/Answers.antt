-- `save_reader::is_last_right` meets its contract. Assumes nothing.
use Rattle.save_reader.proofs.Whole.{right-some, right-none}
use mathlib.Core.Path.{ap, ◌∙◌}
use mathlib.Core.Bool.{not}
use borrow.Author.Tests.{ne_eqb}
use Rattle.save_reader.proofs.is_last_right.Goals as goal

pub returns-then-turn-ne0 : goal.returns-then-turn-ne0
returns-then-turn-ne0 c = λ os. ap not (ne_eqb _ _ c.if-turn-ne0.true) ∙ right-some c.args.numbers.now os _ (c.turn.ensures.0 os) c.turn.ensures.1 c.if-turn-ne0.true

pub returns-else-turn-ne0 : goal.returns-else-turn-ne0
returns-else-turn-ne0 c =
    λ os. right-none c.args.numbers.now os _ (c.turn.ensures.0 os) _ c.if-turn-ne0.false (c.free_labels.ensures.0 os)
