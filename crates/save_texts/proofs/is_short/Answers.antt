use mathlib.Core.Path.{sym, ◌∙◌}
use borrow.Author.Tests.{leb-true}
use Rattle.meaning.specs.Lists.{never}
use Rattle.save_texts.proofs.Texts.{short-new, short-whole, short-old}
use Rattle.save_texts.proofs.is_short.Goals as goal
use Rattle.save_texts.proofs.is_short.Goals.{then-second, else-second}

pub returns-then-name : goal.returns-then-name
returns-then-name c =
    c.if-name.true
    ∙ elim c.if-second.branch [ then-second w ↦ short-new _ _ w.if-second.true | else-second w ↦ short-whole _ _ w.if-second.false (leb-true _ _ (sym w.value-is ∙ c.if-name.true)) ]

pub returns-else-name : goal.returns-else-name
returns-else-name c =
    elim c.if-second.branch [ then-second w ↦ absurd (never (sym c.if-name.false ∙ w.value-is ∙ w.if-second.true)) | else-second w ↦ short-old _ _ _ w.if-second.false c.opaque_of.ensures ]
