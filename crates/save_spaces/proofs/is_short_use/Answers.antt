use mathlib.Core.Path.{sym, ap, ◌∙◌}
use Rattle.meaning_save.specs.Save.{is_short}
use Rattle.save_spaces.proofs.Spaces.{free-short, used-short}
use Rattle.save_spaces.proofs.is_short_use.Goals as goal

pub returns-then-is_free : goal.returns-then-is_free
returns-then-is_free c = c.if-is_free.true ∙ sym (free-short _ _ _ _ (sym (c.is_free.ensures.1 _) ∙ c.if-is_free.true))

pub returns-else-is_free : goal.returns-else-is_free
returns-else-is_free c =
    c.is_short.ensures
    ∙ ap (is_short _) c.label_name.ensures
    ∙ sym (used-short _ _ _ _ (sym (c.is_free.ensures.1 _) ∙ c.if-is_free.false))
