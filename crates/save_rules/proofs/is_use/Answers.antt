use mathlib.Core.Path.{sym, ◌∙◌}
use Rattle.save_rules.proofs.Rules.{use-none}
use Rattle.save_rules.proofs.is_use.Goals as goal

pub returns-then-is_free : goal.returns-then-is_free
returns-then-is_free c = c.if-is_free.true ∙ sym (use-none _ _ _ (sym (c.is_free.ensures.1 _) ∙ c.if-is_free.true))
