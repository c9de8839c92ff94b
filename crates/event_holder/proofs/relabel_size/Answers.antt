use native.Mathlib.Omega.{arith}
use mathlib.Core.Path.{sym, ◌∙◌}
use Rattle.event_holder.proofs.Sizes.{resize-none, resize-some}
use Rattle.event_holder.proofs.relabel_size.Goals as goal

pub returns-then-held_for-u : goal.returns-then-held_for-u
returns-then-held_for-u c = (resize-none _ _ _ (sym (c.held_for.ensures.0 _) ∙ c.if-held_for-u.true), omega arith)

pub returns-else-held_for-u : goal.returns-else-held_for-u
returns-else-held_for-u c =
    (c.move_size.ensures.0 ∙ sym (resize-some _ _ _ (λ z. c.if-held_for-u.false (c.held_for.ensures.0 _ ∙ z))), c.move_size.ensures.1)
