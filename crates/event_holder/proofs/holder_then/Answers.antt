use mathlib.Core.Path.{sym, ◌∙◌}
use Rattle.event_holder.proofs.Held.{held-leaf, held-branch, held_none}
use Rattle.event_holder.proofs.holder_then.Goals as goal

pub returns-then-leaf : goal.returns-then-leaf
returns-then-leaf c = λ os. held-leaf _ _ _ _ _ c.if-leaf.true

pub returns-then-any_branch : goal.returns-then-any_branch
returns-then-any_branch c = λ os. held-branch _ _ _ _ _ (sym (c.any_branch.ensures os) ∙ c.if-any_branch.true)

pub returns : goal.returns
returns c = λ os. held_none _ _ _ _ _ c.if-leaf.false (sym (c.any_branch.ensures os) ∙ c.if-any_branch.false)
