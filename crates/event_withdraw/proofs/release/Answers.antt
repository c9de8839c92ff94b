use mathlib.Core.Path.{sym, ◌∙◌}
use Rattle.event_withdraw.proofs.Withdrawn.{release-taken, release-none}
use borrow.Author.Rules.{rules}
use Rattle.event_withdraw.proofs.release.Goals as goal

pub free_label-requires : goal.free_label-requires
free_label-requires c = let b = c.is_awaited.ensures.1 c.if-is_awaited.true in (search rules, b.0, b.1, b.2)

pub returns-then-is_awaited : goal.returns-then-is_awaited
returns-then-is_awaited c =
    let the-is-awaited = c.is_awaited in
    let the-if1 = c.if-is_awaited in
    λ s. release-taken _ _ _ _ _ s (sym the-is-awaited.ensures.0 ∙ the-if1.true) (c.free_label.ensures _)

pub returns-else-is_awaited : goal.returns-else-is_awaited
returns-else-is_awaited c = λ s. release-none _ _ _ _ s (sym c.is_awaited.ensures.0 ∙ c.if-is_awaited.false)
