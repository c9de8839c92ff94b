use mathlib.Core.Path.{◌∙◌}
use borrow.Author.Tests.{ne_eqb}
use Rattle.save_rules.proofs.Rules.{use-mapped, use-awaiting}
use Rattle.save_rules.proofs.is_near.Goals as goal

pub returns-then-mapped_at-ne-NOBODY : goal.returns-then-mapped_at-ne-NOBODY
returns-then-mapped_at-ne-NOBODY c = λ os.
    let ne = c.if-mapped_at-ne-NOBODY.true in
    rw (ne_eqb c.mapped_at.result 17 ne) (use-mapped _ os _ (λ z. ne (c.mapped_at.ensures.0 os ∙ z)))

pub awaited_at-requires : goal.awaited_at-requires
awaited_at-requires c = (c.requires.0, c.requires.1, c.requires.2, c.mapped_at.ensures.2 c.if-mapped_at-ne-NOBODY.false)

pub returns-else-mapped_at-ne-NOBODY : goal.returns-else-mapped_at-ne-NOBODY
returns-else-mapped_at-ne-NOBODY c = λ os. use-awaiting _ os _ _ (c.awaited_at.ensures.0 os)
