-- `save_rules::is_carried` meets its contract: the mark of a mapped label leads to the tree that carries it. Assumes nothing.
use mathlib.Core.Path.{refl, sym, ◌∙◌}
use borrow.Author.Tests.{eq-eqb}
use Rattle.save_rules.proofs.Rules.{carried-free, carried-by}
use Rattle.save_rules.proofs.is_carried.Goals as goal

pub returns-then-mapped_at-eq-NOBODY : goal.returns-then-mapped_at-eq-NOBODY
returns-then-mapped_at-eq-NOBODY c = λ os once own. eq-eqb _ _ c.if-mapped_at-eq-NOBODY.true ∙ sym (carried-free _ os _ _ (c.mapped_at.ensures.0 os) _ _ c.if-mapped_at-eq-NOBODY.true)

pub carrier_at-requires : goal.carrier_at-requires
carrier_at-requires c = (c.requires.0, c.requires.1, c.mapped_at.ensures.3 c.if-mapped_at-eq-NOBODY.false)

pub returns-else-mapped_at-eq-NOBODY : goal.returns-else-mapped_at-eq-NOBODY
returns-else-mapped_at-eq-NOBODY c =
    let u = c.mapped_at.ensures in
    let l = c.if-mapped_at-eq-NOBODY.false in
    λ os once own. carried-by c.args.numbers.now os c.args.p _ c.requires.1 (u.0 os) l (u.3 l) once own _ _ (c.carrier_at.ensures.0 os _ refl) c.tree_count.ensures.0
