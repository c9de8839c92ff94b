use mathlib.Core.Path.{sym, ap, ◌∙◌}
use mathlib.Core.Bool.{not}
use borrow.Author.Tests.{eq-eqb}
use Rattle.meaning.specs.Octets.{same}
use Rattle.save_rules.proofs.Rules.{mapped-not, mapped-named}
use Rattle.meaning.specs.Lists.{never}
use Rattle.save_rules.proofs.is_mapped_for.Goals as goal

pub returns-then-mapped_at-ne-NOBODY : goal.returns-then-mapped_at-ne-NOBODY
returns-then-mapped_at-ne-NOBODY c =
    let m = c.mapped_at.ensures.3 c.if-mapped_at-ne-NOBODY.true in
    (c.equal.ensures ∙ ap (λ x. same x c.args.name.now) c.label_name.ensures ∙ sym (mapped-named _ _ _ _ m), (λ _. m))

pub returns-else-mapped_at-ne-NOBODY : goal.returns-else-mapped_at-ne-NOBODY
returns-else-mapped_at-ne-NOBODY c =
    let e = ap not (eq-eqb _ _ c.if-mapped_at-ne-NOBODY.false) in
    (e ∙ sym (mapped-not _ _ _ _ (c.mapped_at.ensures.2 c.if-mapped_at-ne-NOBODY.false)), (λ t. absurd (never (sym e ∙ t))))
