-- `save_tags::has_double` meets its contract: one before it, or one behind it. Assumes nothing.
use native.Mathlib.Omega.{arith}
use mathlib.Core.Path.{sym, ◌∙◌}
use borrow.Author.Tests.{ltb-true, ltb-false, lt-ltb}
use Rattle.meaning.specs.Lists.{never}
use Rattle.save_tags.proofs.Tags.{double-before, double-behind, alone}
use Rattle.save_tags.proofs.has_double.Goals as goal

pub returns-then-tagged_from-i : goal.returns-then-tagged_from-i
returns-then-tagged_from-i c =
    let its = double-before c.args.numbers.now _ _ c.requires.4.0 _ c.tree_name-name.ensures.2 _ c.tagged_from.ensures.0 c.if-tagged_from-i.true in
    ((λ _. its), (λ t. absurd (never (sym t ∙ lt-ltb _ _ c.if-tagged_from-i.true))))

pub returns-else-tagged_from-i : goal.returns-else-tagged_from-i
returns-else-tagged_from-i c =
    let its = c.tree_name-name.ensures.2 in
    let behind = c.tagged_from-else-tagged_from-i.ensures.0 in
    let n = c.tree_count.ensures.0 in (
      (λ t. double-behind c.args.numbers.now _ _ c.requires.4.0 _ its _ behind (omega (arith, n, ltb-true c.tagged_from-else-tagged_from-i.result c.tree_count.result t))),
      (λ t. alone c.args.numbers.now _ _ c.requires.4.0 _ its _ _ c.tagged_from.ensures.0 c.if-tagged_from-i.false behind (omega (arith, n, ltb-false c.tagged_from-else-tagged_from-i.result c.tree_count.result t))),
    )
