-- `save_tags::is_named` meets its contract: names whose tags differ are not the same. Assumes nothing.
use mathlib.Core.Path.{sym, ap, ◌∙◌}
use borrow.Author.Tests.{ne_eqb}
use Rattle.meaning.specs.Octets.{same}
use Rattle.save_tags.proofs.Tags.{tag-tells}
use Rattle.save_tags.proofs.is_named.Goals as goal

pub returns-else-tags-i : goal.returns-else-tags-i
returns-else-tags-i c =
    ne_eqb _ _ c.if-tags-i.false ∙ sym (tag-tells c.args.name.now _ _ _ c.requires.3 c.requires.4 c.if-tags-i.false)

pub returns-then-tags-i : goal.returns-then-tags-i
returns-then-tags-i c =
    c.equal.ensures ∙ ap (λ x. same x c.args.name.now) c.tree_name.ensures.2
