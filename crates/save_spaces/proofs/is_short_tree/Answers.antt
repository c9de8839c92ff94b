use mathlib.Core.Path.{ap, ◌∙◌}
use Rattle.meaning_save.specs.Save.{is_short, is_short_tree}
use Rattle.save_spaces.proofs.is_short_tree.Goals as goal

pub returns : goal.returns
unfolding is_short_tree
returns c =
    c.is_short.ensures ∙ ap (is_short _) (c.tree_name.ensures.0 c.args.numbers.now c.requires.2.0)
