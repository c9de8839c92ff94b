use mathlib.Core.Path.{sym, ◌∙◌}
use Rattle.memory.specs.Memory.{tree_name}
use Rattle.memory.proofs.Trees.{name-at}
use Rattle.memory_trees.proofs.tree_name.Goals as goal

pub returns : goal.returns
unfolding tree_name
returns c = ((λ ns h. c.text.ensures.0 ∙ sym (name-at ns c.args.names.now c.args.i h)), c.text.ensures.1, c.text.ensures.0)
