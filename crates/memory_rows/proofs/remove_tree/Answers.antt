use native.Mathlib.Omega.{arith}
use mathlib.Core.Path.{◌∙◌}
use lib.ListN.{length-set}
use Rattle.memory_rows.proofs.Rows.{remove-tree}
use Rattle.memory_rows.proofs.remove_tree.Goals as goal

pub shape_of-numbers : goal.shape_of-numbers
shape_of-numbers c =
    simp length-set (c.close_numbers-2.ensures.long ∙ c.close_numbers.ensures.long ∙ c.lower_behind.ensures.long)

pub returns : goal.returns
returns c =
    remove-tree _ _ _ _ _ _ _ _ c.requires.0 c.tree_count-n.ensures.0 (omega (arith, c.tree_count-n.ensures.0, c.requires)) c.lower_behind.ensures c.close_numbers.ensures c.close_numbers-2.ensures c.lower_names.ensures
