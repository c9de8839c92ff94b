use native.Mathlib.Omega.{arith}
use mathlib.Core.Path.{sym}
use Rattle.meaning.specs.Card.{tree_limit}
use Rattle.memory.specs.Memory.{tree_count}
use Rattle.memory.proofs.Memory.{up_to-in, up_to-above}
use Rattle.memory.proofs.tree_count.Goals as goal

pub returns-then-n-lt-TREES : goal.returns-then-n-lt-TREES
unfolding tree_count
returns-then-n-lt-TREES c = (sym (up_to-in tree_limit _ (omega arith)), omega arith)

pub returns-else-n-lt-TREES : goal.returns-else-n-lt-TREES
unfolding tree_count
returns-else-n-lt-TREES c = (sym (up_to-above tree_limit _ c.if-n-lt-TREES.false), omega arith)
