use Rattle.memory.proofs.Trees.{leaf-at}
use Rattle.memory_trees.proofs.is_leaf.Goals as goal

pub returns : goal.returns
returns c = λ os. leaf-at c.args.numbers.now os c.args.i c.requires.1.0
