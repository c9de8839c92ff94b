use Rattle.memory.proofs.Trees.{branch-at}
use Rattle.memory_trees.proofs.branch.Goals as goal

pub returns : goal.returns
returns c = λ os. branch-at c.args.numbers.now os c.args.i c.requires.2.0 c.args.n c.requires.1
