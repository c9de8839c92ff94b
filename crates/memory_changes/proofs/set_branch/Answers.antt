use Rattle.memory.proofs.Trees.{set-branch}
use Rattle.memory_changes.proofs.set_branch.Goals as goal

pub returns : goal.returns
returns c = λ os. set-branch c.args.numbers.now os c.args.i c.requires.0 c.requires.2.0 c.requires.2.1 c.args.n c.args.label c.requires.1
