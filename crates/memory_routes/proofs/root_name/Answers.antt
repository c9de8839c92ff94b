use borrow.Author.Rules.{rules}
use Rattle.memory.specs.Memory.{root_name}
use Rattle.memory_routes.proofs.root_name.Goals as goal

pub returns : goal.returns
unfolding root_name
returns c = c.text.ensures.0
