use borrow.Author.Rules.{rules}
use Rattle.memory.proofs.Head.{set_next}
use Rattle.memory.proofs.set_next_id.Goals as goal

pub returns : goal.returns
returns c = λ os. set_next c.args.numbers.now os c.args.id c.requires (search rules)
