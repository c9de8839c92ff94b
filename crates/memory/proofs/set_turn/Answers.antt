use Rattle.memory.proofs.Head.{set-turn}
use Rattle.memory.proofs.set_turn.Goals as goal

pub returns : goal.returns
returns c = λ os. set-turn c.args.numbers.now os c.args.v c.requires
