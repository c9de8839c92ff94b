use Rattle.memory.proofs.Parts.{closed}
use Rattle.memory.proofs.close_numbers.Goals as goal

pub returns : goal.returns
returns c =
    closed c.args.a c.args.e c.args.w _ _ c.requires.0 c.requires.1 c.shift_numbers.ensures
