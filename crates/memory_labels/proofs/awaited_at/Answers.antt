use Rattle.std.proofs.Common.{[], arith}
use Rattle.memory.proofs.Labels.{awaits-use, awaited-is}
use Rattle.memory_labels.proofs.awaited_at.Goals as goal

pub overflow_sub-result : goal.overflow_sub-result
overflow_sub-result c = omega (arith, awaits-use c.args.numbers.now c.args.p [] c.requires.2 c.requires.3)

pub returns : goal.returns
returns c =
    ((λ os. awaited-is _ _ os c.requires.2 c.requires.3), omega (arith, awaits-use c.args.numbers.now c.args.p [] c.requires.2 c.requires.3))
