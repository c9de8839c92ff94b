use native.Mathlib.Omega.{arith}
use Rattle.memory.proofs.Labels.{free-label}
use Rattle.memory_free.proofs.free_label.Goals as goal

pub returns : goal.returns
returns c = λ os.
    free-label c.args.numbers.now _ os c.args.label c.base.result c.base.ensures.0 (omega arith) (omega arith) (rw c.base.ensures.0 c.requires.3) c.set_free.ensures.0 c.set_free.ensures.1
