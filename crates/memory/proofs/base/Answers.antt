use native.Mathlib.Omega.{arith}
use Rattle.memory.proofs.Head.{base-under, base_above, base-in}
use Rattle.memory.proofs.base.Goals as goal
use Rattle.memory.proofs.base.Goals.{then-b-lt-LEAST_LABEL-via-then-b-lt-LEAST_LABEL, then-b-lt-LEAST_LABEL-via-else-b-lt-LEAST_LABEL+then-b-gt-MOST_BASE}

pub returns-then-b-lt-LEAST_LABEL : goal.returns-then-b-lt-LEAST_LABEL
returns-then-b-lt-LEAST_LABEL c =
    elim c.then-b-lt-LEAST_LABEL.branch [
      | then-b-lt-LEAST_LABEL-via-then-b-lt-LEAST_LABEL w ↦ (base-under _ w.if-b-lt-LEAST_LABEL.true, omega arith, omega arith)
      | then-b-lt-LEAST_LABEL-via-else-b-lt-LEAST_LABEL+then-b-gt-MOST_BASE w ↦ (base_above _ w.if-b-lt-LEAST_LABEL.false w.if-b-gt-MOST_BASE.true, omega arith, omega arith)
    ]

pub returns : goal.returns
returns c = (base-in _ c.if-b-lt-LEAST_LABEL.false c.if-b-gt-MOST_BASE.false, c.if-b-lt-LEAST_LABEL.false, c.if-b-gt-MOST_BASE.false)
