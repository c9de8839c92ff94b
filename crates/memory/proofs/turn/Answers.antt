use native.Mathlib.Omega.{arith}
use Rattle.memory.proofs.Head.{turn-none, turn-some}
use Rattle.memory.proofs.turn.Goals as goal

pub returns-then-v-gt-LABELS : goal.returns-then-v-gt-LABELS
returns-then-v-gt-LABELS c = ((λ os. turn-none _ os c.if-v-gt-LABELS.true), omega arith)

pub returns-else-v-gt-LABELS : goal.returns-else-v-gt-LABELS
returns-else-v-gt-LABELS c = ((λ os. turn-some _ os c.if-v-gt-LABELS.false), omega arith)
