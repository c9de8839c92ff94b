use Rattle.save_labels.proofs.Labels.{NoneFrom}
use Rattle.save_labels.proofs.above_used.Given as goal

abbrev pub invariant-loop-p : goal.invariant-loop-p
invariant-loop-p l = NoneFrom l.numbers l.p
