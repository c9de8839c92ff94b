-- `save_labels::label_trees` meets its contract: the invariant is that the trees carry what the first p labels give them. Assumes nothing.
use mathlib.Core.Path.{◌≡◌}
use lib.ListN.{length}
use Rattle.save_labels.proofs.Labels.{Labelled}
use Rattle.save_labels.proofs.label_trees.Given as goal

abbrev pub invariant-loop-p : goal.invariant-loop-p
invariant-loop-p l = (length l.numbers ≡ length l.initial.numbers) × Labelled l.initial.numbers l.names l.p l.numbers
