-- `save_writer::spaced_labels_size` meets its contract: so many labels are not free, and each record has one size. Assumes nothing.
use Rattle.save_writer.proofs.Saved.{spaced-labels}
use native.Mathlib.Omega.{arith}
use Rattle.save_writer.proofs.spaced_labels_size.Goals as goal

pub returns : goal.returns
returns c =
    let k = c.free_labels.ensures in
    ((λ os. spaced-labels c.args.numbers.now os _ (k.0 os)), omega (arith, k.1))
