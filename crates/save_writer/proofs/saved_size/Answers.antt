-- `save_writer::saved_size` meets its contract: the sum of the sizes of all records. Assumes nothing.
use Rattle.save_writer.proofs.Saved.{saved-size}
use native.Mathlib.Omega.{arith}
use Rattle.save_writer.proofs.saved_size.Goals as goal

pub returns : goal.returns
returns c =
    let a = c.args in
    (saved-size _ a.numbers.now a.names.now _ _ _ _ c.head_size.ensures.0 c.route_count-routes.ensures.0 c.trees_size-trees.ensures.0 c.labels_size-uses.ensures.0, omega (arith, c.head_size.ensures.2, c.route_count-routes.ensures.1, c.trees_size-trees.ensures.1, c.labels_size-uses.ensures.1))
