-- `save_writer::trees_size` meets its contract: in the old form it is a product, in the new one the invariant is that the sum is that of i trees. Assumes nothing.
use Rattle.save_records.proofs.Rows.{joined}
use Rattle.meaning_save.specs.Save.{new, form_of, tree_beside, name_most}
use lib.ListN.{length}
use Prim.Native.Nat.{◌+◌, ◌*◌, ◌≤◌}
use Rattle.save_writer.proofs.Saved.{tree_row}
use mathlib.Core.Path.{◌≡◌}
use Rattle.save_writer.proofs.trees_size.Given as goal

abbrev pub invariant-loop-i : goal.invariant-loop-i
invariant-loop-i l = (l.total ≡ length (joined l.i (tree_row (form_of l.second) l.numbers l.names))) × (l.total ≤ l.i * (tree_beside + name_most new))
