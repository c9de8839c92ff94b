-- `save_writer::labels_size` meets its contract: in the new form the invariant is that the sum is that of p labels. Assumes nothing.
use Rattle.save_records.proofs.Rows.{joined}
use Rattle.meaning_save.specs.Save.{new, form_of, use_beside, name_most}
use lib.ListN.{length}
use Prim.Native.Nat.{◌+◌, ◌*◌, ◌≤◌}
use Rattle.save_writer.proofs.Saved.{label_row}
use mathlib.Core.Path.{◌≡◌}
use Rattle.save_writer.proofs.labels_size.Given as goal

abbrev pub invariant-loop-p : goal.invariant-loop-p
invariant-loop-p l = (l.total ≡ length (joined l.p (label_row (form_of l.second) l.numbers l.names))) × (l.total ≤ l.p * (use_beside + name_most new))
