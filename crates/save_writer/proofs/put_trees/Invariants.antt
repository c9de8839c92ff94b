-- `save_writer::put_trees` meets its contract: the invariant is that i rows stand. Assumes nothing.
use Rattle.save_records.proofs.Rows.{Rows}
use Rattle.memory.specs.Memory.{tree_count}
use Rattle.meaning_save.specs.Save.{form_of}
use Rattle.save_writer.proofs.Saved.{tree_row}
use Rattle.save_writer.proofs.put_trees.Given as goal

abbrev pub invariant-loop-i : goal.invariant-loop-i
invariant-loop-i l = Rows (tree_row (form_of l.second) l.numbers l.names) (tree_count l.numbers) l.from l.initial.out l.i l.at l.out
