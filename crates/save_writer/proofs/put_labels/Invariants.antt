use Rattle.meaning_save.specs.Save.{form_of}
use Rattle.save_records.proofs.Rows.{Rows}
use Rattle.save_writer.proofs.Saved.{label_row}
use Rattle.save_writer.proofs.put_labels.Given as goal

abbrev pub invariant-loop-p : goal.invariant-loop-p
invariant-loop-p l = Rows (label_row (form_of l.second) l.numbers l.names) 256 l.from l.initial.out l.p l.at l.out
