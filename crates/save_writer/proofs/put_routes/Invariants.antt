-- `save_writer::put_routes` meets its contract: the invariant is that i rows stand. Assumes nothing.
use Rattle.memory.specs.Memory.{route_count}
use Rattle.save_records.proofs.Rows.{Rows}
use Rattle.save_writer.proofs.Saved.{route_row}
use Rattle.save_writer.proofs.put_routes.Given as goal

abbrev pub invariant-loop-i : goal.invariant-loop-i
invariant-loop-i l = Rows (route_row l.numbers l.names) (route_count l.numbers) l.from l.initial.out l.i l.at l.out
