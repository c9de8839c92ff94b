-- `notice_writer::next_of` meets its contract: the counter's step. Assumes nothing.
use mathlib.Core.Path.{ap}
use Rattle.wire_writer.specs.declared.Counter.{Counter}
use Rattle.notice_writer.proofs.next_of.Goals as goal

pub returns : goal.returns
returns c = ap (λ (k : Counter). k.next) c.stepped-c.ensures
