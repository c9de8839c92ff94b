-- `wire_writer::put_record_head` meets its contract: the octets of the array are those of the definition, one by one. Assumes nothing.
use Rattle.meaning.specs.Octets.{two, four}
use Rattle.wire_writer.proofs.put_record_head.Goals as goal

pub returns : goal.returns
unfolding two four
returns c = rw (c.to_be_bytes.ensures, c.to_be_bytes-2.ensures, c.to_be_bytes-3.ensures, c.to_be_bytes-4.ensures, c.to_be_bytes-5.ensures) at c.copy.ensures
