-- `wire_writer::put_label_tlv` meets its contract: the octets of the array are those of the definition, one by one. Assumes nothing.
use Rattle.meaning.specs.Octets.{two, four}
use Rattle.wire_writer.proofs.put_label_tlv.Goals as goal

pub returns : goal.returns
unfolding two four
returns c = rw c.to_be_bytes.ensures at c.copy.ensures
