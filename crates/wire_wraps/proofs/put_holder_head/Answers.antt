-- `wire_wraps::put_holder_head` meets its contract: the octets of the array are those of the definition, one by one. Assumes nothing.
use Rattle.meaning.specs.Octets.{two}
use Rattle.wire_wraps.proofs.put_holder_head.Goals as goal

pub returns : goal.returns
unfolding two
returns c = rw c.to_be_bytes.ensures at (rw c.to_be_bytes-2.ensures at c.copy.ensures)
