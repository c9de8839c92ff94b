-- `wire_wraps::put_element_head` meets its contract: the octets of the array are those of the definition, one by one. Assumes nothing.
use Rattle.meaning.specs.Octets.{two}
use Rattle.wire_wraps.proofs.put_element_head.Goals as goal

pub returns : goal.returns
unfolding two
returns c = rw c.to_be_bytes.ensures at c.copy.ensures
