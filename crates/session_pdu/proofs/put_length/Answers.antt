-- `session_pdu::put_length` meets its contract: the octets of the array are those of the definition, one by one. Assumes nothing.
use Rattle.meaning.specs.Octets.{two}
use Rattle.session_pdu.proofs.put_length.Goals as goal

pub returns : goal.returns
unfolding two
returns c = rw c.to_be_bytes.ensures at c.copy.ensures
