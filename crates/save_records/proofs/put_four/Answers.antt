-- `save_records::put_four` meets its contract: the octets of the array are those of the definition. Assumes nothing.
use Rattle.meaning.specs.Octets.{four}
use Rattle.save_records.proofs.put_four.Goals as goal

pub returns : goal.returns
unfolding four
returns c = rw c.to_be_bytes.ensures at c.copy.ensures
