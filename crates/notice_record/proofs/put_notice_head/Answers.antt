-- `notice_record::put_notice_head` meets its contract: the octets of the array are those of the definition, one by one. Assumes nothing.
use Rattle.meaning.specs.Octets.{two, four}
use Rattle.notice_record.proofs.put_notice_head.Goals as goal

pub returns : goal.returns
unfolding two four
returns c = rw (c.to_be_bytes.ensures, c.to_be_bytes-2.ensures) at c.copy.ensures
