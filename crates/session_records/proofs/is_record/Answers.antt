-- `session_records::is_record` meets its contract. Assumes nothing.
use Rattle.session_records.proofs.Finding.{record_is}
use borrow.Author.Rules.{rules}
use Rattle.session_records.proofs.is_record.Goals as goal

pub returns : goal.returns
returns c = record_is _ _ _ _ c.at.ensures.0 c.at-2.ensures.0 c.two_at-k.ensures.0
