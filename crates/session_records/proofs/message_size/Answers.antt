-- `session_records::message_size` meets its contract. Assumes nothing.
use Rattle.session_records.specs.Records.{size_at}
use borrow.Author.Rules.{rules}
use Rattle.session_records.proofs.message_size.Goals as goal

pub returns : goal.returns
unfolding size_at
returns c = search rules
