-- `session_streams::clear` meets its contract. Assumes nothing.
use Rattle.session_streams.proofs.Passing.{empty-is}
use Rattle.session_streams.proofs.clear.Goals as goal

pub returns : goal.returns
returns c = empty-is _ c.set.ensures
