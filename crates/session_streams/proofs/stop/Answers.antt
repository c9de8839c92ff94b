-- `session_streams::stop` meets its contract. Assumes nothing.
use Rattle.session_streams.proofs.Passing.{stopped-is}
use Rattle.session_streams.proofs.stop.Goals as goal

pub returns : goal.returns
returns c = stopped-is _ c.set.ensures
