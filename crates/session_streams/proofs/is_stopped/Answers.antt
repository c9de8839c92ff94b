-- `session_streams::is_stopped` meets its contract. Assumes nothing.
use Rattle.session_streams.proofs.Settling.{asks-stopped}
use Rattle.session_streams.proofs.is_stopped.Goals as goal

pub returns : goal.returns
returns c = λ b. asks-stopped _ b
