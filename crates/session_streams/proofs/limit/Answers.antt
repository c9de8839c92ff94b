-- `session_streams::limit` meets its contract: by its two cases. Assumes nothing.
use Rattle.session_streams.proofs.Places.{limit-none, limit-left}
use Rattle.session_streams.proofs.limit.Goals as goal

pub returns-then-left-eq0 : goal.returns-then-left-eq0
returns-then-left-eq0 c = limit-none _ c.if-left-eq0.true

pub returns-else-left-eq0 : goal.returns-else-left-eq0
returns-else-left-eq0 c = limit-left _ c.if-left-eq0.false c.requires
