-- `session_streams::pass` meets its contract: at the PDU's end, and before it. Assumes nothing.
use Rattle.session_streams.proofs.Passing.{pass-end, pass_on}
use Rattle.session_streams.proofs.pass.Goals as goal

pub returns-then-before-k : goal.returns-then-before-k
returns-then-before-k c = pass-end _ _ _ _ c.held_in-before.ensures c.requires.1 c.requires.2 c.requires.3 c.if-before-k.true c.clear.ensures

pub returns : goal.returns
returns c = pass_on _ _ _ _ c.held_in-before.ensures c.requires.1 c.requires.2 c.requires.3 c.if-before-k.false c.set.ensures
