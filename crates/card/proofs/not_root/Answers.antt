use Rattle.card.proofs.Calls.{four-octets, other_length}
use Rattle.card.proofs.not_root.Goals as goal

pub returns-then-n-ne4 : goal.returns-then-n-ne4
returns-then-n-ne4 c = other_length _ c.if-n-ne4.true

pub returns-else-n-ne4 : goal.returns-else-n-ne4
returns-else-n-ne4 c = rw c.if-n-ne4.false (four-octets _ c.if-n-ne4.false)
