-- `session_pdu::body_after` meets its contract. Assumes nothing.
use Rattle.session_pdu.proofs.Writing.{body_more, body_new}
use Rattle.session_pdu.proofs.body_after.Goals as goal

pub returns-then-body-k-le-BODY_LIMIT : goal.returns-then-body-k-le-BODY_LIMIT
returns-then-body-k-le-BODY_LIMIT c = body_more _ _ c.if-body-k-le-BODY_LIMIT.true

pub returns-else-body-k-le-BODY_LIMIT : goal.returns-else-body-k-le-BODY_LIMIT
returns-else-body-k-le-BODY_LIMIT c = body_new _ _ c.if-body-k-le-BODY_LIMIT.false c.requires.1
