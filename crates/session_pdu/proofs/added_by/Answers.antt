-- `session_pdu::added_by` meets its contract. Assumes nothing.
use native.Mathlib.Omega.{arith}
use Rattle.session_pdu.proofs.Writing.{added_more, added_new}
use Rattle.session_pdu.proofs.added_by.Goals as goal

pub returns-then-body-k-le-BODY_LIMIT : goal.returns-then-body-k-le-BODY_LIMIT
returns-then-body-k-le-BODY_LIMIT c = (added_more _ _ c.if-body-k-le-BODY_LIMIT.true, omega arith)

pub returns-else-body-k-le-BODY_LIMIT : goal.returns-else-body-k-le-BODY_LIMIT
returns-else-body-k-le-BODY_LIMIT c = (added_new _ _ c.if-body-k-le-BODY_LIMIT.false, omega arith)
