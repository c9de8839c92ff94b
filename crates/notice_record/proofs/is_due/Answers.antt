-- `notice_record::is_due` meets its contract: by its tests. Assumes nothing.
use Rattle.notice_record.proofs.Record.{due-none, due-three, due-other}
use Rattle.notice_record.proofs.is_due.Goals as goal

pub returns-then-status_of-eq0 : goal.returns-then-status_of-eq0
returns-then-status_of-eq0 c = due-none _ _ _ c.status_of.ensures.0 c.if-status_of-eq0.true

pub returns-then-number-eq3 : goal.returns-then-number-eq3
returns-then-number-eq3 c =
    let the-status-of = c.status_of in
    let the-if1 = c.if-status_of-eq0 in
    due-three _ _ _ the-status-of.ensures.0 _ the-if1.false c.if-number-eq3.true c.copied_type.ensures.0

pub returns : goal.returns
returns c =
    let the-status-of = c.status_of in
    due-other _ _ _ the-status-of.ensures.0 c.if-status_of-eq0.false c.if-number-eq3.false
