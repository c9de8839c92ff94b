-- `notice_status::is_fatal` meets its contract: by its tests. Assumes nothing.
use borrow.Author.Tests.{eq-eqb, ne_eqb}
use Rattle.meaning.specs.Notice.{is_fatal}
use Rattle.notice_status.proofs.Status.{fatal-last}
use Rattle.notice_status.proofs.is_fatal.Goals as goal

pub returns-then-status-eq5 : goal.returns-then-status-eq5
unfolding is_fatal
returns-then-status-eq5 c = simp (eq-eqb _ _ c.if-status-eq5.true)

pub returns-then-status-eq7 : goal.returns-then-status-eq7
unfolding is_fatal
returns-then-status-eq7 c = simp (ne_eqb _ _ c.if-status-eq5.false, eq-eqb _ _ c.if-status-eq7.true)

pub returns : goal.returns
returns c = fatal-last _ c.if-status-eq5.false c.if-status-eq7.false
