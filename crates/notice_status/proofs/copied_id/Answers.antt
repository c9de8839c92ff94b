-- `notice_status::copied_id` meets its contract: by the length. Assumes nothing.
use Rattle.notice_status.proofs.Status.{id-none, id-there}
use borrow.Author.Rules.{rules}
use Rattle.notice_status.proofs.copied_id.Goals as goal

pub returns-then-octets-lt8 : goal.returns-then-octets-lt8
returns-then-octets-lt8 c = id-none _ c.if-octets-lt8.true

pub returns : goal.returns
returns c = id-there _ _ c.if-octets-lt8.false c.four_at.ensures.0
