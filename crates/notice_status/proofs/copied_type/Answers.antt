-- `notice_status::copied_type` meets its contract: by the length. Assumes nothing.
use native.Mathlib.Omega.{arith}
use Rattle.notice_status.proofs.Status.{type-none, type-there}
use borrow.Author.Rules.{rules}
use Rattle.notice_status.proofs.copied_type.Goals as goal

pub returns-then-octets-lt8 : goal.returns-then-octets-lt8
returns-then-octets-lt8 c = (type-none _ c.if-octets-lt8.true, omega arith)

pub returns : goal.returns
returns c = (type-there _ _ c.if-octets-lt8.false c.two_at.ensures.0, c.two_at.ensures.1)
