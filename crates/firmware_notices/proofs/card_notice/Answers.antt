-- `firmware_notices::card_notice` meets its contract: it is that of `notice_writer::notice_core`. Assumes nothing.
use borrow.Author.Rules.{rules}
use Rattle.firmware_notices.proofs.card_notice.Goals as goal

pub returns : goal.returns
returns c = c.notice_core.ensures
