-- `firmware_session::card_pack` meets its contract: it is that of `session_pack::pack_core`. Assumes nothing.
use borrow.Author.Rules.{rules}
use Rattle.firmware_session.proofs.card_pack.Goals as goal

pub returns : goal.returns
returns c = c.pack_core.ensures
