-- `firmware_session::card_serve` meets its contract: it is that of `session_calls::serve_core`. Assumes nothing.
use borrow.Author.Rules.{rules}
use Rattle.firmware_session.proofs.card_serve.Goals as goal

pub returns : goal.returns
returns c =
    let the-serve-core = c.serve_core in
    the-serve-core.ensures
