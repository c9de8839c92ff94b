-- `session_calls::lose_core` meets its contract: taken, and refused. Assumes nothing.
use Rattle.session_calls.proofs.Losing.{emptied, untouched}
use borrow.Author.Rules.{rules}
use Rattle.session_calls.proofs.lose_core.Goals as goal

pub returns-then-answer-eq0 : goal.returns-then-answer-eq0
returns-then-answer-eq0 c =
    let the-lost-core = c.lost_core-n in
    (the-lost-core.ensures, λ b. emptied _ _ _ c.if-answer-eq0.true (c.clear.ensures.1 b))

pub returns : goal.returns
returns c =
    let the-lost-core = c.lost_core-n in
    (the-lost-core.ensures, λ b. untouched _ _ c.if-answer-eq0.false)
