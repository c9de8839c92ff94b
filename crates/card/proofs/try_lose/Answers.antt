use Rattle.card.proofs.Calls.{lost-far, lost-is}
use Rattle.card.proofs.try_lose.Goals as goal

pub returns-then-gone-gt15 : goal.returns-then-gone-gt15
returns-then-gone-gt15 c = lost-far _ _ c.if-gone-gt15.true _

pub returns-else-gone-gt15 : goal.returns-else-gone-gt15
returns-else-gone-gt15 c =
    let the-if1 = c.if-gone-gt15 in
    let the-lose = c.lose in
    rw (← (lost-is _ _ the-if1.false _)) the-lose.ensures
