use Rattle.card.proofs.Calls.{far, near}
use Rattle.card.proofs.try_receive.Goals as goal

pub returns-then-neighbour-gt15 : goal.returns-then-neighbour-gt15
returns-then-neighbour-gt15 c = far _ _ _ c.if-neighbour-gt15.true _

pub returns-else-neighbour-gt15 : goal.returns-else-neighbour-gt15
returns-else-neighbour-gt15 c =
    let the-if1 = c.if-neighbour-gt15 in
    let the-on-read = c.on_read in
    rw (← (near _ _ _ the-if1.false _)) the-on-read.ensures
