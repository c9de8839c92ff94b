use Rattle.memory.proofs.NextFree.{next-later, next-around}
use Rattle.memory_free.proofs.next_free.Goals as goal

pub returns-then-p-lt-LABEL_COUNT : goal.returns-then-p-lt-LABEL_COUNT
returns-then-p-lt-LABEL_COUNT c =
    let f = c.free_from-p.ensures in
    ((λ os. next-later _ os _ (c.turn.ensures.0 os) _ f c.if-p-lt-LABEL_COUNT.true), f.1, f.2)

pub returns : goal.returns
returns c =
    let f = c.free_from_word.ensures in
    ((λ os. next-around _ os _ (c.turn.ensures.0 os) _ _ c.free_from-p.ensures c.if-p-lt-LABEL_COUNT.false f), f.1, f.2)
