use Rattle.event_lost.proofs.Empty.{swept-goes, swept-stays}
use Rattle.event_lost.proofs.sweep_one.Goals as goal

pub returns-then-is_empty : goal.returns-then-is_empty
returns-then-is_empty c =
    let the-is-empty = c.is_empty in
    let the-if1 = c.if-is_empty in
    let the-remove-tree = c.remove_tree in
    swept-goes _ _ _ (the-is-empty.ensures _) the-if1.true _ the-remove-tree.ensures

pub returns-else-is_empty : goal.returns-else-is_empty
returns-else-is_empty c = swept-stays _ _ _ (c.is_empty.ensures _) c.if-is_empty.false
