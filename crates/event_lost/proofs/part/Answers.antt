use Rattle.event_lost.proofs.Shed.{loss-fits, lost-ends}
use borrow.Author.Rules.{rules}
use Rattle.event_lost.proofs.part.Goals as goal

pub shed_all-w-requires : goal.shed_all-w-requires
shed_all-w-requires c =
    let the-part-from = c.part_from in
    (search rules, search rules, loss-fits _ _ _ _ _ _ the-part-from.ensures c.requires.3)

pub returns : goal.returns
returns c =
    let the-next-id = c.next_id-id in
    let the-part-from = c.part_from in
    let the-shed-all = c.shed_all-w in
    let the-sweep = c.sweep in
    lost-ends _ _ _ _ _ _ _ _ _ _ _ _ (the-next-id.ensures _) the-part-from.ensures the-shed-all.ensures the-sweep.ensures (c.set_next_id.ensures _)
