-- `save_written::rows_written` meets its contract. Assumes nothing.
use Rattle.save_written.proofs.Whole.{no-trees, rows-there}
use Rattle.save_written.proofs.rows_written.Goals as goal

pub returns-in-None : goal.returns-in-None
returns-in-None c =
    no-trees _ c.args.octets.now c.args.from _ c.at-trees.ensures.0 c.in-None.ensures

pub returns-in-Some : goal.returns-in-Some
returns-in-Some c =
    let behind = c.in-Some.ensures in
    rows-there _ c.args.octets.now c.args.from _ c.at-trees.ensures.0 _ _ _ (behind.0, behind.1) c.four_at-base.ensures.0 c.two_at-labels.ensures.0 _ c.uses_written.ensures
