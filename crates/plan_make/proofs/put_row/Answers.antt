use Rattle.plan_make.proofs.Proposing.{row_put}
use Rattle.plan_make.proofs.put_row.Goals as goal

pub returns : goal.returns
returns c = row_put c.args.row.now _ _ _ c.requires.0 c.requires.1 c.put_space.ensures
