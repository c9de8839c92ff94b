use Rattle.plan_check.proofs.Checking.{entry-needs}
use Rattle.plan_check.proofs.entry_need.Goals as goal

pub returns : goal.returns
returns c =
    (entry-needs c.args.list.now c.args.at _ _ _ _ c.root_at-root.ensures.0 c.at.ensures.0 c.need_all.ensures.0, c.need_all.ensures.1)
