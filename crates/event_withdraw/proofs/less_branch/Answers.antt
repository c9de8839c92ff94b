use Rattle.event_withdraw.proofs.Withdrawn.{less-gone, less-kept}
use Rattle.event_withdraw.proofs.less_branch.Goals as goal

pub returns-then-b-label : goal.returns-then-b-label
returns-then-b-label c = λ os. less-gone _ _ _ _ (c.branch-b.ensures os) c.if-b-label.true

pub returns-else-b-label : goal.returns-else-b-label
returns-else-b-label c = λ os. less-kept _ _ _ _ (c.branch-b.ensures os) c.if-b-label.false
