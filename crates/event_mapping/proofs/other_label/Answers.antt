use Rattle.event_mapping.proofs.Mapping.{other_none, other-some}
use Rattle.event_mapping.proofs.other_label.Goals as goal

pub returns-else-b-ne0 : goal.returns-else-b-ne0
returns-else-b-ne0 c = λ os. rw c.if-b-ne0.false (other_none _ _ _ _ (c.branch-b.ensures os) c.if-b-ne0.false)

pub returns-then-b-ne0 : goal.returns-then-b-ne0
returns-then-b-ne0 c = λ os. other-some _ _ _ _ (c.branch-b.ensures os) c.if-b-ne0.true
