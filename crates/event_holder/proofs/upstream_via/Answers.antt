use Rattle.event_holder.proofs.Sizes.{upstream-some, upstream-none}
use Rattle.event_holder.proofs.upstream_via.Goals as goal

pub returns-then-via-lt-NEIGHBOURS : goal.returns-then-via-lt-NEIGHBOURS
returns-then-via-lt-NEIGHBOURS c = upstream-some _ c.if-via-lt-NEIGHBOURS.true

pub returns-else-via-lt-NEIGHBOURS : goal.returns-else-via-lt-NEIGHBOURS
returns-else-via-lt-NEIGHBOURS c = upstream-none _ c.if-via-lt-NEIGHBOURS.false
