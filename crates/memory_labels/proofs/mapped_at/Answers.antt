use Rattle.std.proofs.Common.{sym, ◌∙◌}
use Rattle.memory.proofs.Labels.{maps-free, maps-some, maps-other}
use Rattle.memory_labels.proofs.mapped_at.Goals as goal

pub returns-then-is_free : goal.returns-then-is_free
returns-then-is_free c = maps-free _ _ (sym c.is_free.ensures.0 ∙ c.if-is_free.true)

pub returns-then-u-lt-NEIGHBOURS : goal.returns-then-u-lt-NEIGHBOURS
returns-then-u-lt-NEIGHBOURS c = maps-some _ _ (sym c.is_free.ensures.0 ∙ c.if-is_free.false) c.if-u-lt-NEIGHBOURS.true

pub returns-else-u-lt-NEIGHBOURS : goal.returns-else-u-lt-NEIGHBOURS
returns-else-u-lt-NEIGHBOURS c = maps-other _ _ (sym c.is_free.ensures.0 ∙ c.if-is_free.false) c.if-u-lt-NEIGHBOURS.false
