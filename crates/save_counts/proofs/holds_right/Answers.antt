use mathlib.Core.Path.{refl}
use Rattle.save_rules_rows.proofs.RowRules.{holds}
use Rattle.save_counts.proofs.holds_right.Goals as goal

pub returns : goal.returns
returns c os at-k = holds _ _ _ _ _ _ refl (c.upstream_at-u.ensures.0 os _ at-k) (c.held_for.ensures.0 os) (c.holder.ensures os)
