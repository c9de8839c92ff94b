use mathlib.Core.Path.{sym}
use Rattle.memory.proofs.Marks.{not-far, not-mapped, carried-by}
use Rattle.memory_trees.proofs.carries_at.Goals as goal
use Rattle.memory_trees.proofs.carries_at.Goals.{then-k-ge-LABEL_COUNT-via-then-k-ge-LABEL_COUNT, then-k-ge-LABEL_COUNT-via-else-k-ge-LABEL_COUNT+then-mapped_at-eq-NOBODY}

pub returns-then-k-ge-LABEL_COUNT : goal.returns-then-k-ge-LABEL_COUNT
returns-then-k-ge-LABEL_COUNT c =
    elim c.then-k-ge-LABEL_COUNT.branch [
      | then-k-ge-LABEL_COUNT-via-then-k-ge-LABEL_COUNT w ↦ sym (not-far _ _ _ w.if-k-ge-LABEL_COUNT.true)
      | then-k-ge-LABEL_COUNT-via-else-k-ge-LABEL_COUNT+then-mapped_at-eq-NOBODY w ↦ sym (not-mapped _ _ _ (w.mapped_at.ensures.2 w.if-mapped_at-eq-NOBODY.true))
    ]

pub returns : goal.returns
returns c = sym (carried-by _ _ _ c.if-k-ge-LABEL_COUNT.false (c.mapped_at.ensures.3 c.if-mapped_at-eq-NOBODY.false))
