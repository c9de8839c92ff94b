use Rattle.memory_counts.proofs.counts_at.Goals as goal

pub returns : goal.returns
returns c = ((λ os. c.counts_of.ensures.0 _ (c.is_leaf.ensures os) (c.branch_count.ensures.0 os)), c.counts_of.ensures.1, c.counts_of.ensures.2)
