use Rattle.memory_counts.proofs.its_root.Goals as goal

pub returns : goal.returns
returns c =
    (rw (← (c.tree_name.ensures.0 _ c.requires.2.0)) c.root_place.ensures.0, c.root_place.ensures.1)
