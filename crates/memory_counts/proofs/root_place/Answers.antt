use Rattle.memory_counts.proofs.root_place.Goals as goal

pub returns : goal.returns
returns c = (rw (← c.root_of.ensures) c.route_place.ensures.0, c.route_place.ensures.2)
