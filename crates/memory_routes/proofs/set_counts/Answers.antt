use Rattle.memory.specs.Memory.{entry_in, route_in}
use Rattle.memory_routes.proofs.Routes.{set-entry}
use borrow.Author.Rules.{rules}
use Rattle.memory_routes.proofs.set_counts.Goals as goal

pub returns : goal.returns
unfolding route_in entry_in
returns c = λ os. set-entry _ os _ _ c.requires.0 c.requires.1 _ (c.entry_number.ensures _)
