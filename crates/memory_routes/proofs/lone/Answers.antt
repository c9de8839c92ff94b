use native.Mathlib.Omega.{arith}
use mathlib.Core.Path.{refl}
use borrow.Author.Rules.{rules}
use Rattle.memory.specs.Memory.{entry_in, route_in}
use Rattle.memory_routes.proofs.lone.Goals as goal

pub returns : goal.returns
unfolding route_in entry_in
returns c = ((λ os. refl), omega arith)
