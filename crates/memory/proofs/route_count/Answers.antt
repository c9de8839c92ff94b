use native.Mathlib.Omega.{arith}
use mathlib.Core.Path.{sym}
use Rattle.meaning.specs.Card.{route_limit}
use Rattle.memory.specs.Memory.{route_count}
use Rattle.memory.proofs.Memory.{up_to-in, up_to-above}
use Rattle.memory.proofs.route_count.Goals as goal

pub returns-then-n-lt-ROUTES : goal.returns-then-n-lt-ROUTES
unfolding route_count
returns-then-n-lt-ROUTES c = (sym (up_to-in route_limit _ (omega arith)), omega arith)

pub returns-else-n-lt-ROUTES : goal.returns-else-n-lt-ROUTES
unfolding route_count
returns-else-n-lt-ROUTES c = (sym (up_to-above route_limit _ c.if-n-lt-ROUTES.false), omega arith)
