use lib.ListN.{length-set}
use native.Mathlib.Omega.{arith}
use Rattle.memory_routes.proofs.Routes.{append-route}
use borrow.Author.Rules.{rules}
use Rattle.memory_routes.proofs.append_route.Goals as goal

pub bounds-numbers-2 : goal.bounds-numbers-2
bounds-numbers-2 c = simp length-set (omega arith)

pub returns : goal.returns
returns c =
    append-route _ _ _ _ _ _ _ c.requires.0 c.route_count-n.ensures.0 (omega (arith, c.route_count-n.ensures.0)) c.requires.3 c.set_text.ensures (c.entry_number.ensures _)
