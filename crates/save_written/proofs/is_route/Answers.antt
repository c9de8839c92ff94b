-- `save_written::is_route` meets its contract. Assumes nothing.
use native.Mathlib.Omega.{arith}
use mathlib.Core.Path.{sym, ◌∙◌}
use Rattle.save_written.proofs.Steps.{route-few, route-unmarked, route-there}
use Rattle.save_written.proofs.is_route.Goals as goal

pub returns-then-octets-at : goal.returns-then-octets-at
returns-then-octets-at c =
    let a = c.args in
    route-few a.octets.now a.at c.if-octets-at.true

pub returns-then-is_marked : goal.returns-then-is_marked
returns-then-is_marked c =
    let known = c.shared_slice_known-1 in
    route-there c.args.octets.now c.args.at (λ i. omega (arith, known.given i)) c.if-octets-at.false (sym c.is_marked.ensures ∙ c.if-is_marked.true) _ c.is_space.ensures

pub returns-else-is_marked : goal.returns-else-is_marked
returns-else-is_marked c =
    let known = c.shared_slice_known-1 in
    c.if-is_marked.false ∙ route-unmarked c.args.octets.now c.args.at (λ i. omega (arith, known.given i)) c.if-octets-at.false (sym c.is_marked.ensures ∙ c.if-is_marked.false)
