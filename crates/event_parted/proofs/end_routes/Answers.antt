use native.Mathlib.Omega.{arith}
use mathlib.Core.Path.{refl, ◌∙◌}
use Rattle.memory.proofs.Memory.{route_count-le}
use Rattle.event_parted.proofs.Routes.{going-none, going_more, going-all}
use Rattle.event_parted.proofs.end_routes.Goals as goal

pub loop-k-init : goal.loop-k-init
loop-k-init c = (refl, refl, going-none _ _ _ _ c.route_count-k.ensures.0)

pub end_route-requires : goal.end_route-requires
end_route-requires c =
    let v = c.loop-k.invariant in
    (v.0 ∙ c.requires.0, v.1 ∙ c.requires.1, omega (arith, v.2.0), omega (arith, v.2.0, route_count-le c.loop-k.numbers))

pub loop-k-preserved : goal.loop-k-preserved
loop-k-preserved c =
    let the-loop = c.loop-k in
    let the-loop-test = c.loop-k-test in
    let the-end-route = c.end_route in
    let v = the-loop.invariant in
    (c.numbers-1.given ∙ v.0, c.names-1.given ∙ v.1, going_more _ _ _ _ _ _ _ _ the-loop-test.true v.2 the-end-route.ensures)

pub shape_of-numbers : goal.shape_of-numbers
shape_of-numbers c = c.loop-k.invariant.0

pub shape_of-names : goal.shape_of-names
shape_of-names c = c.loop-k.invariant.1

pub returns : goal.returns
returns c = going-all _ _ _ _ _ _ c.loop-k-test.false c.loop-k.invariant.2
