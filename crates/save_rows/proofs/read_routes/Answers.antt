use native.Mathlib.Omega.{arith}
use mathlib.Core.Path.{◌≡◌, refl, ◌∙◌}
use Rattle.memory.specs.Memory.{card_of}
use Rattle.save_rows.proofs.Rows.{routes-none, routes-more, routes-room}
use Rattle.save_rows.proofs.read_routes.Goals as goal

pub loop-i-init : goal.loop-i-init
loop-i-init c = (refl, refl, routes-none (card_of c.args.numbers.now c.args.names.now) c.args.octets.now c.args.at c.requires.4)

pub read_route-requires : goal.read_route-requires
read_route-requires c =
    let v = c.loop-i.invariant in
    (v.0 ∙ c.requires.0, v.1 ∙ c.requires.1, omega (arith, routes-room (card_of c.args.numbers.now c.args.names.now) c.args.octets.now c.args.at _ _ _ v.2), omega arith)

pub loop-i-preserved : goal.loop-i-preserved
loop-i-preserved c =
    let the-read-route = c.read_route in
    let v = c.loop-i.invariant in
    (c.numbers-1.given ∙ v.0, c.names-1.given ∙ v.1, routes-more (card_of c.args.numbers.now c.args.names.now) c.args.octets.now c.args.at _ _ _ _ _ v.2 the-read-route.ensures)

pub shape_of-numbers : goal.shape_of-numbers
shape_of-numbers c = c.loop-i.invariant.0

pub shape_of-names : goal.shape_of-names
shape_of-names c = c.loop-i.invariant.1

pub returns : goal.returns
returns c =
    let v = c.loop-i.invariant in
    let e : c.loop-i.i ≡ c.args.n = omega arith in
    rw (← e) v.2
