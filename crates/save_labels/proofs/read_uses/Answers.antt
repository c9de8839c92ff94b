-- `save_labels::read_uses` meets its contract: the invariant is that i labels were read, and that the place is behind them. Assumes nothing.
use Rattle.save_labels.proofs.Labels.{labels-none, none-behind, unlabelled-kept, labels-more, label-behind}
use Rattle.memory.specs.Memory.{card_of}
use mathlib.Core.Path.{◌≡◌, refl, ◌∙◌}
use native.Mathlib.Omega.{arith}
use Rattle.save_labels.proofs.read_uses.Goals as goal

pub loop-init : goal.loop-init
loop-init c =
    (refl, refl, labels-none _ (card_of c.args.numbers.now c.args.names.now) c.args.octets.now c.args.from, none-behind _ (card_of c.args.numbers.now c.args.names.now) c.args.octets.now c.args.from, omega arith)

pub read_use-requires : goal.read_use-requires
read_use-requires c =
    let v = c.loop.invariant in
    (v.0 ∙ c.requires.0, v.1 ∙ c.requires.1, omega (arith, v.4), unlabelled-kept (card_of c.args.numbers.now c.args.names.now) _ _ c.requires.4 v.2)

pub overflow_add-at : goal.overflow_add-at
overflow_add-at c =
    let the-loop = c.loop in
    omega (arith, the-loop.invariant.4)

pub overflow_add-at-in-loop : goal.overflow_add-at-in-loop
overflow_add-at-in-loop c = omega (arith, c.extent_at-e.ensures.1)

pub overflow_add-at-in-loop-2 : goal.overflow_add-at-in-loop-2
overflow_add-at-in-loop-2 c =
    let the-loop = c.loop in
    omega (arith, c.extent_at-e.ensures.1, the-loop.invariant.4)

pub loop-preserved : goal.loop-preserved
loop-preserved c =
    let the-numbers = c.numbers-1 in
    let the-read-use = c.read_use in
    let l = c.loop in
    let v = l.invariant in
    let e = c.extent_at-e.ensures in
    (the-numbers.given ∙ v.0, c.names-1.given ∙ v.1, labels-more _ (card_of c.args.numbers.now c.args.names.now) c.args.octets.now c.args.from l.counter l.at _ _ v.2 v.3 the-read-use.ensures, label-behind _ (card_of c.args.numbers.now c.args.names.now) c.args.octets.now c.args.from l.counter l.at _ e.0 v.3, omega (arith, v.4, e.1))

pub shape_of-numbers : goal.shape_of-numbers
shape_of-numbers c = c.loop.invariant.0

pub shape_of-names : goal.shape_of-names
shape_of-names c = c.loop.invariant.1

pub returns : goal.returns
returns c =
    let v = c.loop.invariant in
    let done : c.loop.counter ≡ c.args.n = omega arith in
    rw (← done) v.2
