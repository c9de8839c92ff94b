-- `save_rows::read_trees` meets its contract: the invariant is that i trees stand, and that the place is behind them. Assumes nothing.
use Rattle.save_rows.proofs.Rows.{trees-none, none-behind, trees-room, trees-more, tree-behind}
use Rattle.memory.specs.Memory.{card_of}
use mathlib.Core.Path.{◌≡◌, refl, ◌∙◌}
use native.Mathlib.Omega.{arith}
use Rattle.save_rows.proofs.read_trees.Goals as goal

pub loop-init : goal.loop-init
loop-init c =
    (refl, refl, trees-none _ (card_of c.args.numbers.now c.args.names.now) c.args.octets.now c.args.from c.requires.4, none-behind _ (card_of c.args.numbers.now c.args.names.now) c.args.octets.now c.args.from, omega arith)

pub overflow_add-at : goal.overflow_add-at
overflow_add-at c = omega (arith, c.loop.invariant.4)

pub read_tree-requires : goal.read_tree-requires
read_tree-requires c =
    let the-loop = c.loop in
    let v = the-loop.invariant in
    (v.0 ∙ c.requires.0, v.1 ∙ c.requires.1, omega (arith, trees-room _ (card_of c.args.numbers.now c.args.names.now) c.args.octets.now c.args.from _ _ _ v.2), omega (arith, v.4), c.extent_at-e.ensures.0, c.extent_at-e.ensures.1)

pub overflow_add-at-in-loop : goal.overflow_add-at-in-loop
overflow_add-at-in-loop c =
    let the-extent-at = c.extent_at-e in
    omega (arith, the-extent-at.ensures.1)

pub overflow_add-at-in-loop-2 : goal.overflow_add-at-in-loop-2
overflow_add-at-in-loop-2 c =
    let the-extent-at = c.extent_at-e in
    let the-loop = c.loop in
    omega (arith, the-extent-at.ensures.1, the-loop.invariant.4)

pub loop-preserved : goal.loop-preserved
loop-preserved c =
    let the-extent-at = c.extent_at-e in
    let the-read-tree = c.read_tree in
    let l = c.loop in
    let v = l.invariant in
    let e = the-extent-at.ensures in
    (c.numbers-1.given ∙ v.0, c.names-1.given ∙ v.1, trees-more _ (card_of c.args.numbers.now c.args.names.now) c.args.octets.now c.args.from l.counter l.at _ _ _ _ v.2 v.3 the-read-tree.ensures, tree-behind _ c.args.octets.now l.at _ e.0 l.counter c.args.from v.3, omega (arith, v.4, e.1))

pub shape_of-numbers : goal.shape_of-numbers
shape_of-numbers c = c.loop.invariant.0

pub shape_of-names : goal.shape_of-names
shape_of-names c = c.loop.invariant.1

pub returns : goal.returns
returns c =
    let v = c.loop.invariant in
    let done : c.loop.counter ≡ c.args.n = omega arith in
    rw (← done) (v.2, v.3, v.4)
