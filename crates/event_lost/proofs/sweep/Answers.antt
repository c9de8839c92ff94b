use native.Mathlib.Omega.{arith}
use mathlib.Core.Path.{refl, ◌∙◌}
use Rattle.memory.proofs.Memory.{tree_count-le}
use Rattle.event_lost.proofs.Empty.{sweeping-none, sweeping-more, sweeping-all}
use Rattle.event_lost.proofs.sweep.Goals as goal

pub loop-i-init : goal.loop-i-init
loop-i-init c = (refl, refl, sweeping-none _ _ _ c.tree_count-i.ensures.0)

pub sweep_one-requires : goal.sweep_one-requires
sweep_one-requires c =
    let v = c.loop-i.invariant in
    (v.0 ∙ c.requires.0, v.1 ∙ c.requires.1, (omega (arith, v.2.0), omega (arith, v.2.0, tree_count-le c.loop-i.numbers)))

pub loop-i-preserved : goal.loop-i-preserved
loop-i-preserved c =
    let the-loop = c.loop-i in
    let the-loop-test = c.loop-i-test in
    let the-sweep-one = c.sweep_one in
    let v = the-loop.invariant in
    (c.numbers-1.given ∙ v.0, c.names-1.given ∙ v.1, sweeping-more _ _ _ _ _ _ _ the-loop-test.true v.2 the-sweep-one.ensures)

pub shape_of-numbers : goal.shape_of-numbers
shape_of-numbers c = c.loop-i.invariant.0

pub shape_of-names : goal.shape_of-names
shape_of-names c = c.loop-i.invariant.1

pub returns : goal.returns
returns c = sweeping-all _ _ _ _ _ c.loop-i-test.false c.loop-i.invariant.2
