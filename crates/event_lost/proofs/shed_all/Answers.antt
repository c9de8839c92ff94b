use Prim.Native.Nat.{◌<◌}
use native.Mathlib.Omega.{arith}
use mathlib.Core.Path.{refl, ◌∙◌}
use Rattle.memory.specs.Memory.{tree_count}
use Rattle.event_lost.proofs.Shed.{shedding-none, shedding-in, shedding-room, shedding-more, shedding-all}
use Rattle.event_lost.proofs.shed_all.Goals as goal

pub loop-i-init : goal.loop-i-init
loop-i-init c = (refl, refl, shedding-none _ _ _ _)

pub shed_one-last-requires : goal.shed_one-last-requires
shed_one-last-requires c =
    let the-tree-count = c.tree_count-k in
    let v = c.loop-i.invariant in
    let h : c.loop-i.i < tree_count c.args.numbers.now = omega (arith, the-tree-count.ensures.0) in
    (v.0 ∙ c.requires.0, c.requires.1, rw v.1 (shedding-room _ _ _ _ _ _ _ _ _ h v.2 _ c.requires.2), (shedding-in _ _ _ _ _ _ _ _ _ h v.2, omega arith))

pub loop-i-preserved : goal.loop-i-preserved
loop-i-preserved c =
    let the-loop = c.loop-i in
    let the-tree-count = c.tree_count-k in
    let the-shed-one = c.shed_one-last in
    let v = the-loop.invariant in
    let h : the-loop.i < tree_count c.args.numbers.now = omega (arith, the-tree-count.ensures.0) in
    let room = shedding-room _ _ _ _ _ _ _ _ _ h v.2 _ c.requires.2 in
    (c.numbers-1.given ∙ v.0, c.out-1.given ∙ v.1, shedding-more _ _ _ _ _ _ _ _ _ h v.2 _ _ _ _ (omega (arith, room)) the-shed-one.ensures)

pub shape_of-numbers : goal.shape_of-numbers
shape_of-numbers c = c.loop-i.invariant.0

pub shape_of-out : goal.shape_of-out
shape_of-out c = c.loop-i.invariant.1

pub returns : goal.returns
returns c =
    let v = c.loop-i.invariant in
    shedding-all _ _ _ _ _ _ _ _ _ _ c.tree_count-k.ensures.0 c.loop-i.auto.i-end c.loop-i-test.false v.2
