use Prim.Native.Nat.{◌<◌}
use native.Mathlib.Omega.{arith}
use mathlib.Core.Path.{refl, ◌∙◌}
use Rattle.memory.specs.Memory.{tree_count}
use Rattle.event_roots.proofs.Roots.{moving-none, moving-in, moving-need, moving-room, moving-more, moving-all}
use Rattle.event_roots.proofs.move_all.Goals as goal

pub loop-i-init : goal.loop-i-init
loop-i-init c = (refl, refl, refl, moving-none _ _ _ _ _ _)

pub move_one-last-requires : goal.move_one-last-requires
move_one-last-requires c =
    let the-loop = c.loop-i in
    let the-tree-count = c.tree_count-n in
    let v = the-loop.invariant in
    let h : the-loop.i < tree_count c.args.numbers.now = omega (arith, the-tree-count.ensures.0) in
    (v.0 ∙ c.requires.0, v.1 ∙ c.requires.1, c.requires.2, c.requires.3, moving-need _ _ _ _ _ _ _ _ _ _ _ _ h v.3 c.requires.4, rw v.2 (moving-room _ _ _ _ _ _ _ _ _ _ _ _ h v.3 _ c.requires.5), (moving-in _ _ _ _ _ _ _ _ _ _ _ _ h v.3, omega arith))

pub loop-i-preserved : goal.loop-i-preserved
loop-i-preserved c =
    let the-loop = c.loop-i in
    let the-move-one = c.move_one-last in
    let the-tree-count = c.tree_count-n in
    let the-numbers = c.numbers-1 in
    let v = the-loop.invariant in
    let w = the-move-one.ensures in
    let h : the-loop.i < tree_count c.args.numbers.now = omega (arith, the-tree-count.ensures.0) in
    let room = moving-room _ _ _ _ _ _ _ _ _ _ _ _ h v.3 _ c.requires.5 in
    (the-numbers.given ∙ v.0, c.names-1.given ∙ v.1, c.out-1.given ∙ v.2, moving-more _ _ _ _ _ _ _ _ _ _ _ _ h v.3 _ _ _ _ _ (omega (arith, room)) w.0 w.1)

pub shape_of-numbers : goal.shape_of-numbers
shape_of-numbers c = c.loop-i.invariant.0

pub shape_of-names : goal.shape_of-names
shape_of-names c = c.loop-i.invariant.1

pub shape_of-out : goal.shape_of-out
shape_of-out c = c.loop-i.invariant.2

pub returns : goal.returns
returns c =
    let v = c.loop-i.invariant in
    moving-all _ _ _ _ _ _ _ _ _ _ _ _ _ c.tree_count-n.ensures.0 c.loop-i.auto.i-end c.loop-i-test.false v.3
