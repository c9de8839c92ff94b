use Rattle.event_parted.proofs.Branches.{ending-none, ending-many, ending-more, ending-all}
use Rattle.memory.proofs.Memory.{trees-length}
use Rattle.memory.specs.Memory.{card_of}
use lib.ListN.{length}
use mathlib.Core.Path.{◌≡◌, refl, sym, ◌∙◌}
use native.Mathlib.Omega.{arith}
use Prim.Native.Nat.{◌<◌}
use Rattle.event_parted.proofs.end_branches.Goals as goal

pub loop-i-init : goal.loop-i-init
loop-i-init c = (refl, ending-none _ _)

pub end_branch-requires : goal.end_branch-requires
end_branch-requires c =
    let v = c.loop-i.invariant in
    let many = sym (trees-length _ c.args.names.now) ∙ ending-many _ _ _ _ v.1 ∙ trees-length c.args.numbers.now c.args.names.now in
    (v.0 ∙ c.requires.0, c.requires.1, c.requires.2, (omega (arith, many, c.tree_count-i-end.ensures.0), omega arith))

pub loop-i-preserved : goal.loop-i-preserved
loop-i-preserved c =
    let the-loop = c.loop-i in
    let the-tree-count = c.tree_count-i-end in
    let v = the-loop.invariant in
    let h : the-loop.i < length (card_of c.args.numbers.now c.args.names.now).trees = rw trees-length (omega (arith, the-tree-count.ensures.0)) in
    (c.numbers-1.given ∙ v.0, ending-more _ _ _ _ _ h v.1 c.end_branch.ensures)

pub shape_of-numbers : goal.shape_of-numbers
shape_of-numbers c = c.loop-i.invariant.0

pub returns : goal.returns
returns c =
    let v = c.loop-i.invariant in
    let all : c.loop-i.i ≡ length (card_of c.args.numbers.now c.args.names.now).trees = omega (arith, trees-length c.args.numbers.now c.args.names.now, c.tree_count-i-end.ensures.0) in
    ending-all _ _ _ _ all v.1
