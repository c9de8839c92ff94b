-- `save_counts::work_out_all` meets its contract: the invariant is that the first i trees are counted, and hold right. Assumes nothing.
use Rattle.save_counts.proofs.Entries.{working-none, working-many, working-more, working-all}
use Rattle.save_counts.proofs.Held.{held-working}
use Rattle.save_rules_rows.proofs.RowRules.{all-hit, all-miss, all_none, tree-there, trees-end}
use Rattle.meaning.specs.Lists.{never}
use Rattle.memory.proofs.Memory.{trees-length, tree_count-le}
use mathlib.Core.Path.{refl, sym, ◌∙◌}
use native.Mathlib.Omega.{arith}
use mathlib.Core.Path.{ap}
use mathlib.Core.Bool.{not}
use Rattle.save_counts.proofs.work_out_all.Goals as goal

pub loop-i-init : goal.loop-i-init
loop-i-init c =
    (refl, working-none _ c.requires.3, refl)

pub count_tree-requires : goal.count_tree-requires
count_tree-requires c =
    let v = c.loop-i.invariant in
    let many = sym (trees-length _ c.args.names.now) ∙ working-many _ _ _ v.1 ∙ trees-length c.args.numbers.now c.args.names.now in
    let n = c.tree_count-n.ensures in
    (v.0 ∙ c.requires.0, c.requires.1, (omega (arith, many, n.0), omega (arith, tree_count-le c.args.numbers.now, n.0)))

pub shape_of-numbers-then-not-count_tree : goal.shape_of-numbers-then-not-count_tree
shape_of-numbers-then-not-count_tree c =
    let the-loop = c.loop-i in
    c.numbers-1.given ∙ the-loop.invariant.0

pub returns-then-not-count_tree : goal.returns-then-not-count_tree
returns-then-not-count_tree c =
    let the-loop = c.loop-i in
    let the-loop-test = c.loop-i-test in
    let the-tree-count = c.tree_count-n in
    let here = tree-there _ _ _ _ the-tree-count.ensures.0 the-loop-test.true in
    let its = c.count_tree.ensures.1 ∙ held-working _ _ _ the-loop.invariant.1 in
    (sym (the-loop.invariant.2 ∙ all-miss _ _ _ here _ _ its (ap not c.if-not-count_tree.true)), (λ t. absurd (never t)))

pub loop-i-preserved : goal.loop-i-preserved
loop-i-preserved c =
    let the-loop = c.loop-i in
    let the-loop-test = c.loop-i-test in
    let the-tree-count = c.tree_count-n in
    let the-count-tree = c.count_tree in
    let v = the-loop.invariant in
    let n = the-tree-count.ensures in
    let here = tree-there c.args.numbers.now c.args.names.now _ _ n.0 the-loop-test.true in
    let its = the-count-tree.ensures.1 ∙ held-working _ _ _ v.1 in (
      c.numbers-1.given ∙ v.0,
      working-more _ _ _ v.1 _ here.inside (rw trees-length (tree_count-le _)) c.requires.2 the-count-tree.ensures.0,
      v.2 ∙ all-hit _ _ _ here _ _ its (ap not c.if-not-count_tree.false),
    )

pub shape_of-numbers : goal.shape_of-numbers
shape_of-numbers c = c.loop-i.invariant.0

pub returns : goal.returns
returns c =
    let the-loop = c.loop-i in
    let end = trees-end _ _ _ _ c.tree_count-n.ensures.0 c.loop-i-test.false in
    (sym (the-loop.invariant.2 ∙ all_none _ _ end _), (λ _. working-all _ _ _ the-loop.invariant.1 end))
