-- `save_writer::trees_size` meets its contract: in the old form it is a product, in the new one the invariant is that the sum is that of i trees. Assumes nothing.
use borrow.Author.Rules.{rules}
use Rattle.memory.specs.Memory.{tree_count}
use Rattle.meaning_save.specs.Save.{form_of}
use Prim.Native.Nat.{◌<◌}
use Rattle.save_writer.proofs.Saved.{tree_row, trees-rows, tree-size, sum-none, sum_more, sum_done, spaced-trees}
use mathlib.Core.Path.{sym, ◌∙◌}
use native.Mathlib.Omega.{arith}
use Rattle.save_writer.proofs.trees_size.Goals as goal

pub returns-then-not-second : goal.returns-then-not-second
returns-then-not-second c =
    let n = c.tree_count-n.ensures in
    (spaced-trees _ _ _ _ c.if-not-second.true n.0, omega (arith, n.1))

pub loop-i-init : goal.loop-i-init
loop-i-init c = (sum-none _, omega arith)

pub tree_size-total-requires : goal.tree_size-total-requires
tree_size-total-requires c = (search rules, omega arith)

pub loop-i-preserved : goal.loop-i-preserved
loop-i-preserved c =
    let a = c.args in
    let l = c.loop-i in
    let lt : l.i < tree_count a.numbers.now = omega (arith, c.tree_count-n.ensures.0) in
    let k = c.tree_size-total.ensures in
    (sum_more (tree_row (form_of a.second) a.numbers.now a.names.now) _ _ _ l.invariant.0 (k.0 a.numbers.now lt ∙ sym (tree-size (form_of a.second) a.numbers.now a.names.now l.i lt)), omega (arith, l.invariant.1, k.1))

pub returns : goal.returns
returns c =
    let a = c.args in
    let l = c.loop-i in
    let n = c.tree_count-n.ensures in
    (sum_done (tree_row (form_of a.second) a.numbers.now a.names.now) l.i (tree_count a.numbers.now) _ _ (trees-rows (form_of a.second) a.numbers.now a.names.now) (omega (arith, n.0)) (omega (arith, n.0)) l.invariant.0, omega (arith, l.invariant.1, n.1))
