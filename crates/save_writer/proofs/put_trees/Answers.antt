-- `save_writer::put_trees` meets its contract: the invariant is that i rows stand. Assumes nothing.
use borrow.Author.Rules.{rules}
use Rattle.save_records.proofs.Rows.{rows_none, rows-room, rows-lent, rows-done}
use Rattle.memory.proofs.Memory.{tree-at}
use Rattle.memory.specs.Memory.{tree_count}
use Rattle.meaning_save.specs.Save.{form_of, tree_saved}
use Prim.Native.Nat.{◌<◌}
use Rattle.save_writer.proofs.Saved.{trees-lot, tree-size}
use mathlib.Core.Path.{sym, ap, ◌∙◌}
use native.Mathlib.Omega.{arith}
use Rattle.save_writer.proofs.put_trees.Goals as goal

pub loop-i-init : goal.loop-i-init
loop-i-init c =
    let a = c.args in rows_none (trees-lot (form_of a.second) a.numbers.now a.names.now a.from a.out.now c.requires.2)

pub tree_size-requires : goal.tree_size-requires
tree_size-requires c = (search rules, omega arith)

pub overflow_add-e : goal.overflow_add-e
overflow_add-e c =
    let a = c.args in
    let l = c.loop-i in
    let lot = trees-lot (form_of a.second) a.numbers.now a.names.now a.from a.out.now c.requires.2 in
    let lt : l.i < tree_count a.numbers.now = omega (arith, c.tree_count-n.ensures.0) in
    let k = tree-size (form_of a.second) a.numbers.now a.names.now l.i lt in
    omega (arith, rows-room lot l.i l.at l.out l.invariant _ lt k, c.tree_size.ensures.0 a.numbers.now lt)

pub slice_bounds-put_tree_record-end : goal.slice_bounds-put_tree_record-end
slice_bounds-put_tree_record-end c =
    let a = c.args in
    let l = c.loop-i in
    let lot = trees-lot (form_of a.second) a.numbers.now a.names.now a.from a.out.now c.requires.2 in
    let lt : l.i < tree_count a.numbers.now = omega (arith, c.tree_count-n.ensures.0) in
    let k = tree-size (form_of a.second) a.numbers.now a.names.now l.i lt in
    omega (arith, rows-room lot l.i l.at l.out l.invariant _ lt k, c.tree_size.ensures.0 a.numbers.now lt)

pub put_tree_record-requires : goal.put_tree_record-requires
put_tree_record-requires c =
    let the-tree-count = c.tree_count-n in
    let a = c.args in
    let l = c.loop-i in
    let lot = trees-lot (form_of a.second) a.numbers.now a.names.now a.from a.out.now c.requires.2 in
    let lt : l.i < tree_count a.numbers.now = omega (arith, the-tree-count.ensures.0) in
    let k = tree-size (form_of a.second) a.numbers.now a.names.now l.i lt in
    (search rules, search rules, omega (arith, c.tree_size.ensures.0 a.numbers.now lt), (lt, omega arith))

pub loop-i-preserved : goal.loop-i-preserved
loop-i-preserved c =
    let the-tree-count = c.tree_count-n in
    let the-tree-size = c.tree_size in
    let a = c.args in
    let l = c.loop-i in
    let lot = trees-lot (form_of a.second) a.numbers.now a.names.now a.from a.out.now c.requires.2 in
    let lt : l.i < tree_count a.numbers.now = omega (arith, the-tree-count.ensures.0) in
    let k = tree-size (form_of a.second) a.numbers.now a.names.now l.i lt in
    rows-lent lot l.i l.at l.out l.invariant _ _ lt (c.put_tree_record.ensures ∙ ap (tree_saved (form_of a.second)) (tree-at a.numbers.now a.names.now l.i lt)) (k ∙ sym (the-tree-size.ensures.0 a.numbers.now lt))

pub shape_of-out : goal.shape_of-out
shape_of-out c = c.loop-i.invariant.1

pub returns : goal.returns
returns c =
    let a = c.args in
    rows-done (trees-lot (form_of a.second) a.numbers.now a.names.now a.from a.out.now c.requires.2) _ _ _ c.loop-i.invariant (omega (arith, c.tree_count-n.ensures.0))
