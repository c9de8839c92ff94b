use Rattle.std.proofs.Common.{arith, sym, ◌∙◌}
use Rattle.memory.specs.Memory.{card_of}
use Rattle.memory.proofs.Memory.{trees-length}
use Rattle.bench_lines.proofs.Text.{adds_none, adds_then}
use Rattle.layers.specs.Shown.{trees_text}
use Rattle.layers.proofs.Printed.{trees-more, table-whole}
use Rattle.layers.proofs.put_trees.Goals as goal

pub loop-i-init : goal.loop-i-init
loop-i-init c = record { short = omega arith; adds = unfold trees_text in (adds_none c.args.text.now 0) }

pub add_tree-at-requires : goal.add_tree-at-requires
add_tree-at-requires c =
    let count = c.tree_count-n.ensures in
    let inv = c.loop-i.invariant in
    let test = c.loop-i-test.true in
    let few = trees-length c.args.numbers.now c.args.names.now in
    (c.requires.0, c.requires.1, c.requires.2 _ (omega (arith, few, count.0, test)), omega (arith, inv.short, count.1, test, c.requires.3), (omega (arith, count.0, test), omega (arith, count.1, test)))

pub loop-i-preserved : goal.loop-i-preserved
loop-i-preserved c =
    let count = c.tree_count-n.ensures in
    let test = c.loop-i-test.true in
    let line = c.add_tree-at in
    let few = trees-length c.args.numbers.now c.args.names.now in
    let more = trees-more (card_of c.args.numbers.now c.args.names.now) c.loop-i.i (omega (arith, few, count.0, test)) in
    record {
      short = omega (arith, line.ensures.upper_bound, c.loop-i.invariant.short);
      adds = rw (sym more) (adds_then c.loop-i.invariant.adds line.ensures.fact);
    }

pub returns : goal.returns
returns c =
    let count = c.tree_count-n.ensures in
    let few = trees-length c.args.numbers.now c.args.names.now in
    let all = table-whole (card_of c.args.numbers.now c.args.names.now) c.loop-i.i (omega (arith, few, count.0, c.loop-i-test.false)) in
    record { text_after = c.loop-i.invariant.adds.text ∙ all; upper_bound = omega (arith, c.loop-i.invariant.short, count.1) }
