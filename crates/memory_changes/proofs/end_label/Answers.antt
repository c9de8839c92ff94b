use native.Mathlib.Omega.{arith}
use mathlib.Core.List.{[]}
use Rattle.memory.proofs.Trees.{label-carried, own-inside, ends}
use Rattle.memory_changes.proofs.end_label.Goals as goal

pub overflow_add-k-2 : goal.overflow_add-k-2
overflow_add-k-2 c =
    omega (arith, own-inside c.args.numbers.now [] c.args.i c.requires.0 c.requires.2.0 c.requires.2.1 (label-carried c.args.numbers.now [] c.args.i c.requires.2.0 (c.requires.1 [])))

pub offset_bounds-numbers-k : goal.offset_bounds-numbers-k
offset_bounds-numbers-k c =
    omega (arith, own-inside c.args.numbers.now [] c.args.i c.requires.0 c.requires.2.0 c.requires.2.1 (label-carried c.args.numbers.now [] c.args.i c.requires.2.0 (c.requires.1 [])))

pub bounds-numbers-k : goal.bounds-numbers-k
bounds-numbers-k c =
    omega (arith, own-inside c.args.numbers.now [] c.args.i c.requires.0 c.requires.2.0 c.requires.2.1 (label-carried c.args.numbers.now [] c.args.i c.requires.2.0 (c.requires.1 [])))

pub offset_bounds-numbers-k-2 : goal.offset_bounds-numbers-k-2
offset_bounds-numbers-k-2 c =
    omega (arith, own-inside c.args.numbers.now [] c.args.i c.requires.0 c.requires.2.0 c.requires.2.1 (label-carried c.args.numbers.now [] c.args.i c.requires.2.0 (c.requires.1 [])))

pub bounds-numbers-k-2 : goal.bounds-numbers-k-2
bounds-numbers-k-2 c =
    omega (arith, own-inside c.args.numbers.now [] c.args.i c.requires.0 c.requires.2.0 c.requires.2.1 (label-carried c.args.numbers.now [] c.args.i c.requires.2.0 (c.requires.1 [])))

pub returns : goal.returns
returns c =
    λ os. ends c.args.numbers.now os c.args.i c.requires.0 c.requires.2.0 c.requires.2.1 (label-carried c.args.numbers.now os c.args.i c.requires.2.0 (c.requires.1 os))
