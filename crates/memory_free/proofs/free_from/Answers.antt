use native.Mathlib.Omega.{arith}
use lib.Count.{trailing_le}
use Prim.Native.Nat.{◌+◌, ◌/◌, ◌%◌, ◌^◌}
use Rattle.meaning.specs.Lists.{positive}
use Rattle.memory.specs.Sizes.{word_column}
use Rattle.memory.specs.Memory.{word_at}
use Rattle.memory.proofs.NextFree.{first-here, first-behind, first_past, first_on}
use Rattle.memory_free.proofs.free_from.Goals as goal

pub returns-then-i-ge-LABEL_COUNT : goal.returns-then-i-ge-LABEL_COUNT
returns-then-i-ge-LABEL_COUNT c = first_past _ c.args.i c.if-i-ge-LABEL_COUNT.true c.requires.1

pub overflow_cast-result : goal.overflow_cast-result
overflow_cast-result c =
    omega (arith, trailing_le 64 (word_at c.args.numbers.now (c.args.i / 64) / 2 ^ (c.args.i % 64)))

pub overflow_add-result : goal.overflow_add-result
overflow_add-result c =
    omega (arith, trailing_le 64 (word_at c.args.numbers.now (c.args.i / 64) / 2 ^ (c.args.i % 64)))

pub returns-then-x-ne0 : goal.returns-then-x-ne0
returns-then-x-ne0 c =
    first-here _ c.args.i c.if-i-ge-LABEL_COUNT.false (positive _ c.if-x-ne0.true) (c.shared_slice_known-2-1.given (word_column + c.args.i / 64)).fits

pub returns : goal.returns
returns c =
    first_on _ c.args.i _ (first-behind _ c.args.i c.if-i-ge-LABEL_COUNT.false c.if-x-ne0.false) c.free_from_word.ensures
