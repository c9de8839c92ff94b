use Prim.Native.Nat.{◌+◌}
use native.Mathlib.Omega.{arith}
use mathlib.Core.Path.{refl}
use lib.Count.{trailing_le}
use Rattle.meaning.specs.Lists.{positive}
use Rattle.memory.specs.Sizes.{word_column}
use Rattle.memory.specs.Memory.{word_at}
use Rattle.memory.proofs.NextFree.{first_word, first_next, first-none}
use Rattle.memory_free.proofs.free_from_word.Goals as goal

pub loop-w-init : goal.loop-w-init
loop-w-init c = λ os. refl

pub overflow_cast-result : goal.overflow_cast-result
overflow_cast-result c =
    omega (arith, trailing_le 64 (word_at c.args.numbers.now c.loop-w.w))

pub overflow_add-result : goal.overflow_add-result
overflow_add-result c =
    omega (arith, trailing_le 64 (word_at c.args.numbers.now c.loop-w.w))

pub returns-then-x-ne0 : goal.returns-then-x-ne0
returns-then-x-ne0 c =
    first_word _ _ c.loop-w.w c.loop-w-test.true c.loop-w.invariant (positive _ c.if-x-ne0.true) (c.shared_slice_known-1.given (word_column + c.loop-w.w)).fits

pub loop-w-preserved : goal.loop-w-preserved
loop-w-preserved c =
    first_next _ _ c.loop-w.w c.loop-w-test.true c.loop-w.invariant c.if-x-ne0.false

pub returns : goal.returns
returns c = first-none _ _ c.loop-w.w c.loop-w-test.false (c.loop-w.auto.w-end c.requires.1) c.loop-w.invariant
