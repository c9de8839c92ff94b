use Prim.Native.Nat.{◌+◌}
use native.Mathlib.Omega.{arith}
use Rattle.memory.proofs.Labels.{few-in, counted}
use Rattle.memory.specs.Sizes.{word_column}
use Rattle.memory_free.proofs.free_labels.Goals as goal

pub overflow_add-result : goal.overflow_add-result
overflow_add-result c = let few = few-in c.args.numbers.now (λ w. (c.shared_slice_known-2-1.given (word_column + w)).fits) in omega (arith, few 0, few 1)

pub overflow_add-result-2 : goal.overflow_add-result-2
overflow_add-result-2 c = let few = few-in c.args.numbers.now (λ w. (c.shared_slice_known-3-1.given (word_column + w)).fits) in omega (arith, few 0, few 1, few 2)

pub overflow_add-result-3 : goal.overflow_add-result-3
overflow_add-result-3 c =
    let few = few-in c.args.numbers.now (λ w. (c.shared_slice_known-4-1.given (word_column + w)).fits) in omega (arith, few 0, few 1, few 2, few 3)

pub overflow_cast-result : goal.overflow_cast-result
overflow_cast-result c =
    let few = few-in c.args.numbers.now (λ w. (c.shared_slice_known-4-1.given (word_column + w)).fits) in omega (arith, few 0, few 1, few 2, few 3)

pub returns : goal.returns
returns c =
    let ns = c.args.numbers.now in
    let few = few-in ns (λ w. (c.shared_slice_known-4-1.given (word_column + w)).fits) in
    ((λ os. counted ns os (λ w. (c.shared_slice_known-4-1.given (word_column + w)).fits)), omega (arith, few 0, few 1, few 2, few 3))
