use Prim.Native.Nat.{◌+◌}
use Rattle.meaning.specs.Events.{labels_short}
use Rattle.memory.specs.Sizes.{word_column}
use Rattle.memory.proofs.Labels.{counted}
use Rattle.memory_free.proofs.Ones.{none-short}
use Rattle.memory_free.proofs.none_free.Goals as goal

pub returns : goal.returns
unfolding labels_short
returns c os =
    let ns = c.args.numbers.now in
    none-short _ _ _ _ _ (counted ns os (λ w. (c.shared_slice_known-4-1.given (word_column + w)).fits))
