use Prim.Native.Nat.{◌+◌, ◌*◌}
use native.Mathlib.Omega.{arith}
use mathlib.Core.Path.{refl, sym, ◌∙◌}
use lib.ListN.{length}
use Rattle.memory.specs.Sizes.{name_space}
use Rattle.memory_counts.proofs.Counting.{may-not-of}
use Rattle.memory_counts.proofs.may_be_of.Goals as goal

pub returns : goal.returns
returns c =
    let a = c.args in
    let n = length a.root.now in
    λ z. may-not-of a.names.now a.root.now a.i n (a.i * name_space + n + 1) refl (omega arith) refl (omega arith) (sym c.equal_four.ensures ∙ z)
