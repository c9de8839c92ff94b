use Prim.Native.Nat.{◌/◌, ◌%◌}
use native.Mathlib.Omega.{arith}
use mathlib.Core.Bool.{true}
use Rattle.octets.proofs.Bits.{one_shifted, set_same, set_other}
use Rattle.memory.specs.Memory.{word_at}
use Rattle.memory.proofs.Marks.{rebit}
use Rattle.memory_free.proofs.set_free.Goals as goal

pub returns : goal.returns
returns c =
    let ns = c.args.numbers.now in
    let p = c.args.p in
    let e = one_shifted (p % 64) (omega arith) in
    rebit ns p _ c.requires.1 c.requires.0 true (set_same (word_at ns (p / 64)) (p % 64) _ e) (λ j lt ne. set_other (word_at ns (p / 64)) (p % 64) _ e j ne)
