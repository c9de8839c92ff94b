use Prim.Native.Nat.{◌/◌, ◌%◌}
use native.Mathlib.Omega.{arith}
use mathlib.Core.Bool.{false}
use Rattle.octets.proofs.Bits.{one_shifted, clear-same, clear-other}
use Rattle.memory.specs.Memory.{word_at}
use Rattle.memory.proofs.Marks.{rebit}
use Rattle.memory_free.proofs.set_taken.Goals as goal

pub returns : goal.returns
returns c =
    let ns = c.args.numbers.now in
    let p = c.args.p in
    let e = one_shifted (p % 64) (omega arith) in
    rebit ns p _ c.requires.1 c.requires.0 false (clear-same (word_at ns (p / 64)) (p % 64) _ e (omega arith)) (λ j lt ne. clear-other (word_at ns (p / 64)) (p % 64) _ e (omega arith) j lt ne)
