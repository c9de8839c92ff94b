use Rattle.std.proofs.Common.{◌≡◌, ◌*◌}
use Rattle.octets.proofs.Parts.{front}
use Rattle.bench_words.specs.Words.{hex_of}
use Rattle.bench_words.proofs.put_hex.Given as goal

abbrev pub invariant-loop-i : goal.invariant-loop-i
invariant-loop-i l = l.out ≡ front (l.i * 2) (hex_of l.octets) l.initial.out
