use Rattle.std.proofs.Common.{◌≡◌}
use Rattle.octets.proofs.Parts.{front}
use Rattle.bench_words.specs.Words.{octets_of}
use Rattle.bench_words.proofs.decode_hex.Given as goal

abbrev pub invariant-loop-i : goal.invariant-loop-i
invariant-loop-i l = l.out ≡ front l.i (octets_of l.hex) l.initial.out
