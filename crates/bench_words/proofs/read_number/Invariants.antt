use Rattle.std.proofs.Common.{◌≡◌, ◌<◌, drop}
use Rattle.meaning.specs.Octets.{all}
use Rattle.bench_words.specs.Words.{is_digit, value_from}
use Rattle.bench_words.proofs.read_number.Given as goal

abbrev pub invariant-loop-c : goal.invariant-loop-c
invariant-loop-c l = record {
  small : l.value < 4294967296;
  digits : all is_digit l.word ≡ all is_digit (drop l.c-index l.word);
  sum : value_from 0 l.word ≡ value_from l.value (drop l.c-index l.word);
}
