use Rattle.bench_words.specs.Words.{is_hex}
use borrow.Author.Rules.{rules}
use Rattle.bench_words.proofs.is_hex.Goals as goal

pub returns : goal.returns
unfolding is_hex
returns c = c.is_hex_to.ensures
