use Rattle.bench_words.proofs.Words.{next_word_at}
use Rattle.bench_words.proofs.next_word.Goals as goal

pub returns : goal.returns
returns c = next_word_at _ _ _ _ c.requires c.gaps.ensures c.letters.ensures
