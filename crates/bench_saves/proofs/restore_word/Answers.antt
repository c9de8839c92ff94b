-- `bench_saves::restore_word` meets its contract, in either form. Assumes nothing.
use Rattle.std.proofs.Common.{refl, arith}
use Rattle.bench_words.specs.Words.{ascii}
use Rattle.meaning_save.specs.Save.{form_of}
use Rattle.bench_replies.specs.Reply.{restore_word}
use Rattle.bench_saves.proofs.restore_word.Goals as goal

pub returns-then-second : goal.returns-then-second
unfolding restore_word form_of ascii
returns-then-second c = rw c.if-second.true (refl, omega arith)

pub returns-else-second : goal.returns-else-second
unfolding restore_word form_of ascii
returns-else-second c = rw c.if-second.false (refl, omega arith)
