use Rattle.bench_words.proofs.Words.{word_none, word_some}
use Rattle.bench_orders.proofs.Verbs.{more-bad}
use Rattle.bench_orders.proofs.with_words.Goals as goal

pub returns-then-is_empty : goal.returns-then-is_empty
returns-then-is_empty c = rw (word_none c.next_word-first.ensures c.is_empty.ensures c.if-is_empty.true) (c.with_none.ensures c.args.line.now)

pub returns-then-is_empty-2 : goal.returns-then-is_empty-2
returns-then-is_empty-2 c =
    rw (word_some c.next_word-first.ensures c.is_empty.ensures c.if-is_empty.false, word_none c.next_word-second.ensures c.is_empty-2.ensures c.if-is_empty-2.true) c.with_one.ensures

pub returns : goal.returns
returns c =
    rw (
      word_some c.next_word-first.ensures c.is_empty.ensures c.if-is_empty.false,
      word_some c.next_word-second.ensures c.is_empty-2.ensures c.if-is_empty-2.false,
      word_some c.next_word-third.ensures c.is_empty-3.ensures c.if-is_empty-3.false,
      word_some c.next_word-fourth.ensures c.is_empty-4.ensures c.if-is_empty-4.false,
    ) (more-bad _ _ _ _ _ _)
