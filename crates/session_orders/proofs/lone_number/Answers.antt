use Rattle.bench_words.proofs.Words.{word_none, word_some}
use Rattle.session_orders.specs.Told.{lone_number}
use Rattle.session_orders.proofs.lone_number.Goals as goal

pub returns-then-is_empty : goal.returns-then-is_empty
unfolding lone_number
returns-then-is_empty c = rw (word_none c.next_word-first.ensures c.is_empty.ensures c.if-is_empty.true)

pub returns-then-is_empty-2 : goal.returns-then-is_empty-2
unfolding lone_number
returns-then-is_empty-2 c =
    rw (
      word_some c.next_word-first.ensures c.is_empty.ensures c.if-is_empty.false,
      word_none c.next_word-second.ensures c.is_empty-2.ensures c.if-is_empty-2.true,
      ← c.of.ensures,
    ) c.read_number.ensures

pub returns : goal.returns
unfolding lone_number
returns c =
    rw (word_some c.next_word-first.ensures c.is_empty.ensures c.if-is_empty.false, word_some c.next_word-second.ensures c.is_empty-2.ensures c.if-is_empty-2.false)
