use Rattle.bench_words.proofs.Words.{word_none, word_some}
use Rattle.session_orders.specs.Told.{number_hex}
use Rattle.session_orders.proofs.Asked.{gives_none}
use Rattle.session_orders.proofs.number_hex.Goals as goal

pub returns-then-is_empty : goal.returns-then-is_empty
unfolding number_hex
returns-then-is_empty c = gives_none _ _ (rw (word_none c.next_word-first.ensures c.is_empty.ensures c.if-is_empty.true))

pub returns-then-is_empty-2 : goal.returns-then-is_empty-2
unfolding number_hex
returns-then-is_empty-2 c =
    gives_none _ _ (rw (word_some c.next_word-first.ensures c.is_empty.ensures c.if-is_empty.false, word_none c.next_word-second.ensures c.is_empty-2.ensures c.if-is_empty-2.true))

pub returns-then-is_empty-3 : goal.returns-then-is_empty-3
returns-then-is_empty-3 c =
    rw (
      word_some c.next_word-first.ensures c.is_empty.ensures c.if-is_empty.false,
      word_some c.next_word-second.ensures c.is_empty-2.ensures c.if-is_empty-2.false,
      word_none c.next_word-third.ensures c.is_empty-3.ensures c.if-is_empty-3.true,
    ) c.pair_at.ensures

pub returns : goal.returns
unfolding number_hex
returns c =
    gives_none _ _ (rw (
      word_some c.next_word-first.ensures c.is_empty.ensures c.if-is_empty.false,
      word_some c.next_word-second.ensures c.is_empty-2.ensures c.if-is_empty-2.false,
      word_some c.next_word-third.ensures c.is_empty-3.ensures c.if-is_empty-3.false,
    ))
