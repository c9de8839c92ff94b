use Rattle.bench_words.specs.Words.{ascii}
use Rattle.bench_words.proofs.Words.{word_none, word_some}
use Rattle.session_orders.proofs.Asked.{long-told, blank-told, octets-told, pack-told, lost-told, other-told}
use Rattle.session_orders.proofs.own_ask.Goals as goal

pub returns-then-line-gt-LINE_LIMIT : goal.returns-then-line-gt-LINE_LIMIT
returns-then-line-gt-LINE_LIMIT c = long-told _ c.if-line-gt-LINE_LIMIT.true

pub returns-then-is_empty : goal.returns-then-is_empty
returns-then-is_empty c = blank-told _ c.if-line-gt-LINE_LIMIT.false (word_none c.next_word-word.ensures c.is_empty.ensures c.if-is_empty.true)

pub returns-then-equal : goal.returns-then-equal
unfolding ascii
returns-then-equal c =
    let first = word_some c.next_word-word.ensures c.is_empty.ensures c.if-is_empty.false in
    rw (octets-told _ _ _ c.if-line-gt-LINE_LIMIT.false first _ (rw c.of-verb.ensures at c.equal.ensures) c.if-equal.true) c.with_octets.ensures

pub returns-then-equal-2 : goal.returns-then-equal-2
unfolding ascii
returns-then-equal-2 c =
    let first = word_some c.next_word-word.ensures c.is_empty.ensures c.if-is_empty.false in
    rw (pack-told _ _ _ c.if-line-gt-LINE_LIMIT.false first _ _ (rw c.of-verb.ensures at c.equal.ensures) c.if-equal.false (rw c.of-verb.ensures at c.equal-2.ensures) c.if-equal-2.true) c.with_pack.ensures

pub returns-then-equal-3 : goal.returns-then-equal-3
unfolding ascii
returns-then-equal-3 c =
    let first = word_some c.next_word-word.ensures c.is_empty.ensures c.if-is_empty.false in
    rw (lost-told _ _ _ c.if-line-gt-LINE_LIMIT.false first _ _ _ (rw c.of-verb.ensures at c.equal.ensures) c.if-equal.false (rw c.of-verb.ensures at c.equal-2.ensures) c.if-equal-2.false (rw c.of-verb.ensures at c.equal-3.ensures) c.if-equal-3.true) c.with_lost.ensures

pub returns : goal.returns
unfolding ascii
returns c =
    let first = word_some c.next_word-word.ensures c.is_empty.ensures c.if-is_empty.false in
    other-told _ _ _ c.if-line-gt-LINE_LIMIT.false first _ _ _ (rw c.of-verb.ensures at c.equal.ensures) c.if-equal.false
    (rw c.of-verb.ensures at c.equal-2.ensures) c.if-equal-2.false (rw c.of-verb.ensures at c.equal-3.ensures) c.if-equal-3.false
