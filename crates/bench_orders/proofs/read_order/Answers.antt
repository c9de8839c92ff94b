use Rattle.std.proofs.Common.{length, arith}
use borrow.Author.Tests.{le-leb, lt-leb}
use Rattle.bench_verbs.specs.Line.{line_limit, order_of, said_by}
use Rattle.bench_orders.specs.Tells.{meant}
use Rattle.bench_words.proofs.Words.{word_none, word_some}
use Rattle.bench_orders.proofs.Verbs.{told}
use Rattle.bench_orders.proofs.read_order.Goals as goal

pub returns-then-line-gt-LINE_LIMIT : goal.returns-then-line-gt-LINE_LIMIT
unfolding order_of said_by meant
returns-then-line-gt-LINE_LIMIT c = record { means = rw (lt-leb (length c.args.line.now) line_limit (omega arith)); lies = tt }

pub returns-then-is_empty : goal.returns-then-is_empty
unfolding order_of said_by meant
returns-then-is_empty c =
    record { means = rw (le-leb (length c.args.line.now) line_limit (omega arith), word_none c.next_word-word.ensures c.is_empty.ensures c.if-is_empty.true); lies = tt }

pub returns : goal.returns
unfolding order_of said_by
returns c =
    rw (
      c.unwrap_or.ensures,
      le-leb (length c.args.line.now) line_limit (omega arith),
      word_some c.next_word-word.ensures c.is_empty.ensures c.if-is_empty.false,
      ← c.of.ensures,
      ← c.verb_of.ensures,
    ) (told _ _ _ c.with_words.ensures)
