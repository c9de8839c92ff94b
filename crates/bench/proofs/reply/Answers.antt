use Rattle.std.proofs.Common.{sym, refl, arith, length-take-le}
use Rattle.bench_input.proofs.Input.{keeps_line}
use Rattle.bench.proofs.Input.{keeps-long}
use Rattle.bench_replies.proofs.Reply.{says-only}
use Rattle.bench_replies.specs.Reply.{only, reply_to}
use Rattle.bench_words.specs.Words.{ascii}
use Rattle.bench.proofs.reply.Goals as goal

pub slice_bounds-answer-end : goal.slice_bounds-answer-end
slice_bounds-answer-end c =
    sym (length-take-le c.args.state.kept c.args.line.now (omega arith))

pub returns-then-kept-line : goal.returns-then-kept-line
returns-then-kept-line c = record {
  length_le_text_space = c.answer.ensures.says.short;
  by_index = λ o p e. rw (sym (keeps_line c.args.line.now c.args.state.kept o c.if-kept-line.true p)) c.answer.ensures;
}

pub returns : goal.returns
unfolding reply_to only ascii
returns c =
    let the-if1 = c.if-kept-line in
    record {
      length_le_text_space = omega arith;
      by_index = λ o p e. rw (keeps-long c.args.line.now c.args.state.kept o the-if1.false p e) (record { says = says-only _ _ _ _ _ (omega arith) c.put_count.ensures.text_after; next = refl });
    }
