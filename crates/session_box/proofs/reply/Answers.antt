-- `session_box::reply` meets its contract: a line too long, one of the box's own orders, one of the bench's. Assumes nothing.
use Rattle.std.proofs.Common.{sym, ◌∙◌, arith, length-take-le}
use Rattle.bench_words.specs.Words.{ascii}
use Rattle.bench_input.proofs.Input.{keeps_line}
use Rattle.session_box.proofs.Boxed.{says-own, says-bench, says-bad, too_long}
use Rattle.session_box.proofs.reply.Goals as goal

pub returns-then-line-kept : goal.returns-then-line-kept
unfolding ascii
returns-then-line-kept c =
    let the-if1 = c.if-line-kept in
    record {
      length_le_turns_space = omega arith;
      by_index = λ o p e. says-bad _ _ _ _ o (too_long c.args.line.now c.args.kept o the-if1.true p e) (omega arith) c.put_count.ensures.text_after;
    }

pub slice_bounds-whole-end : goal.slice_bounds-whole-end
slice_bounds-whole-end c = sym (length-take-le c.args.kept c.args.line.now c.if-line-kept.false)

pub returns-then-is_own : goal.returns-then-is_own
returns-then-is_own c =
    let the-is-own = c.is_own in
    let the-if2 = c.if-is_own in
    let the-if1 = c.if-line-kept in
    let the-read-ask = c.read_ask-ask in
    let said = c.answer.ensures (sym the-is-own.ensures ∙ the-if2.true) c.args.number in
    record {
      length_le_turns_space = said.short;
      by_index = λ o p e. rw (sym (keeps_line c.args.line.now c.args.kept o the-if1.false p)) (says-own _ _ _ _ _ _ the-read-ask.ensures said);
    }

pub returns : goal.returns
returns c =
    let the-if1 = c.if-line-kept in
    let the-read-ask = c.read_ask-ask in
    let the-is-own = c.is_own in
    let the-if2 = c.if-is_own in
    let said = c.answer-2.ensures in
    record {
      length_le_turns_space = omega (arith, said.says.short);
      by_index = λ o p e. rw (sym (keeps_line c.args.line.now c.args.kept o the-if1.false p))
          (says-bench _ _ _ _ _ _ the-read-ask.ensures (sym the-is-own.ensures ∙ the-if2.false) said);
    }
