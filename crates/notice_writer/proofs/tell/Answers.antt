-- `notice_writer::tell` meets its contract: each return is one law of the call's definition. Assumes nothing.
use Rattle.std.proofs.Common.{sym, ◌∙◌}
use Rattle.memory.specs.Memory.{card_of}
use Rattle.notice_writer.proofs.Notices.{does-far, does-silent, does-short, does-tell}
use Rattle.notice_writer.proofs.tell.Goals as goal

pub returns-then-neighbour-gt15 : goal.returns-then-neighbour-gt15
returns-then-neighbour-gt15 c = λ os. does-far (card_of c.args.numbers.now os) _ _ _ _ c.if-neighbour-gt15.true

pub returns-then-not-is_due : goal.returns-then-not-is_due
returns-then-not-is_due c =
    λ os. does-silent (card_of c.args.numbers.now os) _ _ _ _ c.if-neighbour-gt15.false (sym c.is_due.ensures ∙ c.if-not-is_due.true)

pub returns-then-out-lt26 : goal.returns-then-out-lt26
returns-then-out-lt26 c =
    λ os. does-short (card_of c.args.numbers.now os) _ _ _ _ c.if-neighbour-gt15.false (sym c.is_due.ensures ∙ c.if-not-is_due.false) c.if-out-lt26.true

pub returns : goal.returns
returns c =
    λ os. does-tell (card_of c.args.numbers.now os) _ _ _ _ c.if-neighbour-gt15.false (sym c.is_due.ensures ∙ c.if-not-is_due.false) c.if-out-lt26.false
    _ _ _ _ (c.next_id-id.ensures os) c.next_of.ensures c.put_notice.ensures (c.set_next_id.ensures os)
