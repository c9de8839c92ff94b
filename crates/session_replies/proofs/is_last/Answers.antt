use Rattle.session_replies.proofs.Telling.{last-far, last-little, last-over, last-not}
use borrow.Author.Rules.{rules}
use Rattle.session_replies.proofs.is_last.Goals as goal

pub returns-then-answer-eq1 : goal.returns-then-answer-eq1
returns-then-answer-eq1 c = last-far _ _ _ c.if-answer-eq1.true

pub returns-then-answer-eq20 : goal.returns-then-answer-eq20
returns-then-answer-eq20 c = last-little _ _ _ c.if-answer-eq20.true

pub returns-then-left-eq0 : goal.returns-then-left-eq0
returns-then-left-eq0 c = last-over _ _ _ c.if-answer-eq1.false c.if-answer-eq20.false c.if-left-eq0.true _ c.holds_message.ensures

pub returns : goal.returns
returns c = last-not _ _ _ c.if-answer-eq1.false c.if-answer-eq20.false c.if-left-eq0.false
