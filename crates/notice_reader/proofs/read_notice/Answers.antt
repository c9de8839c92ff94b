-- `notice_reader::read_notice` meets its contract: refused by either test, or read by both. Assumes nothing.
use Rattle.std.proofs.Common.{sym, ◌∙◌, rules}
use Rattle.notice_reader.proofs.Reading.{reads-refused, reads-untold, reads-said}
use Rattle.meaning.specs.Notice.{notice_in}
use Rattle.notice_reader.proofs.read_notice.Goals as goal
use Rattle.notice_reader.proofs.read_notice.Goals.{then-not-is_framed-via-then-not-is_framed, then-not-is_framed-via-else-not-is_framed+then-not-is_told}

pub returns-then-not-is_framed : goal.returns-then-not-is_framed
returns-then-not-is_framed c =
    let framed = c.is_framed.ensures in
    elim c.then-not-is_framed.branch [
      | then-not-is_framed-via-then-not-is_framed w ↦ reads-refused _ (sym framed ∙ w.if-not-is_framed.true)
      | then-not-is_framed-via-else-not-is_framed+then-not-is_told w ↦ reads-untold _ (sym framed ∙ w.if-not-is_framed.false) (sym w.is_told.ensures ∙ w.if-not-is_told.true)
    ]

pub returns : goal.returns
unfolding notice_in
returns c =
    rw (c.two_at.ensures.0, c.four_at.ensures.0, c.four_at-2.ensures.0, c.four_at-3.ensures.0, c.two_at-2.ensures.0)
    (reads-said _ (sym c.is_framed.ensures ∙ c.if-not-is_framed.false) (sym c.is_told.ensures ∙ c.if-not-is_told.false))
