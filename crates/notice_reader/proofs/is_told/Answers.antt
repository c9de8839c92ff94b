-- `notice_reader::is_told` meets its contract: by its tests. Assumes nothing.
use mathlib.Core.Path.{sym, ◌∙◌}
use Rattle.notice_reader.proofs.Reading.{told-unknown, told-bits, told-type, told-other}
use borrow.Author.Rules.{rules}
use Rattle.notice_reader.proofs.is_told.Goals as goal

pub returns-then-code-status_code : goal.returns-then-code-status_code
returns-then-code-status_code c =
    let the-four-at = c.four_at-code in
    let the-is-status = c.is_status in
    let the-if1 = c.if-is_status in
    told-bits _ _ the-four-at.ensures.0 (sym the-is-status.ensures ∙ the-if1.true) _ c.status_code.ensures c.if-code-status_code.true

pub returns-then-status-eq4 : goal.returns-then-status-eq4
returns-then-status-eq4 c =
    let the-four-at = c.four_at-code in
    let the-is-status = c.is_status in
    let the-if1 = c.if-is_status in
    let the-status-code = c.status_code in
    let the-if2 = c.if-code-status_code in
    told-type _ _ the-four-at.ensures.0 (sym the-is-status.ensures ∙ the-if1.true) _ the-status-code.ensures the-if2.false c.if-status-eq4.true _ c.two_at.ensures.0

pub returns-then-is_status : goal.returns-then-is_status
returns-then-is_status c =
    let the-four-at = c.four_at-code in
    let the-is-status = c.is_status in
    let the-if1 = c.if-is_status in
    let the-status-code = c.status_code in
    told-other _ _ the-four-at.ensures.0 (sym the-is-status.ensures ∙ the-if1.true) _ the-status-code.ensures c.if-code-status_code.false c.if-status-eq4.false

pub returns : goal.returns
returns c =
    let the-four-at = c.four_at-code in
    told-unknown _ _ the-four-at.ensures.0 (sym c.is_status.ensures ∙ c.if-is_status.false)
