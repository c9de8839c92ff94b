-- `notice_reader::is_framed` meets its contract: each test that fails, and all that pass. Assumes nothing.
use Rattle.notice_reader.proofs.Reading.{frame-length, frame-mark, frame-far, frame-kind, frame-size, frame-field, frame_right}
use borrow.Author.Rules.{rules}
use Rattle.notice_reader.proofs.is_framed.Goals as goal

pub returns-then-octets-ne26 : goal.returns-then-octets-ne26
returns-then-octets-ne26 c = frame-length _ c.if-octets-ne26.true

pub returns-then-two_at-ne19524 : goal.returns-then-two_at-ne19524
returns-then-two_at-ne19524 c = frame-mark _ _ c.two_at.ensures.0 c.if-two_at-ne19524.true

pub returns-then-two_at-gt15 : goal.returns-then-two_at-gt15
returns-then-two_at-gt15 c = frame-far _ _ c.two_at-2.ensures.0 c.if-two_at-gt15.true

pub returns-then-two_at-ne1 : goal.returns-then-two_at-ne1
returns-then-two_at-ne1 c = frame-kind _ _ c.two_at-3.ensures.0 c.if-two_at-ne1.true

pub returns-then-two_at-ne18 : goal.returns-then-two_at-ne18
returns-then-two_at-ne18 c = frame-size _ _ c.two_at-4.ensures.0 c.if-two_at-ne18.true

pub returns-then-two_at-ne768 : goal.returns-then-two_at-ne768
returns-then-two_at-ne768 c = frame-field _ _ c.two_at-5.ensures.0 c.if-two_at-ne768.true

pub returns : goal.returns
returns c =
    let the-if1 = c.if-octets-ne26 in
    let the-two-at = c.two_at in
    let the-if2 = c.if-two_at-ne19524 in
    let the-two-at2 = c.two_at-2 in
    let the-if3 = c.if-two_at-gt15 in
    let the-two-at3 = c.two_at-3 in
    let the-if4 = c.if-two_at-ne1 in
    let the-two-at4 = c.two_at-4 in
    let the-if5 = c.if-two_at-ne18 in
    let the-two-at5 = c.two_at-5 in
    frame_right _ _ _ _ _ _ _ the-if1.false the-two-at.ensures.0 the-if2.false the-two-at2.ensures.0 the-if3.false the-two-at3.ensures.0 the-if4.false the-two-at4.ensures.0 the-if5.false the-two-at5.ensures.0 c.if-two_at-ne768.false c.two_at-6.ensures.0
