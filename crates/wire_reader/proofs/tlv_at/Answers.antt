-- `wire_reader::tlv_at` meets its contract: each return's tests are those of one law.
-- Assumes nothing.
use native.Mathlib.Omega.{arith}
use borrow.Author.Tests.{le-ltb}
use Rattle.wire_reader.proofs.Places.{no-head, no_value, is_whole}
use Rattle.wire_reader.proofs.tlv_at.Goals as goal

pub returns-then-n-at : goal.returns-then-n-at
returns-then-n-at c = simp (le-ltb _ _ c.if-n-at.true)

pub returns-then-left-lt4 : goal.returns-then-left-lt4
returns-then-left-lt4 c =
    let a = c.args in
    no-head a.message.now a.at c.if-n-at.false c.if-left-lt4.true

pub returns-then-left-size : goal.returns-then-left-size
returns-then-left-size c =
    let a = c.args in
    no_value a.message.now a.at (omega arith) _ (omega arith) c.two_at-size.ensures.0 c.if-left-size.true

pub returns : goal.returns
returns c =
    let a = c.args in
    is_whole a.message.now a.at (omega arith) _ _ (omega arith) c.two_at-kind.ensures.0 c.two_at-size.ensures.0 c.if-left-size.false
