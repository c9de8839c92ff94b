-- `wire_reader::must_follow` meets its contract: the loop's invariant is that whole TLVs fill what is left, and that a TLV with its U bit clear is there just where one is from the first place on; its measure, what is left of the message.
-- Assumes nothing.
use native.Mathlib.Omega.{arith}
use mathlib.Core.Path.{refl, sym, ◌∙◌}
use Rattle.wire_reader.proofs.Places.{whole-within, overrun-on, must-here, must-on, must-end, must-past}
use Rattle.wire_reader.proofs.must_follow.Goals as goal

pub loop-kind-init : goal.loop-kind-init
loop-kind-init c = (c.requires, refl)

pub returns-then-kind-lt32768 : goal.returns-then-kind-lt32768
returns-then-kind-lt32768 c =
    let the-tlv-from = c.tlv_from in
    let m = c.args.message.now in
    let p = sym the-tlv-from.ensures ∙ c.in-Whole.is in
    sym (c.loop-kind.invariant.1 ∙ must-here m c.loop-kind.at _ _ _ p c.loop-kind.invariant.0 c.if-kind-lt32768.true)

pub loop-kind-smaller : goal.loop-kind-smaller
loop-kind-smaller c =
    let the-tlv-from = c.tlv_from in
    let w = whole-within c.args.message.now c.loop-kind.at _ _ _ (sym the-tlv-from.ensures ∙ c.in-Whole.is) in
    omega arith

pub loop-kind-preserved : goal.loop-kind-preserved
loop-kind-preserved c =
    let the-tlv-from = c.tlv_from in
    let m = c.args.message.now in
    let p = sym the-tlv-from.ensures ∙ c.in-Whole.is in
    (sym (overrun-on m c.loop-kind.at _ _ _ p) ∙ c.loop-kind.invariant.0, c.loop-kind.invariant.1 ∙ must-on m c.loop-kind.at _ _ _ p c.loop-kind.invariant.0 c.if-kind-lt32768.false)

pub returns-in-End : goal.returns-in-End
returns-in-End c =
    sym (c.loop-kind.invariant.1 ∙ must-end c.args.message.now c.loop-kind.at (sym c.tlv_from.ensures ∙ c.in-End.is))

pub returns-in-Past : goal.returns-in-Past
returns-in-Past c =
    sym (c.loop-kind.invariant.1 ∙ must-past c.args.message.now c.loop-kind.at (sym c.tlv_from.ensures ∙ c.in-Past.is))
