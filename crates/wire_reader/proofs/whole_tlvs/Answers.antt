-- `wire_reader::whole_tlvs` meets its contract: the loop's invariant is that the TLVs from the place on run past the message just where those from 8 on do; its measure, what is left of the message.
-- Assumes nothing.
use native.Mathlib.Omega.{arith}
use mathlib.Core.Path.{refl, sym, ap, ◌∙◌}
use mathlib.Core.Bool.{not}
use Rattle.wire_reader.proofs.Places.{whole-within, overrun-on, overrun-end, overrun-past}
use Rattle.wire_reader.proofs.whole_tlvs.Goals as goal

pub loop-next-init : goal.loop-next-init
loop-next-init c = refl

pub loop-next-smaller : goal.loop-next-smaller
loop-next-smaller c =
    let the-loop = c.loop-next in
    let m = c.args.message.now in
    let w = whole-within m the-loop.at _ _ _ (sym c.tlv_from.ensures ∙ c.in-Whole.is) in
    omega arith

pub loop-next-preserved : goal.loop-next-preserved
loop-next-preserved c =
    let the-loop = c.loop-next in
    the-loop.invariant ∙ overrun-on _ _ _ _ _ (sym c.tlv_from.ensures ∙ c.in-Whole.is)

pub returns-in-End : goal.returns-in-End
returns-in-End c =
    sym (ap not (c.loop-next.invariant ∙ overrun-end c.args.message.now c.loop-next.at (sym c.tlv_from.ensures ∙ c.in-End.is)))

pub returns-in-Past : goal.returns-in-Past
returns-in-Past c =
    sym (ap not (c.loop-next.invariant ∙ overrun-past c.args.message.now c.loop-next.at (sym c.tlv_from.ensures ∙ c.in-Past.is)))
