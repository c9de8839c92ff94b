-- `session_pdu::put_message` meets its contract: in the last PDU, or in one of its own. Assumes nothing.
use native.Mathlib.Omega.{arith}
use mathlib.Core.Path.{refl}
use Rattle.session_pdu.proofs.Writing.{added_more, added_new, put-more, put-new}
use Rattle.session_pdu.proofs.put_message.Goals as goal

pub fill_pdu-requires : goal.fill_pdu-requires
fill_pdu-requires c =
    (c.if-body-k-le-BODY_LIMIT.true, c.requires.4 (omega (arith, c.if-body-k-le-BODY_LIMIT.true, c.requires.1)), omega (arith, c.requires.5, added_more _ _ c.if-body-k-le-BODY_LIMIT.true))

pub returns-then-body-k-le-BODY_LIMIT : goal.returns-then-body-k-le-BODY_LIMIT
returns-then-body-k-le-BODY_LIMIT c =
    let the-if1 = c.if-body-k-le-BODY_LIMIT in
    let a = c.args in
    let fits = the-if1.true in
    put-more a.id.now a.at a.body a.out.now a.message.now (omega (arith, c.requires.5, added_more _ _ fits)) fits (c.requires.4 (omega (arith, fits, c.requires.1))) _ c.fill_pdu.ensures

pub slice_bounds-open_pdu-end : goal.slice_bounds-open_pdu-end
slice_bounds-open_pdu-end c =
    omega (arith, c.requires.5, added_new _ _ c.if-body-k-le-BODY_LIMIT.false)

pub returns : goal.returns
returns c =
    let the-if1 = c.if-body-k-le-BODY_LIMIT in
    let a = c.args in
    put-new a.id.now a.at a.body a.out.now a.message.now c.requires.0 (omega (arith, c.requires.5, added_new _ _ the-if1.false)) the-if1.false _ _ c.open_pdu.ensures refl
