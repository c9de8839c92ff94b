-- `session_pdu::open_pdu` meets its contract: three parts of the output, one after the other. Assumes nothing.
use Rattle.session_pdu.proofs.Writing.{open-parts}
use Rattle.session_pdu.proofs.open_pdu.Goals as goal

pub returns : goal.returns
returns c =
    let the-put-head = c.put_head in
    let the_copy = c.copy in
    open-parts c.args.out.now _ _ _ c.args.id.now c.args.message.now c.requires.0 c.requires.2 the-put-head.ensures the_copy.ensures c.copy-2.ensures
