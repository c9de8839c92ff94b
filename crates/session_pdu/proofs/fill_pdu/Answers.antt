-- `session_pdu::fill_pdu` meets its contract: the length field, and the message. Assumes nothing.
use Rattle.session_pdu.proofs.Writing.{fill-parts}
use Rattle.session_pdu.proofs.fill_pdu.Goals as goal

pub returns : goal.returns
returns c =
    let the-put-length = c.put_length in
    fill-parts c.args.at c.args.body c.args.out.now _ _ c.args.message.now the-put-length.ensures c.copy.ensures
