-- `wire_writer::put_record` meets its contract: three parts of the output, one after the other, are one. Assumes nothing.
use Rattle.wire_writer.proofs.Record.{put_three}
use Rattle.wire_writer.proofs.put_record.Goals as goal

pub returns : goal.returns
returns c =
    let a = c.args in
    put_three a.id a.to a.kind a.label a.at a.out.now _ _ _ a.name.now c.requires.0 c.put_record_head.ensures c.copy_text.ensures c.put_label_tlv.ensures
