-- `notice_record::put_notice` meets its contract: two parts of the output, one after the other, are the record. Assumes nothing.
use Rattle.notice_record.proofs.Record.{put_two}
use Rattle.notice_record.proofs.put_notice.Goals as goal

pub returns : goal.returns
returns c =
    let the-status-of = c.status_of in
    let the-status-code = c.status_code-code in
    let the-copied-id = c.copied_id-refused in
    let the-copied-type = c.copied_type-kind in
    let the-put-notice-head = c.put_notice_head in
    let the-put-status = c.put_status in
    put_two c.args.id c.args.neighbour c.args.number _ _ _ _ c.args.octets.now c.args.out.now _ _ c.requires the-status-of.ensures.0 the-status-code.ensures the-copied-id.ensures the-copied-type.ensures.0 the-put-notice-head.ensures the-put-status.ensures
