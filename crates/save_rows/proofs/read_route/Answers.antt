use Rattle.save_rows.proofs.Rows.{route-read}
use Rattle.save_rows.proofs.read_route.Goals as goal

pub returns : goal.returns
returns c =
    let the-append-route = c.append_route in
    rw (← route-read c.args.octets.now _ c.args.at _ c.spaced-root.ensures.0 c.at-via.ensures.0) the-append-route.ensures
