use Rattle.layers.proofs.Printed.{hex-or}
use Rattle.layers.proofs.hex_in.Goals as goal

pub returns : goal.returns
returns c =
    rw c.unwrap_or.ensures (hex-or c.args.input c.strip_suffix.result c.strip_suffix.ensures.cases)
