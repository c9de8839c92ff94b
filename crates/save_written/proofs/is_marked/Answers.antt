-- `save_written::is_marked` meets its contract. Assumes nothing.
use native.Mathlib.Omega.{arith}
use Rattle.save_written.proofs.Places.{mark-there}
use Rattle.save_written.proofs.is_marked.Goals as goal

pub returns : goal.returns
returns c =
    let a = c.args in
    mark-there a.octets.now a.at a.kind (omega arith)
