-- `save_fields::extent_at` meets its contract, in either form. Assumes nothing.
use Rattle.save_fields.proofs.Read.{extent-new, extent-old}
use native.Mathlib.Omega.{arith}
use Rattle.save_fields.proofs.extent_at.Goals as goal

pub returns-then-second : goal.returns-then-second
returns-then-second c = (extent-new _ c.args.octets.now c.args.at _ c.if-second.true c.at.ensures.0, omega (arith, c.at.ensures.1))

pub returns : goal.returns
returns c = (extent-old _ _ c.if-second.false, omega arith)
