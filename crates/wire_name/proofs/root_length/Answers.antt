-- `wire_name::root_length` meets its contract: it is the two calls, one after the other.
-- Assumes nothing.
use native.Mathlib.Omega.{arith}
use Rattle.meaning.specs.Wire.{root_length, family_in}
use Rattle.wire_name.proofs.root_length.Goals as goal

pub returns : goal.returns
unfolding root_length family_in
returns c = (cc, omega arith)
