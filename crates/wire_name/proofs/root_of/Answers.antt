-- `wire_name::root_of` meets its contract: each part is the root's, by one law.
-- Assumes nothing.
use native.Mathlib.Omega.{arith}
use Rattle.wire_name.proofs.Name.{root_none, root-short, root-all}
use Rattle.wire_name.proofs.root_of.Goals as goal

pub returns-then-e-lt4 : goal.returns-then-e-lt4
returns-then-e-lt4 c = root_none _ c.if-e-lt4.true

pub returns-then-e-n : goal.returns-then-e-n
returns-then-e-n c = root-short _ _ c.root_length-n.ensures.0 (omega arith)

pub returns : goal.returns
returns c = root-all _ _ c.root_length-n.ensures.0
