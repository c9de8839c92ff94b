-- `wire_name::element_end` meets its contract: one law for each kind of head. Assumes nothing.
use native.Mathlib.Omega.{arith}
use Rattle.wire_name.proofs.Name.{end-long, end-plain}
use Rattle.wire_name.proofs.element_end.Goals as goal

pub returns-then-at-eq255 : goal.returns-then-at-eq255
returns-then-at-eq255 c = end-long _ _ (omega arith) _ c.two_at.ensures.0

pub returns : goal.returns
returns c = end-plain _ _ (λ h. omega arith) _ c.two_at-2.ensures.0
