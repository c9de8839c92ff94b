-- `wire_name::address_length` meets its contract: the tests that led to a return say which case holds.
-- Assumes nothing.
use native.Mathlib.Omega.{arith}
use borrow.Author.Tests.{eq-eqb, ne_eqb}
use Rattle.meaning.specs.Wire.{address_length}
use Rattle.wire_name.proofs.address_length.Goals as goal

pub returns-then-family-eq1 : goal.returns-then-family-eq1
unfolding address_length
returns-then-family-eq1 c = simp (eq-eqb _ _ c.if-family-eq1.true) (omega arith)

pub returns-then-family-eq2 : goal.returns-then-family-eq2
unfolding address_length
returns-then-family-eq2 c = simp (ne_eqb _ _ c.if-family-eq1.false, eq-eqb _ _ c.if-family-eq2.true) (omega arith)

pub returns : goal.returns
unfolding address_length
returns c = simp (ne_eqb _ _ c.if-family-eq1.false, ne_eqb _ _ c.if-family-eq2.false) (omega arith)
