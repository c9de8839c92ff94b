-- `wire_wraps::kind_of` meets its contract: by its test. Assumes nothing.
use native.Mathlib.Omega.{arith}
use borrow.Author.Tests.{eq-eqb, ne_eqb}
use Rattle.wire_wraps.proofs.kind_of.Goals as goal

pub returns-then-eight-eq0 : goal.returns-then-eight-eq0
returns-then-eight-eq0 c = simp (eq-eqb _ _ c.if-eight-eq0.true) (omega arith)

pub returns : goal.returns
returns c = simp (ne_eqb _ _ c.if-eight-eq0.false) (omega arith)
