-- `wire_layers::before_inner` meets its contract: by its test. Assumes nothing.
use native.Mathlib.Omega.{arith}
use borrow.Author.Tests.{eq-eqb, ne_eqb}
use Rattle.wire_layers.proofs.before_inner.Goals as goal

pub returns-then-kind-eq-EIGHT_KIND : goal.returns-then-kind-eq-EIGHT_KIND
returns-then-kind-eq-EIGHT_KIND c = simp (eq-eqb _ _ c.if-kind-eq-EIGHT_KIND.true) (omega arith)

pub returns : goal.returns
returns c = simp (ne_eqb _ _ c.if-kind-eq-EIGHT_KIND.false) (omega arith)
