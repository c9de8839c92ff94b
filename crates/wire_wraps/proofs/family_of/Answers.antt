-- `wire_wraps::family_of` meets its contract: by its test. Assumes nothing.
use native.Mathlib.Omega.{arith}
use borrow.Author.Tests.{eq-eqb, ne_eqb}
use Rattle.meaning_layers.specs.Layers.{family_of}
use Rattle.wire_wraps.proofs.family_of.Goals as goal

pub returns-then-root-eq4 : goal.returns-then-root-eq4
unfolding family_of
returns-then-root-eq4 c = simp (eq-eqb _ _ c.if-root-eq4.true) (omega arith)

pub returns : goal.returns
unfolding family_of
returns c = simp (ne_eqb _ _ c.if-root-eq4.false) (omega arith)
