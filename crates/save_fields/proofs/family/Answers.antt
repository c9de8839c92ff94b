use mathlib.Core.Path.{refl}
use borrow.Author.Tests.{eq-eqb, ne_eqb}
use Rattle.save_fields.proofs.family.Goals as goal

pub returns-then-k-eq4 : goal.returns-then-k-eq4
returns-then-k-eq4 c = rw (eq-eqb _ 4 c.if-k-eq4.true) refl

pub returns-else-k-eq4 : goal.returns-else-k-eq4
returns-else-k-eq4 c = rw (ne_eqb _ 4 c.if-k-eq4.false) refl
