use native.Mathlib.Omega.{arith}
use mathlib.Core.Path.{sym, ◌∙◌}
use Rattle.memory_counts.proofs.Counting.{with-leaf, with_none, with-one, with-more}
use Rattle.memory_counts.proofs.counts_of.Goals as goal

pub returns-then-leaf : goal.returns-then-leaf
returns-then-leaf c = ((λ t l b. with-leaf t (sym c.if-leaf.true ∙ l)), omega arith, omega arith)

pub returns-then-branches-eq0 : goal.returns-then-branches-eq0
returns-then-branches-eq0 c = ((λ t l b. with_none t _ (sym c.if-leaf.false ∙ l) b c.if-branches-eq0.true), omega arith, omega arith)

pub returns-then-branches-eq1 : goal.returns-then-branches-eq1
returns-then-branches-eq1 c = ((λ t l b. with-one t _ (sym c.if-leaf.false ∙ l) b c.if-branches-eq1.true), omega arith, omega arith)

pub returns-else-branches-eq1 : goal.returns-else-branches-eq1
returns-else-branches-eq1 c = ((λ t l b. with-more t _ (sym c.if-leaf.false ∙ l) b c.if-branches-eq0.false c.if-branches-eq1.false), omega arith, omega arith)
