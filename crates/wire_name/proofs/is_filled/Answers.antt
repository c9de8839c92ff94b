-- `wire_name::is_filled` meets its contract. The loop's invariant: what is left is filled exactly where the whole is. The measure is what is left.
-- Assumes nothing.
use native.Mathlib.Omega.{arith}
use mathlib.Core.Path.{refl, sym, ◌∙◌}
use borrow.Author.Rules.{rules}
use Rattle.wire_name.proofs.Name.{filled_none, filled-past, filled_on}
use Rattle.wire_name.proofs.is_filled.Goals as goal

pub loop-at-init : goal.loop-at-init
loop-at-init c = (search rules, refl)

pub returns-then-s-end : goal.returns-then-s-end
returns-then-s-end c = sym (sym c.loop-at.invariant.1 ∙ filled-past _ _ _ c.loop-at-test.true c.element_end-end.ensures.0 c.if-s-end.true)

pub loop-at-preserved : goal.loop-at-preserved
loop-at-preserved c = (search rules, filled_on _ _ _ c.loop-at-test.true c.element_end-end.ensures.0 (omega arith) ∙ c.loop-at.invariant.1)

pub returns : goal.returns
returns c = sym (sym c.loop-at.invariant.1 ∙ filled_none c.args.s.now c.loop-at.at (omega arith))
