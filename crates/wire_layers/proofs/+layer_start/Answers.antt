use native.Mathlib.Omega.{arith}
use mathlib.Core.Path.{sym, ◌∙◌}
use lib.ListN.{length-take, length-drop}
use Rattle.wire_layers.proofs.Inner.{start-top, start-behind, start-deeper}
use Rattle.wire_layers.proofs.+layer_start.Goals as goal

pub returns-then-down-eq0 : goal.returns-then-down-eq0
returns-then-down-eq0 t c = (start-top _ _ c.if-down-eq0.true, omega arith)

pub returns-then-k-eq0 : goal.returns-then-k-eq0
returns-then-k-eq0 t c = (start-behind _ _ c.if-down-eq0.false (sym c.inner_start-k.ensures.0 ∙ c.if-k-eq0.true), omega arith)

pub layer_start-requires : goal.layer_start-requires
layer_start-requires t c = (simp (length-take, length-drop) (omega arith), tt)

pub overflow_add-result : goal.overflow_add-result
overflow_add-result t c = record { fits = omega (arith, simp (length-take, length-drop) at c.layer_start.ensures.1) }

pub returns : goal.returns
returns t c = (
  start-deeper _ _ _ _ c.if-down-eq0.false c.inner_start-k.ensures.0 c.if-k-eq0.false c.layer_start.ensures.0,
  omega (arith, simp (length-take, length-drop) at c.layer_start.ensures.1),
)
