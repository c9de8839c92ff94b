use native.Mathlib.Omega.{arith}
use mathlib.Core.Path.{sym, ◌∙◌}
use lib.ListN.{length-take, length-drop}
use Rattle.meaning_layers.proofs.InnerStart.{count-end, count-part}
use Rattle.wire_layers.proofs.+layer_count.Goals as goal

pub layer_count-requires : goal.layer_count-requires
layer_count-requires t c = (simp (length-take, length-drop) (omega arith), tt)

pub overflow_add-result : goal.overflow_add-result
overflow_add-result t c = record { fits = omega (arith, simp (length-take, length-drop) at c.layer_count.ensures.1) }

pub returns-then-k-eq0 : goal.returns-then-k-eq0
returns-then-k-eq0 t c = (sym (count-end _ (sym c.inner_start-k.ensures.0 ∙ c.if-k-eq0.true)), omega arith)

pub returns-else-k-eq0 : goal.returns-else-k-eq0
returns-else-k-eq0 t c = (
  count-part _ _ _ c.inner_start-k.ensures.0 c.if-k-eq0.false c.layer_count.ensures.0,
  omega (arith, simp (length-take, length-drop) at c.layer_count.ensures.1, c.inner_start-k.ensures.2 c.if-k-eq0.false),
)
