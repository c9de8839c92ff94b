-- `wire_wraps::unwrap_core` meets its contract: refused, or the name inside from its start on. Assumes nothing.
use mathlib.Core.Path.{sym, ◌∙◌}
use Rattle.refusals.proofs.Answered.{refused, accepted}
use Rattle.wire_wraps.proofs.Wraps.{unwrap-refused, unwrap-room, unwrap-done}
use Rattle.wire_wraps.proofs.unwrap_core.Goals as goal

pub returns-then-is_err : goal.returns-then-is_err
returns-then-is_err c =
    unwrap-refused _ _ _ (c.answer_of.ensures ∙ c.check_unwrap-done.ensures) (λ z. refused _ (sym c.is_err.ensures.value ∙ c.if-is_err.true) (sym c.answer_of.ensures ∙ z))

pub slice_bounds-copy-end : goal.slice_bounds-copy-end
slice_bounds-copy-end c =
    unwrap-room _ c.args.out.now _ c.check_unwrap-done.ensures (accepted _ (sym c.is_err.ensures.value ∙ c.if-is_err.false)) _ c.inner_start-k.ensures.0

pub returns : goal.returns
returns c =
    unwrap-done _ _ _ (c.answer_of.ensures ∙ c.check_unwrap-done.ensures) (c.answer_of.ensures ∙ accepted _ (sym c.is_err.ensures.value ∙ c.if-is_err.false)) _ _ _ _ c.inner_start-k.ensures.0 c.inner_start-k.ensures.1 c.copy.ensures c.root_length.ensures.0 c.eight_of.ensures
