-- `wire_wraps::wrap_core` meets its contract: refused, or the name in its layer. Assumes nothing.
use native.Mathlib.Omega.{arith}
use mathlib.Core.Path.{sym, ◌∙◌}
use Rattle.refusals.proofs.Answered.{refused, accepted}
use Rattle.wire_wraps.proofs.Wraps.{wrap-refused, wrap-done}
use Rattle.wire_wraps.proofs.wrap_core.Goals as goal

pub returns-then-is_err : goal.returns-then-is_err
returns-then-is_err c =
    wrap-refused _ _ _ _ _ (c.answer_of.ensures ∙ c.check_wrap-done.ensures.0) (λ z. refused _ (sym c.is_err.ensures.value ∙ c.if-is_err.true) (sym c.answer_of.ensures ∙ z))

pub put_wrapped-requires : goal.put_wrapped-requires
put_wrapped-requires c = c.check_wrap-done.ensures.1 (accepted _ (sym c.is_err.ensures.value ∙ c.if-is_err.false))

pub overflow_add-result-3 : goal.overflow_add-result-3
overflow_add-result-3 c =
    let room = c.check_wrap-done.ensures.1 (accepted _ (sym c.is_err.ensures.value ∙ c.if-is_err.false)) in
    record { fits = omega (arith, room.held, room.rooted) }

pub returns : goal.returns
returns c =
    wrap-done _ _ _ _ _ (c.answer_of.ensures ∙ c.check_wrap-done.ensures.0) (c.answer_of.ensures ∙ accepted _ (sym c.is_err.ensures.value ∙ c.if-is_err.false)) _ c.put_wrapped.ensures
