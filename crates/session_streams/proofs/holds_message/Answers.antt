-- `session_streams::holds_message` meets its contract. Assumes nothing.
use mathlib.Core.Path.{sym, ◌∙◌}
use Rattle.session_streams.proofs.Settling.{holds-stopped, short-held, holds-one, holds-none}
use borrow.Enum.Refused.{opened}
use Rattle.session_streams.proofs.holds_message.Goals as goal

pub returns-then-is_stopped : goal.returns-then-is_stopped
returns-then-is_stopped c = holds-stopped _ _ (sym c.if-is_stopped.true ∙ c.is_stopped.ensures _)

pub returns-in-Message : goal.returns-in-Message
returns-in-Message c =
    let now = c.held_in-now.ensures in
    let lent = short-held _ _ _ _ _ _ now.place now.count c.least-place.ensures.0 c.least-end.ensures.0 in
    holds-one _ _ _ c.least-place.result c.least-end.result (sym c.if-is_stopped.false ∙ c.is_stopped.ensures _) now.left lent _ c.look_message-shows.ensures _ c.in-Message.is

pub returns : goal.returns
returns c =
    let now = c.held_in-now.ensures in
    let lent = short-held _ _ _ _ _ _ now.place now.count c.least-place.ensures.0 c.least-end.ensures.0 in
    holds-none _ _ _ c.least-place.result c.least-end.result (sym c.if-is_stopped.false ∙ c.is_stopped.ensures _) now.left lent _ c.look_message-shows.ensures (opened c.in_default.in_default-own.keys2)
