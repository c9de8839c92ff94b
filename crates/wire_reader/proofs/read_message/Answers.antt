-- `wire_reader::read_message` meets its contract: each return is one law of a message.
-- Assumes nothing.
use mathlib.Core.Path.{sym, ap, ◌∙◌}
use Rattle.std.proofs.lemmas.Result.{err_from_is_err_and}
use Rattle.refusals.specs.Refusals.{number_of}
use Rattle.refusals.proofs.Numbers.{number-positive, number-not-0}
use Rattle.wire_reader.proofs.Message.{was-none, was-some, head-refused, no-fec, no_label, ordered}
use Rattle.wire_reader.proofs.read_message.Goals as goal

pub returns-in_err-kind : goal.returns-in_err-kind
returns-in_err-kind c =
    let p = err_from_is_err_and c.from_residual.result c.from_residual.ensures.1 in
    rw (p.1, p.2) (head-refused _ _ c.in_err-kind.ensures (number-not-0 _))

pub returns-in_err-fec : goal.returns-in_err-fec
returns-in_err-fec c =
    let p = err_from_is_err_and c.from_residual-in_err-fec.result c.from_residual-in_err-fec.ensures.1 in
    let gave = was-none _ _ _ c.in_err-fec.ensures.value in
    rw (p.1, p.2) (ap number_of gave.1 ∙ sym (no-fec _ c.in_ok-kind.ensures.0 (sym c.value_end.ensures ∙ gave.0)), number-positive _)

pub returns-in_err-end : goal.returns-in_err-end
returns-in_err-end c =
    let p = err_from_is_err_and c.from_residual-in_err-end.result c.from_residual-in_err-end.ensures.1 in
    let fec = sym c.value_end.ensures ∙ was-some _ _ _ c.in_ok-fec.ensures.value in
    let gave = was-none _ _ _ c.in_err-end.ensures.value in
    rw (p.1, p.2) (ap number_of gave.1 ∙ sym (no_label _ c.in_ok-kind.ensures.0 _ fec (sym c.value_end-2.ensures ∙ gave.0)), number-positive _)

pub read_body-requires-clause-ordered : goal.read_body-requires-clause-ordered
read_body-requires-clause-ordered c =
    let fec = sym c.value_end.ensures ∙ was-some _ _ _ c.in_ok-fec.ensures.value in
    let end = sym c.value_end-2.ensures ∙ was-some _ _ _ c.in_ok-end.ensures.value in
    ordered _ c.in_ok-kind.ensures.0 _ fec _ end
