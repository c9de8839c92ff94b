-- `wire_reader::read_body` meets its contract: each return is one law of a message whose first two TLVs are known.
-- Assumes nothing.
use native.Mathlib.Omega.{arith}
use mathlib.Core.Path.{refl, sym, ap, ◌∙◌}
use Rattle.std.proofs.lemmas.Result.{err_from_is_err_and}
use Rattle.refusals.specs.Refusals.{number_of}
use Rattle.refusals.proofs.Numbers.{number-positive, number-not-0}
use Rattle.wire_reader.proofs.Message.{was-none, was-some, name-refused, label-refused, must-refused, not-refused, message-says}
use Rattle.wire_reader.proofs.read_body.Goals as goal

pub returns-in_err-check_element : goal.returns-in_err-check_element
returns-in_err-check_element c =
    let p = err_from_is_err_and c.from_residual.result c.from_residual.ensures.1 in
    rw (p.1, p.2) (name-refused _ _ _ c.requires.ordered _ c.in_err-check_element.ensures (number-not-0 _))

pub returns-in_err-label : goal.returns-in_err-label
returns-in_err-label c =
    let p = err_from_is_err_and c.from_residual-in_err-label.result c.from_residual-in_err-label.ensures.1 in
    let gave = was-none _ _ _ c.in_err-label.ensures.value in
    let named = sym c.in_ok-check_element.ensures in
    rw (p.1, p.2) (ap number_of gave.1 ∙ label-refused _ _ _ c.requires.ordered named (sym c.label_in.ensures ∙ gave.0), number-positive _)

pub returns-then-must_follow : goal.returns-then-must_follow
returns-then-must_follow c =
    let named = sym c.in_ok-check_element.ensures in
    let labelled = sym c.label_in.ensures ∙ was-some _ _ _ c.in_ok-label.ensures.value in
    (must-refused _ _ _ c.requires.ordered named _ labelled (sym c.must_follow.ensures ∙ c.if-must_follow.true), omega arith)

pub returns : goal.returns
returns c =
    let named = sym c.in_ok-check_element.ensures in
    let labelled = sym c.label_in.ensures ∙ was-some _ _ _ c.in_ok-label.ensures.value in (
      not-refused _ _ _ c.requires.ordered named _ labelled (sym c.must_follow.ensures ∙ c.if-must_follow.false),
      message-says _ _ _ c.requires.ordered named _ labelled _ c.requires.kind,
      refl,
      c.requires.ordered.low,
      omega arith,
    )
