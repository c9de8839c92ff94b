-- `wire_layers::inner_start` meets its contract: each return is one law of `Inner`. Assumes nothing.
use native.Mathlib.Omega.{arith}
use mathlib.Core.Path.{sym, ◌∙◌}
use Rattle.refusals.proofs.Answered.{refused, accepted}
use Rattle.wire_layers.proofs.Inner.{not-holding, not-alone, too_short, inner-refused, inner-there}
use Rattle.wire_layers.proofs.inner_start.Goals as goal

pub returns-then-not-holds : goal.returns-then-not-holds
returns-then-not-holds c = not-holding _ _ c.root_length-opaque.ensures.0 _ c.at-kind.ensures.0 (sym c.holds.ensures ∙ c.if-not-holds.true)

pub returns-then-name-opaque : goal.returns-then-name-opaque
returns-then-name-opaque c =
    let the-root-length = c.root_length-opaque in
    not-alone _ _ the-root-length.ensures.0 _ c.two_at.ensures.0 c.if-name-opaque.true

pub returns-then-name-start : goal.returns-then-name-start
returns-then-name-start c =
    let the-root-length = c.root_length-opaque in
    let the_at = c.at-kind in
    too_short _ _ the-root-length.ensures.0 _ _ the_at.ensures.0 c.before_inner.ensures.0 c.if-name-start.true

pub returns-then-is_err : goal.returns-then-is_err
returns-then-is_err c =
    let the-root-length = c.root_length-opaque in
    let the_at = c.at-kind in
    let the-before-inner = c.before_inner in
    inner-refused _ _ the-root-length.ensures.0 _ _ the_at.ensures.0 the-before-inner.ensures.0 _ c.check_element.ensures (refused _ (sym c.is_err.ensures.value ∙ c.if-is_err.true))

pub returns : goal.returns
returns c =
    let the-if2 = c.if-name-opaque in
    let the-root-length = c.root_length-opaque in
    let the_at = c.at-kind in
    let kind = sym c.holds.ensures ∙ c.if-not-holds.false in
    let the-two-at = c.two_at in
    let the-before-inner = c.before_inner in
    inner-there _ _ the-root-length.ensures.0 _ _ the_at.ensures.0 the-before-inner.ensures.0 _ _ kind the-two-at.ensures.0 the-if2.false c.check_element.ensures (accepted _ (sym c.is_err.ensures.value ∙ c.if-is_err.false)) (omega arith)
