-- `wire_reader::check_head` meets its contract: each return's tests are those of one law.
-- Assumes nothing.
use native.Mathlib.Omega.{arith}
use mathlib.Core.Path.{sym, ap, ◌∙◌}
use Rattle.std.proofs.lemmas.Result.{err_from_is_err_and}
use Rattle.refusals.specs.Refusals.{number_of}
use Rattle.wire_reader.specs.Read.{kind_of}
use Rattle.wire_reader.proofs.Message.{short-head, other-size, right-size, was-none, was-some, kind-some, kind-none, head-2, head-3, head-4, head-0}
use Rattle.wire_reader.proofs.check_head.Goals as goal

pub returns-then-message-lt8 : goal.returns-then-message-lt8
returns-then-message-lt8 c = head-2 _ (short-head _ c.if-message-lt8.true)

pub returns-then-two_at-message : goal.returns-then-two_at-message
returns-then-two_at-message c = head-2 _ (other-size _ (λ h. omega arith))

pub returns-in_err-kind : goal.returns-in_err-kind
returns-in_err-kind c =
    let p = err_from_is_err_and c.from_residual.result c.from_residual.ensures.1 in
    let gave = was-none _ _ _ c.in_err-kind.ensures.value in
    rw (p.1, p.2) (ap number_of gave.1 ∙ head-3 _ (right-size _ (omega arith) (omega arith)) (kind-none _ (ap kind_of (sym c.two_at-2.ensures.0) ∙ sym c.kind_of.ensures ∙ gave.0)))

pub returns-then-whole_tlvs : goal.returns-then-whole_tlvs
returns-then-whole_tlvs c =
    let gave = was-some _ _ _ c.in_ok-kind.ensures.value in
    let kind = kind-some _ _ (ap kind_of (sym c.two_at-2.ensures.0) ∙ sym c.kind_of.ensures ∙ gave) in
    (sym (head-0 _ (right-size _ (omega arith) (omega arith)) kind.0 (sym c.whole_tlvs.ensures ∙ c.if-whole_tlvs.true)), kind.1)

pub returns : goal.returns
returns c =
    let gave = was-some _ _ _ c.in_ok-kind.ensures.value in
    let kind = kind-some _ _ (ap kind_of (sym c.two_at-2.ensures.0) ∙ sym c.kind_of.ensures ∙ gave) in
    head-4 _ (right-size _ (omega arith) (omega arith)) kind.0 (sym c.whole_tlvs.ensures ∙ c.if-whole_tlvs.false)
